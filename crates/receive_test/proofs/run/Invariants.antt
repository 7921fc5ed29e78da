-- Each turn takes a record.
use Rattle.std.proofs.Common.{length}
use Rattle.receive_test.proofs.run.Given as goal

abbrev pub invariant-loop-record : goal.invariant-loop-record
invariant-loop-record g l = Unit {0}

abbrev pub decreases-loop-record : goal.decreases-loop-record
decreases-loop-record g l = length l.rest
