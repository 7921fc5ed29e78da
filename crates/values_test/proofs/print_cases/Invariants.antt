-- Each turn starts further on.
use Rattle.std.proofs.Common.{length}
use Rattle.values_test.proofs.print_cases.Given as goal

abbrev pub invariant-loop-kind : goal.invariant-loop-kind
invariant-loop-kind g l = Unit {0}

abbrev pub decreases-loop-kind : goal.decreases-loop-kind
decreases-loop-kind g l = length l.rest
