-- The running events among the entries before i are counted.
use Rattle.std.proofs.Common.{◌≡◌, length}
use Rattle.events.specs.Running.{running_to}
use Rattle.events.proofs.lists.count.Given as goal

abbrev pub invariant-loop-i : goal.invariant-loop-i
invariant-loop-i l = l.count ≡ length (running_to l.time l.entries l.i)
