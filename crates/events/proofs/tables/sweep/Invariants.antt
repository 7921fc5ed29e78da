-- The entries before the index are swept and the others as they were.
use Rattle.std.proofs.Common.{◌≡◌}
use Rattle.events.proofs.Sweeping.{swept_to}
use Rattle.events.proofs.tables.sweep.Given as goal

abbrev pub invariant-loop-entry : goal.invariant-loop-entry
invariant-loop-entry l = l.entries ≡ swept_to l.time l.initial.entries l.entry-index
