-- Before each turn the seconds read from i on, with those so far, are those at the start.
use mathlib.Core.Path.{◌≡◌}
use Prim.Native.Nat.{◌-◌}
use lib.ListN.{length, drop}
use Rattle.words.specs.Reading.{duration_at}
use Rattle.spoken.proofs.Turns.{counts_from}
use Rattle.spoken.proofs.reading.duration_at.Given as goal

abbrev pub invariant-loop-n : goal.invariant-loop-n
invariant-loop-n l = counts_from l.s l.i l.sum ≡ duration_at l.at (drop l.at l.s)

abbrev pub decreases-loop-n : goal.decreases-loop-n
decreases-loop-n l = length l.s - l.i
