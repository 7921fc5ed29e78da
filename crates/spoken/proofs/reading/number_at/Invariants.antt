-- Before each turn the number read from i on, with the groups so far, is the number at the start.
use mathlib.Core.Path.{◌≡◌}
use Prim.Native.Nat.{◌-◌, ◌<◌}
use lib.ListN.{length, drop}
use Rattle.words.specs.Reading.{number_at}
use Rattle.spoken.proofs.Turns.{number_from}
use Rattle.spoken.proofs.reading.number_at.Given as goal

abbrev pub invariant-loop-w : goal.invariant-loop-w
invariant-loop-w l = (l.g.sum < 4_294_967_296) × (l.g.current < 4_294_967_296) × (number_from l.s l.i l.g ≡ number_at l.at (drop l.at l.s))

abbrev pub decreases-loop-w : goal.decreases-loop-w
decreases-loop-w l = length l.s - l.i
