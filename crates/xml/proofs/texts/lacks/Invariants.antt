-- After i bytes the answer is whether the run of other bytes has i.
use mathlib.Core.Bool.{not}
use Prim.Native.Nat.{◌-◌}
use lib.Dec.{eqb}
use Rattle.xml.proofs.Contents.{Passed}
use Rattle.xml.proofs.texts.lacks.Given as goal

abbrev pub invariant-loop-i : goal.invariant-loop-i
invariant-loop-i l = Passed (λ b. not (eqb b l.x)) l.s l.at l.free l.i

abbrev pub decreases-loop-i : goal.decreases-loop-i
decreases-loop-i l = 16 - l.i
