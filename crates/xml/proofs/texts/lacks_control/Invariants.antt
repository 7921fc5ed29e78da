-- After i bytes the answer is whether the run of bytes that are no control bytes has i.
use mathlib.Core.Bool.{not}
use Prim.Native.Nat.{◌-◌}
use Rattle.xml.specs.Bytes.{is_control}
use Rattle.xml.proofs.Contents.{Passed}
use Rattle.xml.proofs.texts.lacks_control.Given as goal

abbrev pub invariant-loop-k : goal.invariant-loop-k
invariant-loop-k l = Passed (λ b. not (is_control b)) l.s l.at l.free l.k

abbrev pub decreases-loop-k : goal.decreases-loop-k
decreases-loop-k l = 16 - l.k
