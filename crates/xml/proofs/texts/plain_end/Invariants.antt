-- What is left of the plain bytes from i on, and i, is what they are from the start on, already after the blocks.
use mathlib.Core.Path.{◌≡◌}
use Prim.Native.Nat.{◌+◌, ◌-◌}
use lib.ListN.{length, drop}
use Rattle.text.specs.Bytes.{leading}
use Rattle.xml.specs.Bytes.{is_plain}
use Rattle.xml.proofs.texts.plain_end.Given as goal

abbrev pub invariant-loop-i : goal.invariant-loop-i
invariant-loop-i l = l.i + leading is_plain (drop l.i l.s) ≡ l.at + leading is_plain (drop l.at l.s)

abbrev pub decreases-loop-i : goal.decreases-loop-i
decreases-loop-i l = length l.s - l.i
