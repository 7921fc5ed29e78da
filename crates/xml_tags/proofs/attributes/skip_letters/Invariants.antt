-- What is left to skip from i on, and i, is what was to skip from the start on.
use mathlib.Core.Path.{◌≡◌}
use Prim.Native.Nat.{◌+◌, ◌-◌}
use lib.ListN.{length, drop}
use Rattle.text.specs.Bytes.{leading}
use Rattle.xml_tags.specs.Bytes.{is_letter}
use Rattle.xml_tags.proofs.attributes.skip_letters.Given as goal

abbrev pub invariant-loop-i : goal.invariant-loop-i
invariant-loop-i l = l.i + leading is_letter (drop l.i l.s) ≡ l.at + leading is_letter (drop l.at l.s)

abbrev pub decreases-loop-i : goal.decreases-loop-i
decreases-loop-i l = length l.s - l.i
