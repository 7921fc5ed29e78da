-- What is left of the name from i on, and i, is what the name is from its start on.
use mathlib.Core.Path.{◌≡◌}
use Prim.Native.Nat.{◌+◌, ◌-◌}
use lib.ListN.{length, drop}
use Rattle.text.specs.Bytes.{leading}
use Rattle.xml_tags.specs.Bytes.{is_tag_byte}
use Rattle.xml_tags.proofs.ends.name_end.Given as goal

abbrev pub invariant-loop-i : goal.invariant-loop-i
invariant-loop-i l = l.i + leading is_tag_byte (drop l.i l.s) ≡ l.at + leading is_tag_byte (drop l.at l.s)

abbrev pub decreases-loop-i : goal.decreases-loop-i
decreases-loop-i l = length l.s - l.i
