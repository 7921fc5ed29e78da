-- From each offset on, in the quote that is open there, the tag ends where it ends from the start on.
use mathlib.Core.Path.{◌≡◌}
use lib.ListN.{drop}
use Rattle.std.specs.Prelude.{None}
use Rattle.xml_tags.specs.Tags.{tag_end}
use Rattle.xml_tags.proofs.ends.tag_end.Given as goal

abbrev pub invariant-loop-i : goal.invariant-loop-i
invariant-loop-i l = tag_end l.quote l.i (drop l.i l.s) ≡ tag_end None l.at (drop l.at l.s)
