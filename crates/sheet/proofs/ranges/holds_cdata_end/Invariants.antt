-- As long as no "]]>" starts before i, one stands in the text if one stands from i on.
use mathlib.Core.Path.{◌≡◌}
use lib.ListN.{drop}
use Rattle.sheet.specs.Sheet.{holds_cdata_end}
use Rattle.sheet.proofs.ranges.holds_cdata_end.Given as goal

abbrev pub invariant-loop-i : goal.invariant-loop-i
invariant-loop-i l = holds_cdata_end (drop l.i l.s) ≡ holds_cdata_end l.s
