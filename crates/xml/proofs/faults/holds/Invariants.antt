-- From each offset on p stands somewhere if it does from the start on.
use mathlib.Core.Path.{◌≡◌}
use lib.ListN.{drop}
use Rattle.text.specs.Parts.{starts_with}
use Rattle.xml.specs.Searches.{holds}
use Rattle.xml.proofs.faults.holds.Given as goal

abbrev pub invariant-loop-i : goal.invariant-loop-i
invariant-loop-i l = holds (starts_with l.p) (drop l.i l.s) ≡ holds (starts_with l.p) (drop l.at l.s)
