-- Before each turn what is left of p leads what is left of t exactly if p leads t.
use mathlib.Core.Path.{◌≡◌}
use lib.ListN.{drop}
use Rattle.text.specs.Parts.{starts_with}
use Rattle.text.proofs.starts_with.Given as goal

abbrev pub invariant-loop-i : goal.invariant-loop-i
invariant-loop-i l = starts_with (drop l.i l.p) (drop l.i l.t) ≡ starts_with l.p l.t
