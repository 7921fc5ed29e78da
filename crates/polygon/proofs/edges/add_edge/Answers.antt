-- The edge is skipped and adds nothing, or is judged.
use mathlib.Core.Path.{sym, ◌∙◌}
use borrow.Author.Rules.{rules}
use Rattle.polygon.proofs.Geometry.{skipped_is}
use Rattle.polygon.proofs.Skips.{plus_skipped}
use Rattle.polygon.proofs.edges.add_edge.Goals as goal

pub returns-then-on_one_side : goal.returns-then-on_one_side
returns-then-on_one_side c = let g = c.args in
    plus_skipped g.sum g.a g.b g.p
    (sym
    (skipped_is g.a g.b g.p _ c.on_one_side.ensures (search rules)
    (search rules) (search rules))
    ∙ c.if-on_one_side.true)
