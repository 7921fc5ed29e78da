-- The callees give the order of the two products; off the line the crossing decides, on it the box.
use borrow.Author.Rules.{rules}
use Rattle.polygon.proofs.Geometry.{off_line, on_line}
use Rattle.polygon.proofs.edges.edge_of.Goals as goal

pub returns-then-less-more : goal.returns-then-less-more
returns-then-less-more c = let g = c.args in
    off_line g.a g.b g.p _ _ _ _ c.east_of-east.ensures c.north_of-north.ensures c.is_less-less.ensures
    c.is_less-more.ensures _ c.if-less-more.true c.is_crossed.ensures (search rules)
    (search rules) (search rules)

pub returns-else-less-more : goal.returns-else-less-more
returns-else-less-more c = let g = c.args in
    on_line g.a g.b g.p _ _ _ _ c.east_of-east.ensures c.north_of-north.ensures c.is_less-less.ensures
    c.is_less-more.ensures _ c.if-less-more.false c.in_box.ensures
