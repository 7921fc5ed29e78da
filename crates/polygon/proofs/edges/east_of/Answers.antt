-- The product of the two differences, of coordinates that were read from a struct.
use borrow.Author.Rules.{rules}
use Rattle.polygon.proofs.Geometry.{east_is}
use Rattle.polygon.proofs.edges.east_of.Goals as goal

pub returns : goal.returns
returns c = let g = c.args in
    east_is g.a g.b g.p _ c.product_of.ensures (search rules) (search rules)
    (search rules) (search rules)
