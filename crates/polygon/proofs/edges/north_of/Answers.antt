-- The product of the two differences, of coordinates that were read from a struct.
use borrow.Author.Rules.{rules}
use Rattle.polygon.proofs.Geometry.{north_is}
use Rattle.polygon.proofs.edges.north_of.Goals as goal

pub returns : goal.returns
returns c = let g = c.args in
    north_is g.a g.b g.p _ c.product_of.ensures (search rules) (search rules)
    (search rules) (search rules)
