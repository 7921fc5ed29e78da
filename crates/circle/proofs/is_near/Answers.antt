-- The two distances and the cosine are those of the definition.
use borrow.Author.Rules.{rules}
use Rattle.circle.proofs.DateLine.{shorter_le}
use Rattle.circle.proofs.Near.{near_is}
use Rattle.circle.proofs.is_near.Goals as goal

pub scaled-x-requires : goal.scaled-x-requires
scaled-x-requires c = (rw c.longitude_apart.ensures (shorter_le _), c.cosine_at.ensures.1)

pub returns : goal.returns
returns c =
    near_is c.args.centre c.args.place c.args.u (search rules) (search rules) (search rules) (search rules) _ _ _ _ _ c.longitude_apart.ensures
    c.cosine_at.ensures.0 c.scaled-x.ensures c.distance-y.ensures c.within_squares.ensures
