-- The latitude's tenths of a degree pick the entry, and no entry is above 10^6.
use Rattle.circle.proofs.Near.{cosine_is}
use Rattle.circle.proofs.cosine_at.Goals as goal

pub returns : goal.returns
returns c = rw c.from.ensures (cosine_is _ _ _ c.ranges.lat c.distance-tenths.ensures c.cosine.ensures)
