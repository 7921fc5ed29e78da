-- The two ways round are those of the plain difference.
use Rattle.integers.specs.Bits.{apart}
use Rattle.circle.specs.Circle.{shorter_way}
use Rattle.circle.proofs.longitude_apart.Goals as goal

pub returns : goal.returns
unfolding shorter_way
returns c = rw (← apart _ _ c.ranges.a c.ranges.b _ c.distance-one_way.ensures) c.min.ensures
