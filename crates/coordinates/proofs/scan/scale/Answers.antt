-- The product with a power of ten.
use Rattle.coordinates.proofs.Tens.{scale_is}
use Rattle.coordinates.proofs.scan.scale.Goals as goal

pub returns : goal.returns
returns c = scale_is _ _ _ c.power_of_ten.ensures c.requires.0 c.requires.1
