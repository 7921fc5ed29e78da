-- The product of two numbers below 2^32 and a third fit in 64 bits.
use native.Mathlib.Omega.{arith}
use Rattle.spoken.proofs.Groups.{count_le}
use Rattle.spoken.proofs.reading.add_count.Goals as goal

pub overflow_mul-result : goal.overflow_mul-result
overflow_mul-result c = omega (arith, count_le c.args.n c.args.unit c.ranges.n.fits c.ranges.unit.fits)

pub overflow_add-result : goal.overflow_add-result
overflow_add-result c = omega (arith, count_le c.args.n c.args.unit c.ranges.n.fits c.ranges.unit.fits)
