-- The bit is taken from the number that the two bytes write.
use Rattle.std.proofs.Common.{ap, arith, ℕ, ◌-◌, ◌/◌, ◌%◌, ◌^◌}
use lib.Dec.{eqb}
use Rattle.packet.specs.Packet.{flag}
use Rattle.packet.proofs.Numbers.{number_two}
use Rattle.packet.proofs.layout.flag.Goals as goal

pub returns : goal.returns
unfolding flag
returns c = ap (λ (n : ℕ). eqb (n / 2 ^ (15 - c.args.bit) % 2) 1)
    (number_two c.args.p.now 0x06 _ _ c.from_be_bytes.ensures c.bytes_at.ensures (omega arith))
