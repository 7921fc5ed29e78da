-- Each field is the number that its bytes write.
use Rattle.std.proofs.Common.{arith, rules}
use Rattle.packet.specs.Packet.{fields_of}
use Rattle.packet.proofs.Numbers.{number_one, number_two, number_four, number_eight}
use Rattle.packet.proofs.Signs.{coordinate_at}
use Rattle.packet.proofs.layout.fields_of.Goals as goal

pub returns : goal.returns
unfolding fields_of
returns c = let p = c.args.p.now in
    λ i. record {
      urgent = c.flag.ensures i;
      update = c.flag-2.ensures i;
      cancel = c.flag-3.ensures i;
      test = c.flag-4.ensures i;
      timestamp = number_eight p 0x08 _ _ c.from_be_bytes.ensures c.bytes_at.ensures (omega arith) i;
      event = number_four p 0x10 _ _ c.from_be_bytes-2.ensures c.bytes_at-2.ensures (omega arith) i;
      sequence = number_two p 0x14 _ _ c.from_be_bytes-3.ensures c.bytes_at-3.ensures (omega arith) i;
      ttl = number_two p 0x16 _ _ c.from_be_bytes-4.ensures c.bytes_at-4.ensures (omega arith) i;
      hazard_major = number_one p 0x18 (omega arith) i;
      hazard_minor = number_one p 0x19 (omega arith) i;
      urgency = number_one p 0x1A (omega arith) i;
      severity = number_one p 0x1B (omega arith) i;
      certainty = number_one p 0x1C (omega arith) i;
      response = number_one p 0x1D (omega arith) i;
      onset = number_eight p 0x1E _ _ c.from_be_bytes-5.ensures c.bytes_at-5.ensures (omega arith) i;
      expiry = number_eight p 0x26 _ _ c.from_be_bytes-6.ensures c.bytes_at-6.ensures (omega arith) i;
      effective = number_eight p 0x2E _ _ c.from_be_bytes-7.ensures c.bytes_at-7.ensures (omega arith) i;
      lat = coordinate_at p 0x36 _ _ (search rules) c.from_be_bytes-8.ensures c.bytes_at-8.ensures (omega arith) i;
      lon = coordinate_at p 0x3A _ _ (search rules) c.from_be_bytes-9.ensures c.bytes_at-9.ensures (omega arith) i;
      radius = number_two p 0x3E _ _ c.from_be_bytes-10.ensures c.bytes_at-10.ensures (omega arith) i;
      key = number_four p _ _ _ c.from_be_bytes-11.ensures c.bytes_at-11.ensures (omega arith) i;
    }
