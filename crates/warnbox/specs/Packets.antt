-- A packet as C reads it: its fields, and where its TLV block, the bytes that are signed and the signature stand in it.
use Rattle.std.specs.Prelude.{List, ℕ}
use mir.Val.{bool_byte}
use Rattle.packet.specs.declared.Fields.{Fields}
use Rattle.packet.specs.Packet.{tlv_span, signed_span, signature_span}
use Rattle.warnbox.specs.declared.packets.PacketParts.{PacketParts}

-- of the packet p with the fields f; a flag is 1 or 0
unfoldable pub parts_of : List ℕ → Fields → PacketParts
parts_of p f = record {
  timestamp = f.timestamp;
  onset = f.onset;
  expiry = f.expiry;
  effective = f.effective;
  tlv = tlv_span p;
  signed = signed_span p;
  signature = signature_span p;
  event = f.event;
  key = f.key;
  latitude = f.lat;
  longitude = f.lon;
  sequence = f.sequence;
  ttl = f.ttl;
  radius = f.radius;
  urgent = bool_byte f.urgent;
  update = bool_byte f.update;
  cancel = bool_byte f.cancel;
  test = bool_byte f.test;
  hazard_major = f.hazard_major;
  hazard_minor = f.hazard_minor;
  urgency = f.urgency;
  severity = f.severity;
  certainty = f.certainty;
  response = f.response;
}
