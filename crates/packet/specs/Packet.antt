-- The packet (document 01, "The packet" and "Refusal numbers").
use Rattle.std.specs.Prelude.{Bool, cond, not, Result, Ok, Err, List, ℕ, ◌-◌, ◌*◌, ◌/◌, ◌%◌, ◌^◌, eqb, ltb, ℤ, length, take, drop}
use Rattle.std.specs.Int.{w32}
use Rattle.std.proofs.Common.{to_z}
use Rattle.text.specs.Ascii.{ascii}
use Rattle.text.specs.Logic.{eql}
use Rattle.text.specs.Answers.{Answer, gives, refuses, answer_and_then, giving}
use Rattle.words.specs.Duration.{is_lasting}
use Rattle.coordinates.specs.declared.Place.{Place}
use Rattle.coordinates.specs.Place.{in_range}
use Rattle.circle.specs.Circle.{around_holds}
use Rattle.sheet.specs.declared.WarnFacts.{WarnFacts}
use Rattle.sheet.specs.declared.Span.{Span}
use Rattle.packet.specs.declared.Fields.{Fields}
use Rattle.packet.specs.declared.Fault.{Fault}
use Rattle.packet.specs.declared.Fault.TheVariants as fault
use Rattle.packet.specs.declared.PlaceFault.{PlaceFault}
use Rattle.packet.specs.declared.PlaceFault.TheVariants as place
use Rattle.packet.specs.BigEndian.{number_of}

-- ---- the fields

-- "flag bit 0 is the top bit of the 16: ALERT, URGENT, UPDATE, CANCEL, TEST, the rest ignored"
unfoldable pub flag : ℕ → List ℕ → Bool
flag bit p = eqb (number_of 2 0x06 p / 2 ^ (15 - bit) % 2) 1

-- "Coordinates are signed": the two's complement number of 32 bits
unfoldable pub coordinate : ℕ → List ℕ → ℤ
coordinate at p = to_z w32 (number_of 4 at p)

-- "then in the last 68 bytes key id (4) and signature (64)"
unfoldable pub fields_of : List ℕ → Fields
fields_of p = record {
  urgent = flag 1 p;
  update = flag 2 p;
  cancel = flag 3 p;
  test = flag 4 p;
  timestamp = number_of 8 0x08 p;
  event = number_of 4 0x10 p;
  sequence = number_of 2 0x14 p;
  ttl = number_of 2 0x16 p;
  hazard_major = number_of 1 0x18 p;
  hazard_minor = number_of 1 0x19 p;
  urgency = number_of 1 0x1A p;
  severity = number_of 1 0x1B p;
  certainty = number_of 1 0x1C p;
  response = number_of 1 0x1D p;
  onset = number_of 8 0x1E p;
  expiry = number_of 8 0x26 p;
  effective = number_of 8 0x2E p;
  lat = coordinate 0x36 p;
  lon = coordinate 0x3A p;
  radius = number_of 2 0x3E p;
  key = number_of 4 (length p - 68) p;
}

-- "0x40 TLV block"; it is handed back as a part of the packet
unfoldable pub tlv_of : List ℕ → List ℕ
tlv_of p = take (length p - 132) (drop 0x40 p)

unfoldable pub signature_of : List ℕ → List ℕ
signature_of p = drop (length p - 64) p

-- where they stand in the packet, for callers that take its parts by offset and length; proofs/Parts.antt has that these are the parts' bytes
abbrev pub tlv_span : List ℕ → Span
tlv_span p = record { start = 0x40; len = length p - 132 }

abbrev pub signature_span : List ℕ → Span
signature_span p = record { start = length p - 64; len = 64 }

-- what the signature signs: the bytes before it
abbrev pub signed_span : List ℕ → Span
signed_span p = record { start = 0; len = length p - 64 }

abbrev pub epicentre : Fields → Place
epicentre f = record { lat = f.lat; lon = f.lon }

-- "The packet lasts expiry minus timestamp." An expiry before the timestamp leaves 0, which is no lasting time.
abbrev pub lasting_of : Fields → ℕ
lasting_of f = f.expiry - f.timestamp

-- ---- "WARN order: 1 (8 bytes), 2, 3, 4, 1 (132), 5, 6, 7"; a refusal's place is 0

-- from 6 on, by the fields
abbrev pub accepted_of : Fields → Answer Fields
accepted_of f =
    cond (not (in_range (epicentre f))) (refuses 6 0)
    (cond (not (is_lasting (lasting_of f))) (refuses 7 0)
    (gives f))

-- from the second 1 on, by the length of an ALERT
abbrev pub alert_of : List ℕ → Answer Fields
alert_of p =
    cond (ltb (length p) 132) (refuses 1 0)
    (cond (ltb 1_200 (length p)) (refuses 5 0)
    (accepted_of (fields_of p)))

unfoldable pub packet_of : List ℕ → Answer Fields
packet_of p =
    cond (ltb (length p) 8) (refuses 1 0)
    (cond (not (eql (take 4 p) (ascii "WARN"))) (refuses 2 0)
    (cond (not (eqb (number_of 1 0x04 p) 1)) (refuses 3 0)
    (cond (not (flag 0 p)) (refuses 4 0)
    (alert_of p))))

abbrev pub fault_number : Fault → ℕ
fault_number fault.Short = 1
fault_number fault.NotWarn = 2
fault_number fault.Version = 3
fault_number fault.NotAlert = 4
fault_number fault.Long = 5
fault_number fault.Range = 6
fault_number fault.Lasting = 7

abbrev pub packet_answer : Result Fields Fault → Answer Fields
packet_answer (Ok f) = gives f
packet_answer (Err e) = refuses (fault_number e) 0

-- ---- the sheet: "number being the packet's sequence, origin its key id, hazard and kind its hazard major and minor"

unfoldable pub sheet_of_fields : Fields → WarnFacts
sheet_of_fields f = record {
  urgent = f.urgent;
  update = f.update;
  cancel = f.cancel;
  test = f.test;
  event = f.event;
  number = f.sequence;
  origin = f.key;
  lasting = lasting_of f;
  hazard = f.hazard_major;
  kind = f.hazard_minor;
  urgency = f.urgency;
  severity = f.severity;
  certainty = f.certainty;
  response = f.response;
}

unfoldable pub packet_sheet : List ℕ → Answer WarnFacts
packet_sheet p = giving sheet_of_fields (packet_of p)

abbrev pub sheet_answer : Result WarnFacts Fault → Answer WarnFacts
sheet_answer (Ok w) = gives w
sheet_answer (Err e) = refuses (fault_number e) 0

-- ---- the place: "A packet's shape is the circle of its epicentre and radius", the radius in 10 m; the packet's own refusals, then 6 for the place

abbrev pub placed_in : Fields → Place → Answer Bool
placed_in f place = cond (in_range place) (around_holds (epicentre f) (10 * f.radius) place) (refuses 6 0)

unfoldable pub packet_place : List ℕ → Place → Answer Bool
packet_place p place = answer_and_then (packet_of p) (λ (f : Fields). placed_in f place)

abbrev pub place_answer : Result Bool PlaceFault → Answer Bool
place_answer (Ok inside) = gives inside
place_answer (Err place.OutOfRange) = refuses 6 0
place_answer (Err (place.Packet e)) = refuses (fault_number e) 0
