-- The fields of a packet keep their widths, so the sheet of an accepted packet keeps to the ranges.
use mathlib.Core.Path.{◌≡◌, refl}
use mathlib.Core.Bool.{true}
use mathlib.Core.List.{List}
use Prim.Native.Nat.{ℕ, ◌-◌, ◌<◌}
use borrow.Author.Tests.{lt-ltb}
use lib.ListN.{length}
use Rattle.text.specs.Logic.{clash}
use Rattle.text.specs.Answers.{Answer, gives, refuses, giving}
use Rattle.sheet.specs.declared.WarnFacts.{WarnFacts}
use Rattle.sheet.specs.Sheet.{warn, fits_packet, in_range}
use Rattle.packet.specs.declared.Fields.{Fields}
use Rattle.packet.specs.Packet.{fields_of, packet_of, sheet_of_fields, packet_sheet}
use Rattle.packet.specs.BigEndian.{number_of}
use Rattle.packet.proofs.Numbers.{Bytes, number_lt}
use Rattle.packet.proofs.Acceptance.{accepted}

-- ---- the sheet

module _ (p : List ℕ) (b : Bytes p) where
  sheet_fits : fits_packet (sheet_of_fields (fields_of p)) ≡ true
  unfolding fits_packet sheet_of_fields fields_of
  sheet_fits =
      rw (
        lt-ltb (number_of 4 0x10 p) _ (number_lt p 0x10 b 4),
        lt-ltb (number_of 2 0x14 p) _ (number_lt p 0x14 b 2),
        lt-ltb (number_of 4 (length p - 68) p) _ (number_lt p (length p - 68) b 4),
        lt-ltb (number_of 1 0x18 p) _ (number_lt p 0x18 b 1),
        lt-ltb (number_of 1 0x19 p) _ (number_lt p 0x19 b 1),
        lt-ltb (number_of 1 0x1A p) _ (number_lt p 0x1A b 1),
        lt-ltb (number_of 1 0x1B p) _ (number_lt p 0x1B b 1),
        lt-ltb (number_of 1 0x1C p) _ (number_lt p 0x1C b 1),
        lt-ltb (number_of 1 0x1D p) _ (number_lt p 0x1D b 1),
      )

-- ---- an accepted packet

module _ (p : List ℕ) (b : Bytes p) (f : Fields) (e : packet_of p ≡ gives f) where
  accepted_sheet : in_range (warn (sheet_of_fields f)) ≡ true
  unfolding in_range sheet_of_fields
  accepted_sheet = let a = accepted p f e in rw a.lasts (rw a.fields (sheet_fits p b))

  pub sequence_lt : f.sequence < 0x1_0000
  unfolding fields_of
  sequence_lt = rw (accepted p f e).fields (number_lt p 0x14 b 2)

-- every sheet drawn from a packet keeps to the ranges
pub drawn_in_range : (p : List ℕ) → Bytes p → (x : WarnFacts) → packet_sheet p ≡ gives x → in_range (warn x) ≡ true
unfolding packet_sheet
drawn_in_range p b x e = go (packet_of p) refl e
  where
    same : (x y : WarnFacts) → gives x ≡ gives y → y ≡ x
    same x y q = cc

    go : (o : Answer Fields) → packet_of p ≡ o → giving sheet_of_fields o ≡ gives x → in_range (warn x) ≡ true
    go (gives f) g q = rw (same (sheet_of_fields f) x q) (accepted_sheet p b f g)
    go (refuses n k) g q = clash (cc)
