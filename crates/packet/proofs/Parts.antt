-- The parts of a packet: its TLV block, its signature and the bytes that are signed.
use mathlib.Core.Path.{◌≡◌, refl}
use mathlib.Core.List.{List, ◌++◌}
use Prim.Native.Nat.{ℕ, ◌-◌}
use native.Mathlib.Omega.{arith}
use lib.ListN.{length, drop, length-drop, take-append-drop}
use lib.Seq.{take_all}
use Rattle.sheet.specs.Reading.{span_in}
use Rattle.packet.specs.Packet.{tlv_of, signature_of, tlv_span, signature_span, signed_span}

module _ (p : List ℕ) where
  pub tlv_bytes : span_in p (tlv_span p) ≡ tlv_of p
  unfolding tlv_of
  tlv_bytes = refl

  pub signature_bytes : span_in p (signature_span p) ≡ signature_of p
  unfolding signature_of
  signature_bytes = take_all 64 (drop (length p - 64) p) (rw (length-drop (length p - 64) p) (omega arith))

  -- the bytes that are signed, and then the signature, are the packet
  pub signed_then_signature : span_in p (signed_span p) ++ signature_of p ≡ p
  unfolding signature_of
  signed_then_signature = take-append-drop (length p - 64) p
