-- The case of document 02, [3], on packets, over the definitions.
use Rattle.std.specs.Prelude.{◌≡◌, refl, true, false, List, [], ◌∷◌, ◌++◌, ℕ, zero, suc, ◌-◌, ◌/◌, ◌%◌, ◌^◌}
use Rattle.text.specs.Ascii.{ascii}
use Rattle.text.specs.Answers.{gives}
use Rattle.circle.specs.Cosine.{cosines}
use Rattle.circle.specs.Circle.{shorter_way, in_circle, around_holds}
use Rattle.circle.specs.Samples.{customer}
use Rattle.packet.specs.BigEndian.{big_endian_from, number_of}
use Rattle.packet.specs.Packet.{flag, coordinate, fields_of, packet_of, packet_place}

-- a number in `width` bytes
abbrev pub bytes_of : (width n : ℕ) → List ℕ
bytes_of zero n = []
bytes_of (suc width) n = n / 0x100 ^ width % 0x100 ∷ bytes_of width n

-- a negative coordinate in four bytes
abbrev pub minus : ℕ → List ℕ
minus n = bytes_of 4 (0x1_0000_0000 - n)

-- an ALERT of 132 bytes that lasts 60 seconds, its epicentre at latitude -16.8, longitude -179.99, all else 0
abbrev pub with_radius : (radius : ℕ) → List ℕ
with_radius radius =
    ascii "WARN" ++ bytes_of 2 0x0100 ++ bytes_of 2 0x8000 ++ bytes_of 30 0 ++ bytes_of 8 60 ++ bytes_of 8 0 ++ minus 168_000_000 ++ minus 1_799_900_000
    ++ bytes_of 2 radius ++ bytes_of 68 0

-- 2,130 m reach the customer at longitude 179.99, 2,120 m don't
pub sample_date_line : (packet_place (with_radius 213) customer ≡ gives true) × (packet_place (with_radius 212) customer ≡ gives false)
unfolding big_endian_from number_of flag coordinate fields_of packet_of packet_place cosines shorter_way in_circle around_holds
sample_date_line = (refl, refl)
