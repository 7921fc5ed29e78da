-- Latitudes, longitudes and pairs of them (document 01, "The packet" and "Is the studio inside"), in units of 1e-7 degree.
use Rattle.std.specs.Prelude.{Bool, cond, ◌&&◌, ◌||◌, List, Option, Some, None, ℕ, ◌+◌, eqb, leb, ℤ, pos, neg_ℤ, length, drop}
use Prim.Native.Char.{code}
use Rattle.std.specs.Int.Signed.{le_z}
use Rattle.text.specs.Answers.{Answer, gives, refuses}
use Rattle.coordinates.specs.declared.Place.{Place}
use Rattle.coordinates.specs.Decimal.{leads, is_decimal, scaled, decimal_length}

-- ---- "within 900,000,000 and 1,800,000,000 either way"

abbrev pub latitude_limit : ℕ
latitude_limit = 900_000_000

abbrev pub longitude_limit : ℕ
longitude_limit = 1_800_000_000

abbrev pub within : ℕ → ℤ → Bool
within limit z = le_z (neg_ℤ (pos limit)) z && le_z z (pos limit)

abbrev pub in_range : Place → Bool
in_range p = within latitude_limit p.lat && within longitude_limit p.lon

-- ---- "optional sign, 1 to 3 digits, optionally a point and 1 to 7 digits, within range"

abbrev pub sign_length : List ℕ → ℕ
sign_length l = cond (leads (code "+") l || leads (code "-") l) 1 0

abbrev pub unsigned : List ℕ → List ℕ
unsigned l = drop (sign_length l) l

abbrev pub is_coordinate : ℕ → List ℕ → Bool
is_coordinate limit l = is_decimal 3 7 (unsigned l) && leb (scaled 7 (unsigned l)) limit

abbrev pub coordinate_value : List ℕ → ℤ
coordinate_value l = cond (leads (code "-") l) (neg_ℤ (pos (scaled 7 (unsigned l)))) (pos (scaled 7 (unsigned l)))

abbrev pub coordinate_length : List ℕ → ℕ
coordinate_length l = sign_length l + decimal_length (unsigned l)

-- the coordinate that leads the text l, which stands at offset i, and the offset after it
unfoldable pub coordinate_at : ℕ → ℕ → List ℕ → Option (ℤ × ℕ)
coordinate_at limit i l = cond (is_coordinate limit l) (Some (coordinate_value l, i + coordinate_length l)) None

-- the coordinate that a whole text writes
unfoldable pub degrees_of : ℕ → List ℕ → Answer ℤ
degrees_of limit l = cond (is_coordinate limit l && eqb (coordinate_length l) (length l)) (gives (coordinate_value l)) (refuses 22 0)

-- ---- "A pair is latitude, comma, longitude"

abbrev pub after_comma : List ℕ → List ℕ
after_comma l = drop (coordinate_length l + 1) l

abbrev pub is_pair : List ℕ → Bool
is_pair l = is_coordinate latitude_limit l && leads (code ",") (drop (coordinate_length l) l) && is_coordinate longitude_limit (after_comma l)

abbrev pub pair_value : List ℕ → Place
pair_value l = record { lat = coordinate_value l; lon = coordinate_value (after_comma l) }

abbrev pub pair_length : List ℕ → ℕ
pair_length l = coordinate_length l + 1 + coordinate_length (after_comma l)

-- the pair that leads the text l, which stands at offset i, and the offset after it
unfoldable pub pair_at : ℕ → List ℕ → Option (Place × ℕ)
pair_at i l = cond (is_pair l) (Some (pair_value l, i + pair_length l)) None

-- the pair that a whole text writes
unfoldable pub pair_of : List ℕ → Answer Place
pair_of l = cond (is_pair l && eqb (pair_length l) (length l)) (gives (pair_value l)) (refuses 22 0)
