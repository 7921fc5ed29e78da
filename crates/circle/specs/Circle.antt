-- Circles (document 01, "Is the studio inside", as amended by document 02, [3]): their texts, and whether a place lies inside.
use Rattle.std.specs.Prelude.{Bool, cond, List, [], ◌∷◌, Option, Some, None, ℕ, ◌+◌, ◌-◌, ◌*◌, ◌/◌, ◌%◌, min, leb, ℤ, nat_abs, ◌-ℤ◌, get_or}
use Rattle.text.specs.Answers.{Answer, gives, refuses, answer_and_then, giving}
use Rattle.text.specs.Tokens.{tokens}
use Rattle.coordinates.specs.declared.Place.{Place}
use Rattle.coordinates.specs.Place.{pair_of}
use Rattle.coordinates.specs.Decimal.{radius_of}
use Rattle.circle.specs.declared.Circle.{Circle}
use Rattle.circle.specs.Cosine.{cosines}

-- ---- "A circle is a pair, white space and a radius, white space leading and trailing alike": two tokens

-- the centre and the radius in metres; 22 is "polygon or circle text"
abbrev pub circle_from : Answer Place → Answer ℕ → Answer (Place × ℕ)
circle_from p r = answer_and_then p (λ c. giving (λ m. (c, m)) r)

unfoldable pub circle_tokens : List (List ℕ) → Answer (Place × ℕ)
circle_tokens [] = refuses 22 0
circle_tokens (a ∷ []) = refuses 22 0
circle_tokens (a ∷ b ∷ []) = circle_from (pair_of a) (radius_of b)
circle_tokens (a ∷ b ∷ c ∷ l) = refuses 22 0

unfoldable pub circle_of : List ℕ → Answer (Place × ℕ)
circle_of l = circle_tokens (tokens l)

abbrev pub circle_answer : Option Circle → Answer (Place × ℕ)
circle_answer (Some c) = gives (c.centre, c.metres)
circle_answer None = refuses 22 0

-- ---- the radius, and the way from the centre to a place, in units of 1e-7 degree

-- "u is metres times 10^7 over 111,195, rounded down"
abbrev pub units_of : ℕ → ℕ
units_of metres = metres * 10_000_000 / 111_195

-- "dy is the latitude difference"
abbrev pub latitude_apart : Place → Place → ℕ
latitude_apart c p = nat_abs (p.lat -ℤ c.lat)

-- 360 degrees
abbrev pub full_turn : ℕ
full_turn = 3_600_000_000

-- "take the shorter way round, so the difference is never above 1,800,000,000": one way is the plain difference without sign, the other
-- what is left of a full turn. A longitude out of range is that of the meridian it comes to: full turns don't count.
unfoldable pub shorter_way : ℕ → ℕ
shorter_way plain = min (plain % full_turn) (full_turn - plain % full_turn)

abbrev pub longitude_apart : Place → Place → ℕ
longitude_apart c p = shorter_way (nat_abs (p.lon -ℤ c.lon))

-- "one for each tenth of a degree of the centre's latitude (rounded toward 0)"
abbrev pub cosine_at : ℤ → ℕ
cosine_at lat = get_or cosines (nat_abs lat / 1_000_000) 0

-- "dx the .. longitude difference, without sign, times cosine over 10^6, rounded down"
abbrev pub longitude_scaled : Place → Place → ℕ
longitude_scaled c p = longitude_apart c p * cosine_at c.lat / 1_000_000

-- "Inside if dx² + dy² is at most u²."
abbrev pub within_squares : ℕ → ℕ → ℕ → Bool
within_squares dx dy u = leb (dx * dx + dy * dy) (u * u)

unfoldable pub in_circle : Place → ℕ → Place → Bool
in_circle c metres p = within_squares (longitude_scaled c p) (latitude_apart c p) (units_of metres)

-- ---- the answers

-- whether the circle of a centre and a radius holds a place; a radius is at most 20,000 km
unfoldable pub around_holds : Place → ℕ → Place → Answer Bool
around_holds c metres p = cond (leb metres 20_000_000) (gives (in_circle c metres p)) (refuses 22 0)

-- whether the circle of a text holds a place
unfoldable pub circle_holds : List ℕ → Place → Answer Bool
circle_holds l p = answer_and_then (circle_of l) (λ c. around_holds c.0 c.1 p)
