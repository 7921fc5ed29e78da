-- Decimals (document 01, "Is the studio inside"), read from the front of a text.
use Rattle.std.specs.Prelude.{Bool, false, cond, not, ◌&&◌, ◌||◌, List, [], ◌∷◌, Option, Some, None, ℕ, ◌+◌, ◌-◌, ◌*◌, ◌^◌, eqb, leb, length, take, drop}
use Prim.Native.Char.{code}
use Rattle.text.specs.Answers.{Answer, gives, refuses}
use Rattle.text.specs.Bytes.{digits, number}

-- the byte b leads the text
unfoldable pub leads : ℕ → List ℕ → Bool
leads b [] = false
leads b (c ∷ l) = eqb c b

-- ---- digits, optionally a point and digits

-- the digits before the point, and what stands after them
abbrev pub whole : List ℕ → List ℕ
whole l = take (digits l) l

abbrev pub after_whole : List ℕ → List ℕ
after_whole l = drop (digits l) l

abbrev pub has_point : List ℕ → Bool
has_point l = leads (code ".") (after_whole l)

-- how many digits stand after the point, and these digits; none without a point
unfoldable pub places : List ℕ → ℕ
places l = cond (has_point l) (digits (drop 1 (after_whole l))) 0

unfoldable pub fraction : List ℕ → List ℕ
fraction l = take (places l) (drop 1 (after_whole l))

unfoldable pub decimal_length : List ℕ → ℕ
decimal_length l = cond (has_point l) (digits l + (1 + places l)) (digits l)

-- 1 to w digits, optionally a point and 1 to f digits
unfoldable pub is_decimal : ℕ → ℕ → List ℕ → Bool
is_decimal w f l = leb 1 (digits l) && leb (digits l) w && (not (has_point l) || leb 1 (places l) && leb (places l) f)

-- the number that is written, in units of the f-th decimal place
unfoldable pub scaled : ℕ → List ℕ → ℕ
scaled f l = number (whole l) * 10 ^ f + number (fraction l) * 10 ^ (f - places l)

-- the number that the decimal writes that leads the text l, which stands at offset i, and the offset after it
unfoldable pub decimal_at : ℕ → ℕ → ℕ → List ℕ → Option (ℕ × ℕ)
decimal_at w f i l = cond (is_decimal w f l) (Some (scaled f l, i + decimal_length l)) None

-- ---- "the radius in km: 1 to 5 digits, optionally a point and 1 to 3 digits, at most 20,000": in metres

abbrev pub is_radius : List ℕ → Bool
is_radius l = is_decimal 5 3 l && eqb (decimal_length l) (length l) && leb (scaled 3 l) 20_000_000

unfoldable pub radius_of : List ℕ → Answer ℕ
radius_of l = cond (is_radius l) (gives (scaled 3 l)) (refuses 22 0)
