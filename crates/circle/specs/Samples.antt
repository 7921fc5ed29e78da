-- Bench samples of document 01 on circles and the case of document 02, [3], over the definitions.
use Rattle.std.specs.Prelude.{◌≡◌, refl, true, false, ℕ, pos, neg_ℤ}
use Rattle.text.specs.Answers.{gives}
use Rattle.text.specs.Ascii.{ascii}
use Rattle.text.specs.Bytes.{number_from}
use Rattle.text.specs.Tokens.{tokens, on_token, longer}
use Rattle.coordinates.specs.declared.Place.{Place}
use Rattle.coordinates.specs.Place.{pair_of}
use Rattle.coordinates.specs.Decimal.{leads, places, fraction, scaled, is_decimal, decimal_length, radius_of}
use Rattle.circle.specs.Cosine.{cosines}
use Rattle.circle.specs.Circle.{units_of, shorter_way, in_circle, around_holds, circle_tokens, circle_of, circle_holds}

-- the place n units north of the equator at longitude 0
abbrev pub north : ℕ → Place
north n = record { lat = pos n; lon = pos 0 }

-- 1,000 m: u is 89,932; due north 89,932 inside, 89,933 outside
pub sample_circle :
    (units_of 1_000 ≡ 89_932)
    × (around_holds (north 0) 1_000 (north 89_932) ≡ gives true)
    × (around_holds (north 0) 1_000 (north 89_933) ≡ gives false)
unfolding cosines shorter_way in_circle around_holds
sample_circle = (refl, refl, refl)

-- a place on Taveuni, just west of the date line
abbrev pub customer : Place
customer = record { lat = neg_ℤ (pos 168_000_000); lon = pos 1_799_900_000 }

-- "A customer near the date line at longitude 179.99 was told a circle centred at -179.99 didn't reach him.": 2,129 m reach him, 2,128 m don't
pub sample_date_line :
    (circle_holds (ascii "-16.8,-179.99 2.129") customer ≡ gives true) × (circle_holds (ascii "-16.8,-179.99 2.128") customer ≡ gives false)
unfolding tokens on_token longer number_from leads places fraction scaled is_decimal decimal_length radius_of pair_of cosines shorter_way in_circle around_holds
    circle_tokens circle_of circle_holds
sample_date_line = (refl, refl)
