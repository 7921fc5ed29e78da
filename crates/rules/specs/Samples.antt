-- Worked samples of the rules: texts that keep to their rule (0), and texts that give a refusal.
use Rattle.std.specs.Prelude.{◌≡◌, refl, List, ℕ}
use Rattle.text.specs.Ascii.{ascii}
use Rattle.text.specs.Bytes.{number_from}
use Rattle.text.specs.Tokens.{on_token, longer, tokens}
use Rattle.time.specs.Calendar.{days_of_years, days_of_months}
use Rattle.time.specs.Time.{has_form, stamp_of, is_stamp, local_seconds, epoch, offset, instant_of, stamp_time, time_of}
use Rattle.sheet.specs.Sheet.{all_name_bytes}
use Rattle.coordinates.specs.Decimal.{leads, places, fraction, decimal_length, is_decimal, scaled}
use Rattle.coordinates.specs.Place.{coordinate_at, pair_of}
use Rattle.polygon.specs.Polygon.{places_of, last_of, is_closed, polygon_of}
use Rattle.circle.specs.Circle.{circle_tokens, circle_of}
use Rattle.schema.specs.Classes as class
use Rattle.codes.specs.Lists.{lists, code_of}
use Rattle.rules.specs.Texts.{name_rule, code_rule, time_rule, polygon_rule, circle_rule, text_rule}

-- "codes exactly, no trimming"
pub sample_codes :
    (text_rule class.status (ascii "Actual") ≡ 0)
    × (text_rule class.status (ascii "actual") ≡ 17)
    × (text_rule class.status (ascii " Actual") ≡ 17)
    × (text_rule class.certainty (ascii "Very Likely") ≡ 17)
    × (text_rule class.category (ascii "Safety") ≡ 0)
    × (text_rule class.response_type (ascii "AllClear") ≡ 0)
unfolding lists class.find code_of code_rule text_rule
sample_codes = (refl, refl, refl, refl, refl, refl)

-- a comma, and no byte at all
pub sample_names :
    (text_rule class.sender (ascii "a,b") ≡ 19)
    × (text_rule class.sender (ascii "") ≡ 19)
unfolding all_name_bytes name_rule text_rule
sample_names = (refl, refl)

-- an offset, and Z
pub sample_times :
    (text_rule class.sent (ascii "2002-05-24T16:49:00-07:00") ≡ 0)
    × (text_rule class.sent (ascii "2002-05-24T16:49:00Z") ≡ 18)
unfolding number_from days_of_years days_of_months has_form stamp_of is_stamp local_seconds epoch offset instant_of stamp_time time_of time_rule text_rule
sample_times = (refl, refl)

-- hour 24 in each of the four time elements, and a second later (request [6])
pub sample_day_end :
    (text_rule class.sent (ascii "2002-05-24T24:00:00-07:00") ≡ 0)
    × (text_rule class.effective (ascii "2002-05-24T24:00:00-07:00") ≡ 0)
    × (text_rule class.onset (ascii "2002-05-24T24:00:00-07:00") ≡ 0)
    × (text_rule class.expires (ascii "2002-05-24T24:00:00-07:00") ≡ 0)
    × (text_rule class.sent (ascii "2002-05-24T24:00:01-07:00") ≡ 18)
    × (text_rule class.effective (ascii "2002-05-24T24:00:01-07:00") ≡ 18)
    × (text_rule class.onset (ascii "2002-05-24T24:00:01-07:00") ≡ 18)
    × (text_rule class.expires (ascii "2002-05-24T24:00:01-07:00") ≡ 18)
unfolding number_from days_of_years days_of_months has_form stamp_of is_stamp local_seconds epoch offset instant_of stamp_time time_of time_rule text_rule
sample_day_end = (refl, refl, refl, refl, refl, refl, refl, refl)

-- a closed triangle, and a circle without a radius
pub sample_areas :
    (text_rule class.polygon (ascii "0,0 0,1 1,0 0,0") ≡ 0)
    × (text_rule class.circle (ascii "1,1") ≡ 22)
unfolding number_from on_token longer tokens leads places fraction decimal_length is_decimal scaled coordinate_at pair_of places_of last_of is_closed
    polygon_of circle_tokens circle_of polygon_rule circle_rule text_rule
sample_areas = (refl, refl)

-- event has no rule
pub sample_event : (t : List ℕ) → text_rule class.event t ≡ 0
unfolding text_rule
sample_event t = refl
