-- Bench samples of document 01 on times, and samples of request [6], over the definitions.
use Rattle.std.specs.Prelude.{◌≡◌, refl, pos, neg_ℤ}
use Rattle.text.specs.Answers.{gives, refuses}
use Rattle.text.specs.Ascii.{ascii}
use Rattle.text.specs.Bytes.{number_from}
use Rattle.time.specs.Calendar.{days_of_years, days_of_months}
use Rattle.time.specs.Time.{has_form, stamp_of, is_stamp, local_seconds, epoch, offset, instant_of, stamp_time, time_of}

-- 2002-05-24T16:49:00-07:00 is 1,022,284,140
pub sample_2002 : time_of (ascii "2002-05-24T16:49:00-07:00") ≡ gives (pos 1_022_284_140)
unfolding number_from days_of_years days_of_months has_form stamp_of is_stamp local_seconds epoch offset instant_of stamp_time time_of
sample_2002 = refl

-- 0001-01-01T00:00:00-00:00 is -62,135,596,800
pub sample_first : time_of (ascii "0001-01-01T00:00:00-00:00") ≡ gives (neg_ℤ (pos 62_135_596_800))
unfolding number_from days_of_years days_of_months has_form stamp_of is_stamp local_seconds epoch offset instant_of stamp_time time_of
sample_first = refl

-- "10:00:00-00:00 to 11:15:00+01:00, same day: fifteen minutes": the two instants lie 900 seconds apart
pub sample_zones :
    (time_of (ascii "2026-11-15T10:00:00-00:00") ≡ gives (pos 1_794_736_800))
    × (time_of (ascii "2026-11-15T11:15:00+01:00") ≡ gives (pos 1_794_737_700))
unfolding number_from days_of_years days_of_months has_form stamp_of is_stamp local_seconds epoch offset instant_of stamp_time time_of
sample_zones = (refl, refl)

-- Z is refused
pub sample_z : time_of (ascii "2026-11-15T10:00:00Z") ≡ refuses 18 0
unfolding has_form stamp_time time_of
sample_z = refl

-- ---- [6]: hour 24 is 00:00:00 of the next day

-- inside a month, on 28 February of a leap year, at the end of a year and of the year 9999
pub sample_day_end :
    (time_of (ascii "2002-05-24T24:00:00-07:00") ≡ gives (pos 1_022_310_000))
    × (time_of (ascii "2002-05-25T00:00:00-07:00") ≡ gives (pos 1_022_310_000))
    × (time_of (ascii "2000-02-28T24:00:00+00:00") ≡ gives (pos 951_782_400))
    × (time_of (ascii "2000-02-29T00:00:00+00:00") ≡ gives (pos 951_782_400))
    × (time_of (ascii "1999-12-31T24:00:00+00:00") ≡ gives (pos 946_684_800))
    × (time_of (ascii "2000-01-01T00:00:00+00:00") ≡ gives (pos 946_684_800))
    × (time_of (ascii "9999-12-31T24:00:00-14:00") ≡ gives (pos 253_402_351_200))
unfolding number_from days_of_years days_of_months has_form stamp_of is_stamp local_seconds epoch offset instant_of stamp_time time_of
sample_day_end = (refl, refl, refl, refl, refl, refl, refl)

-- a second or a minute later, hour 25; a day that doesn't exist, year 0000; hour 24 in the offset
pub sample_day_end_refused :
    (time_of (ascii "2002-05-24T24:00:01-07:00") ≡ refuses 18 0)
    × (time_of (ascii "2002-05-24T24:01:00-07:00") ≡ refuses 18 0)
    × (time_of (ascii "2002-05-24T25:00:00-07:00") ≡ refuses 18 0)
    × (time_of (ascii "2001-02-29T24:00:00-07:00") ≡ refuses 18 0)
    × (time_of (ascii "0000-12-31T24:00:00-07:00") ≡ refuses 18 0)
    × (time_of (ascii "2002-05-24T24:00:00-24:00") ≡ refuses 18 0)
unfolding number_from has_form stamp_of is_stamp stamp_time time_of
sample_day_end_refused = (refl, refl, refl, refl, refl, refl)
