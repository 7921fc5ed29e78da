-- CAP times (document 01, "The document", second paragraph, with request [6] of document 02) and the instants they name.
use Rattle.std.specs.Prelude.{Bool, true, false, cond, not, ◌&&◌, ◌||◌, List, [], ◌∷◌, Option, Some, None, ℕ, ◌+◌, ◌*◌, eqb, leb, ℤ, pos, neg_ℤ, ◌-ℤ◌, length, take, drop, get_or}
use Prim.Native.Char.{code}
use Rattle.text.specs.Answers.{Answer, gives, refuses}
use Rattle.text.specs.Ascii.{ascii}
use Rattle.text.specs.Bytes.{is_digit, drop_space, all_space, number}
use Rattle.time.specs.declared.Stamp.{Stamp}
use Rattle.time.specs.Calendar.{month_days, days_before, days_before_year}

-- ---- "the form dddd-dd-ddTdd:dd:dd, + or -, dd:dd": d stands for a digit, s for the sign

abbrev pub form : List ℕ
form = ascii "dddd-dd-ddTdd:dd:ddsdd:dd"

abbrev pub is_sign : ℕ → Bool
is_sign b = eqb b (code "+") || eqb b (code "-")

-- a byte is what the form's byte f asks: a digit, a sign, or that byte itself
abbrev pub is_form_byte : ℕ → ℕ → Bool
is_form_byte f b =
    eqb f (code "d") && is_digit b
    || eqb f (code "s") && is_sign b
    || not (eqb f (code "d")) && not (eqb f (code "s")) && eqb b f

-- as many bytes as the form has, each what it asks
unfoldable pub has_form : List ℕ → List ℕ → Bool
has_form [] [] = true
has_form [] (b ∷ l) = false
has_form (f ∷ fs) [] = false
has_form (f ∷ fs) (b ∷ l) = is_form_byte f b && has_form fs l

-- the number that the n digits from byte i on write
abbrev pub digits_at : ℕ → ℕ → List ℕ → ℕ
digits_at i n l = number (take n (drop i l))

-- the numbers that a text of the form writes
unfoldable pub stamp_of : List ℕ → Stamp
stamp_of l = record {
  year = digits_at 0 4 l;
  month = digits_at 5 2 l;
  day = digits_at 8 2 l;
  hour = digits_at 11 2 l;
  minute = digits_at 14 2 l;
  second = digits_at 17 2 l;
  west = eqb (get_or l 19 0) (code "-");
  offset_hour = digits_at 20 2 l;
  offset_minute = digits_at 23 2 l;
}

-- ---- "Years 0001 to 9999, a day that exists, hours to 23, minutes (the offset's too) and seconds to 59, offset to 14:00."

abbrev pub is_date : ℕ → ℕ → ℕ → Bool
is_date y m d = leb 1 y && leb y 9999 && leb 1 m && leb m 12 && leb 1 d && leb d (month_days y m)

-- [6]: "hour 24 with zero minutes and seconds", and "Any other hour 24 stays refusal 18"
abbrev pub is_day_end : ℕ → ℕ → ℕ → Bool
is_day_end h m s = eqb h 24 && eqb m 0 && eqb s 0

abbrev pub is_clock : ℕ → ℕ → ℕ → Bool
is_clock h m s = leb h 23 && leb m 59 && leb s 59 || is_day_end h m s

abbrev pub is_offset : ℕ → ℕ → Bool
is_offset h m = leb m 59 && leb (60 * h + m) (60 * 14)

unfoldable pub is_stamp : Stamp → Bool
is_stamp t =
    is_date t.year t.month t.day
    && is_clock t.hour t.minute t.second
    && is_offset t.offset_hour t.offset_minute

-- ---- "An instant is whole seconds from 1970, negative before."

-- the seconds from 0001-01-01T00:00:00 to what the calendar and the clock say. Hour 24 lies a whole day after the day's start: [6]'s "meaning 00:00:00
-- of the next day" (DayEnd.antt)
unfoldable pub local_seconds : Stamp → ℕ
local_seconds t =
    86_400 * days_before t.year t.month t.day + 3_600 * t.hour + 60 * t.minute + t.second

-- the seconds from 0001-01-01T00:00:00 to 1970-01-01T00:00:00
unfoldable pub epoch : ℕ
epoch = 86_400 * days_before_year 1970

-- how far the clock is ahead of UTC, in seconds; negative to the west of it
unfoldable pub offset : Stamp → ℤ
offset t =
    cond t.west
    (neg_ℤ (pos (3_600 * t.offset_hour + 60 * t.offset_minute)))
    (pos (3_600 * t.offset_hour + 60 * t.offset_minute))

-- the offset is taken off
unfoldable pub instant_of : Stamp → ℤ
instant_of t = pos (local_seconds t) -ℤ pos epoch -ℤ offset t

-- ---- "Times may have white space around them, then the form". Z is not of the form, and so refused.

-- 18: "time"
unfoldable pub stamp_time : List ℕ → Answer ℤ
stamp_time l = cond (has_form form l && is_stamp (stamp_of l)) (gives (instant_of (stamp_of l))) (refuses 18 0)

-- what a text says: white space, the form's 25 bytes, white space
unfoldable pub time_of : List ℕ → Answer ℤ
time_of l = cond (all_space (drop (length form) (drop_space l))) (stamp_time (take (length form) (drop_space l))) (refuses 18 0)

abbrev pub time_answer : Option ℤ → Answer ℤ
time_answer (Some z) = gives z
time_answer None = refuses 18 0
