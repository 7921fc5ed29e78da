-- Request [6]: "hour 24 with zero minutes and seconds, meaning 00:00:00 of the next day".
use Rattle.std.specs.Prelude.{◌≡◌, true, cond, ◌&&◌, ℕ, ◌+◌, ◌≤◌, eqb, ltb}
use Rattle.time.specs.declared.Stamp.{Stamp}
use Rattle.time.specs.Calendar.{month_days}
use Rattle.time.specs.Time.{is_date, is_offset, is_stamp, instant_of}

-- 00:00:00 of a day, by the clock of the stamp t
abbrev pub start_of_day : Stamp → (y m d : ℕ) → Stamp
start_of_day t y m d = record {
  year = y;
  month = m;
  day = d;
  hour = 0;
  minute = 0;
  second = 0;
  west = t.west;
  offset_hour = t.offset_hour;
  offset_minute = t.offset_minute;
}

-- 00:00:00 of the next day, which is one of the same month, of the next month or of the next year
abbrev pub start_of_next : Stamp → Stamp
start_of_next t =
    cond (ltb t.day (month_days t.year t.month))
    (start_of_day t t.year t.month (t.day + 1))
    (cond (ltb t.month 12)
    (start_of_day t t.year (t.month + 1) 1)
    (start_of_day t (t.year + 1) 1 1))

pub record DayEnd : Type 0 where
  -- a time at hour 24 is taken on a day and with an offset like any other, and just "with zero minutes and seconds"
  pub taken :
      (t : Stamp) → t.hour ≡ 24
      → is_stamp t
      ≡ is_date t.year t.month t.day && (eqb t.minute 0 && eqb t.second 0) && is_offset t.offset_hour t.offset_minute
  -- its instant is that of 00:00:00 of the next day
  pub next_day : (t : Stamp) → is_stamp t ≡ true → t.hour ≡ 24 → instant_of t ≡ instant_of (start_of_next t)
  -- and that could be written too, but for the year 10000
  pub next_written : (t : Stamp) → is_stamp t ≡ true → t.hour ≡ 24 → (start_of_next t).year ≤ 9999 → is_stamp (start_of_next t) ≡ true
