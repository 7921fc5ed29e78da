-- Hour 24 is 00:00:00 of the next day.
use mathlib.Core.Path.{◌≡◌, ap}
use mathlib.Core.Bool.{true, false, ◌&&◌}
use Prim.Native.Nat.{ℕ, ◌+◌, ◌≤◌}
use native.Mathlib.Omega.{arith}
use borrow.Author.Tests.{le-leb, ltb-true, ltb-false}
use lib.Dec.{ltb}
use lib.IntN.{pos, ◌-ℤ◌}
use Rattle.text.specs.Logic.{cond_cases, and_right}
use Rattle.time.specs.declared.Stamp.{Stamp}
use Rattle.time.specs.Calendar.{month_days, days_of_years, days_of_months, days_before_year, days_before_month, days_before}
use Rattle.time.specs.Time.{is_date, is_clock, is_offset, is_stamp, local_seconds, epoch, offset, instant_of}
use Rattle.time.specs.Limits.{Dated}
use Rattle.time.specs.DayEnd.{start_of_day, start_of_next, DayEnd}
use Rattle.time.proofs.Days.{year_added, month_range, month_added, year_whole}
use Rattle.time.proofs.Bounds.{stamped}

-- ---- dates

date_is : {y m d : ℕ} → Dated y m d → is_date y m d ≡ true
date_is {y} {m} {d} b =
    rw (
      le-leb 1 y b.year_low,
      le-leb y 9999 b.year_high,
      le-leb 1 m b.month_low,
      le-leb m 12 b.month_high,
      le-leb 1 d b.day_low,
      le-leb d (month_days y m) b.day_high,
    )

-- the day after a date: in the same month, in the next month, in the next year
module _ {y m d : ℕ} (b : Dated y m d) where
  same_month : days_before y m (d + 1) ≡ days_before y m d + 1
  same_month = omega (arith, b.day_low)

  month_end : ltb d (month_days y m) ≡ false → days_before y (m + 1) 1 ≡ days_before y m d + 1
  month_end l =
      let first : days_before_month y (m + 1) ≡ days_of_months y m = ap (days_of_months y) (omega arith) in
      omega (arith, ltb-false d (month_days y m) l, b.day_low, b.day_high, month_added y m b.month_low)

  year_end : ltb d (month_days y m) ≡ false → ltb m 12 ≡ false → days_before (y + 1) 1 1 ≡ days_before y m d + 1
  unfolding days_of_months
  year_end l k =
      let first : days_before_year (y + 1) ≡ days_of_years y = ap days_of_years (omega arith) in
      let last : m ≡ 12 = omega (arith, ltb-false m 12 k, b.month_high) in
      omega (
        arith,
        ltb-false d (month_days y m) l,
        b.day_low,
        b.day_high,
        month_added y m b.month_low,
        ap (days_of_months y) last,
        year_whole y,
        year_added y b.year_low,
      )

module _ (t : Stamp) (e : is_stamp t ≡ true) (h : t.hour ≡ 24) where
  b : Dated t.year t.month t.day
  b = (stamped t e).date

  offset_is : is_offset t.offset_hour t.offset_minute ≡ true
  unfolding is_stamp
  offset_is = and_right (is_date t.year t.month t.day && is_clock t.hour t.minute t.second) _ e

  -- 00:00:00 of a day that follows
  follows :
      (y m d : ℕ) → days_before y m d ≡ days_before t.year t.month t.day + 1 → (y ≤ 9999 → Dated y m d)
      → (instant_of t ≡ instant_of (start_of_day t y m d)) × (y ≤ 9999 → is_stamp (start_of_day t y m d) ≡ true)
  unfolding instant_of local_seconds offset is_stamp
  follows y m d p q = (
    ap (λ n. pos n -ℤ pos epoch -ℤ offset t) (omega (arith, p, h, (stamped t e).clock_high)),
    λ k. rw (date_is (q k), offset_is),
  )

  abbrev Next : Stamp → Type 0
  Next s = (instant_of t ≡ instant_of s) × (s.year ≤ 9999 → is_stamp s ≡ true)

  next : Next (start_of_next t)
  next =
      cond_cases Next (ltb t.day (month_days t.year t.month)) _ _
      (λ l.
      follows t.year t.month (t.day + 1) (same_month b)
      (λ k. record {
        year_low = b.year_low;
        year_high = k;
        month_low = b.month_low;
        month_high = b.month_high;
        day_low = omega arith;
        day_high = omega (arith, ltb-true t.day (month_days t.year t.month) l);
      }))
      (λ l.
      cond_cases Next (ltb t.month 12) _ _
      (λ k.
      follows t.year (t.month + 1) 1 (month_end b l)
      (λ g. record {
        year_low = b.year_low;
        year_high = g;
        month_low = omega arith;
        month_high = omega (arith, ltb-true t.month 12 k);
        day_low = omega arith;
        day_high = omega (arith, month_range t.year (t.month + 1));
      }))
      (λ k.
      follows (t.year + 1) 1 1 (year_end b l k)
      (λ g. record {
        year_low = omega arith;
        year_high = g;
        month_low = omega arith;
        month_high = omega arith;
        day_low = omega arith;
        day_high = omega (arith, month_range (t.year + 1) 1);
      })))

pub day_end : DayEnd
unfolding is_stamp
day_end = record { taken = λ t h. rw h; next_day = λ t e h. (next t e h).0; next_written = λ t e h. (next t e h).1 }
