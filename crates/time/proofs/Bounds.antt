-- What the tests of a stamp say of its numbers.
use mathlib.Core.Path.{◌≡◌}
use mathlib.Core.Bool.{Bool, true, ◌&&◌}
use Prim.Native.Nat.{ℕ, ◌+◌, ◌*◌, ◌≤◌, ◌<◌}
use native.Mathlib.Omega.{arith}
use borrow.Author.Tests.{leb-true, eqb-true}
use lib.Dec.{eqb, leb}
use Rattle.text.specs.Logic.{by_test, and_left, and_right}
use Rattle.time.specs.declared.Stamp.{Stamp}
use Rattle.time.specs.Calendar.{month_days, days_before}
use Rattle.time.specs.Time.{is_date, is_clock, is_offset, is_stamp}
use Rattle.time.specs.Limits.{Dated, Stamped}
use Rattle.time.proofs.Days.{year_added, years_closed, years_up, month_added, months_up, year_whole}

and3 : (a b c : Bool) → a && b && c ≡ true → (a ≡ true) × (b ≡ true) × (c ≡ true)
and3 a b c e = let d = and_left (a && b) c e in (and_left a b d, and_right a b d, and_right (a && b) c e)

pub dated : (y m d : ℕ) → is_date y m d ≡ true → Dated y m d
dated y m d e =
    let (e4, e5, e6) = and3 (leb 1 y && leb y 9999 && leb 1 m && leb m 12) (leb 1 d) (leb d (month_days y m)) e in
    let (e2, e3, m12) = and3 (leb 1 y && leb y 9999) (leb 1 m) (leb m 12) e4 in
    record {
      year_low = leb-true 1 y (and_left (leb 1 y) (leb y 9999) e2);
      year_high = leb-true y 9999 (and_right (leb 1 y) (leb y 9999) e2);
      month_low = leb-true 1 m e3;
      month_high = leb-true m 12 m12;
      day_low = leb-true 1 d e5;
      day_high = leb-true d (month_days y m) e6;
    }

-- a day is one of the days of its year, and so of the years 1 to 9999
pub days_below : {y m d : ℕ} → Dated y m d → days_before y m d < 3_652_059
days_below {y} {m} b =
    let month = month_added y m b.month_low in
    let year = year_added y b.year_low in
    omega (arith, month, months_up y m 12 b.month_high, year_whole y, year, years_up y 9999 b.year_high, years_closed 9999)

-- at the end of a day at the latest
clock_le : (h m s : ℕ) → is_clock h m s ≡ true → 3_600 * h + 60 * m + s ≤ 86_400
clock_le h m s e =
    by_test (leb h 23 && leb m 59 && leb s 59)
    (λ t. let (h23, m59, s59) = and3 (leb h 23) (leb m 59) (leb s 59) t in omega (arith, leb-true h 23 h23, leb-true m 59 m59, leb-true s 59 s59))
    (λ t.
    let (h24, m0, s0) = and3 (eqb h 24) (eqb m 0) (eqb s 0) (rw t at e) in
    omega (arith, eqb-true h 24 h24, eqb-true m 0 m0, eqb-true s 0 s0))

pub stamped : (t : Stamp) → is_stamp t ≡ true → Stamped t
unfolding is_stamp
stamped t e =
    let h = t.hour in
    let m = t.minute in
    let s = t.second in
    let oh = t.offset_hour in
    let om = t.offset_minute in
    let (date, clock, off) = and3 (is_date t.year t.month t.day) (is_clock h m s) (is_offset oh om) e in
    record {
      date = dated t.year t.month t.day date;
      clock_high = clock_le h m s clock;
      offset_high = leb-true (60 * oh + om) 840 (and_right (leb om 59) (leb (60 * oh + om) 840) off);
    }
