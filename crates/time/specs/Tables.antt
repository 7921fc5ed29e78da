-- What the code's table of months has to say, by one test over the whole table. A private function takes a table that passes it.
use Rattle.std.specs.Prelude.{Bool, ◌&&◌, List, ℕ, ◌+◌, ◌<◌, T, eqb, ltb, get_or}
use mir.Val.{bool_byte}
use Rattle.text.specs.Logic.{below}
use Rattle.time.specs.Calendar.{is_leap, days_before_month}

-- a table has the days before a month of the year y, where the leap day counts from March on
abbrev pub has_month : List ℕ → ℕ → ℕ → Bool
has_month before y m = eqb (get_or before m 0 + bool_byte (ltb 2 m && is_leap y)) (days_before_month y m)

-- it has them for each month of the years 1 and 4, a common year and a leap year, and m is among the months
pub record MonthTable (before : List ℕ) (m : ℕ) : Type 0 where
  pub right : T (below 13 (λ (k : ℕ). has_month before 1 k && has_month before 4 k))
  pub month_high : m < 13
