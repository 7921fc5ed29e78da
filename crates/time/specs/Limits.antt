-- What the limits say of a date's and a stamp's numbers, in the form in which the code's arithmetic asks for it.
use Rattle.std.specs.Prelude.{ℕ, ◌+◌, ◌*◌, ◌≤◌}
use Rattle.time.specs.declared.Stamp.{Stamp}
use Rattle.time.specs.Calendar.{month_days}

pub record Dated (y m d : ℕ) : Type 0 where
  pub year_low : 1 ≤ y
  pub year_high : y ≤ 9999
  pub month_low : 1 ≤ m
  pub month_high : m ≤ 12
  pub day_low : 1 ≤ d
  pub day_high : d ≤ month_days y m

pub record Stamped (t : Stamp) : Type 0 where
  pub date : Dated t.year t.month t.day
  pub clock_high : 3_600 * t.hour + 60 * t.minute + t.second ≤ 86_400
  pub offset_high : 60 * t.offset_hour + t.offset_minute ≤ 840
