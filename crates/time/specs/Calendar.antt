-- The civil calendar: the Gregorian one, carried back to year 1. Months and days count from 1.
use Rattle.std.specs.Prelude.{Bool, cond, not, ◌&&◌, ◌||◌, ℕ, zero, suc, ◌+◌, ◌-◌, ◌%◌, eqb}

-- every fourth year is a leap year, but of the centuries only every fourth
abbrev pub is_leap : ℕ → Bool
is_leap y = eqb (y % 4) 0 && not (eqb (y % 100) 0) || eqb (y % 400) 0

abbrev pub year_days : ℕ → ℕ
year_days y = cond (is_leap y) 366 365

-- April, June, September and November have 30 days, February 28 or 29, the others 31
abbrev pub month_days : ℕ → ℕ → ℕ
month_days y m =
    cond (eqb m 2)
    (cond (is_leap y) 29 28)
    (cond (eqb m 4 || eqb m 6 || eqb m 9 || eqb m 11) 30 31)

-- the days of the years 1 to n
unfoldable pub days_of_years : ℕ → ℕ
days_of_years zero = 0
days_of_years (suc n) = days_of_years n + year_days (suc n)

-- the days of the months 1 to n of the year y
unfoldable pub days_of_months : ℕ → ℕ → ℕ
days_of_months y zero = 0
days_of_months y (suc n) = days_of_months y n + month_days y (suc n)

-- the days from 0001-01-01 to the first day of a year
abbrev pub days_before_year : ℕ → ℕ
days_before_year y = days_of_years (y - 1)

-- the days of a year before a month's first
abbrev pub days_before_month : ℕ → ℕ → ℕ
days_before_month y m = days_of_months y (m - 1)

-- the days from 0001-01-01 to a date
abbrev pub days_before : ℕ → ℕ → ℕ → ℕ
days_before y m d = days_before_year y + days_before_month y m + (d - 1)
