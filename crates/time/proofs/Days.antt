-- Laws of the calendar: the days of years in closed form, those of months by a table, and how many they are.
use mathlib.Core.Path.{◌≡◌, refl, ap}
use mathlib.Core.Bool.{Bool, true, false, cond, not, ◌&&◌, ◌||◌, false≢true}
use mathlib.Core.List.{List}
use mathlib.Core.Logic.{⊎_elim}
use Prim.Native.Nat.{ℕ, zero, suc, ◌+◌, ◌-◌, ◌*◌, ◌/◌, ◌%◌, ◌≤◌, ◌<◌}
use native.Mathlib.Nat.{div-le_self, div-add-mod, div_self, div-eq_of_lt, mod_self, mod-lt, mod-eq_of_lt, mul-add-div, mul-add-mod_self_left, eq-or-lt_of_le, le_refl, le_trans, le_of_suc-le-suc}
use native.Mathlib.Numerals.{unary_clauses}
use native.Mathlib.Omega.{arith}
use borrow.Author.Tests.{eqb-true, eq-eqb, ne_eqb}
use lib.Dec.{eqb, ltb}
use lib.ListN.{get_or}
use mir.Val.{bool_byte}
use Rattle.text.specs.Logic.{by_test, cond_cases, and_left, and_right, below_at}
use Rattle.time.specs.Calendar.{is_leap, year_days, month_days, days_of_years, days_of_months, days_before_year, days_before_month}
use Rattle.time.specs.Tables.{has_month, MonthTable}

-- what grows at each step grows over many
rising : (f : ℕ → ℕ) → ((n : ℕ) → f n ≤ f (suc n)) → (n k : ℕ) → n ≤ k → f n ≤ f k
rising f up n zero h = let e : n ≡ 0 = omega arith in rw e (le_refl (f 0))
rising f up n (suc k) h =
    ⊎_elim (λ (e : n ≡ suc k). rw e (le_refl (f (suc k)))) (λ (l : n < suc k). le_trans (rising f up n k (le_of_suc-le-suc l)) (up k))
    (eq-or-lt_of_le h)

-- ---- years

-- a quotient grows by one at each multiple of the divisor
up_to : (d n : ℕ) → 0 < d → 0 < n → n ≤ d → n / d ≡ bool_byte (eqb (n % d) 0)
up_to d n h g k =
    ⊎_elim (λ (e : n ≡ d). rw (e, div_self h, mod_self d)) (λ (l : n < d). rw (div-eq_of_lt l, mod-eq_of_lt l, ne_eqb n 0 (λ e. omega arith)))
    (eq-or-lt_of_le k)

quotient : (d k : ℕ) → 0 < d → suc k / d ≡ k / d + bool_byte (eqb (suc k % d) 0)
quotient d k h =
    let s : suc k ≡ d * (k / d) + suc (k % d) = omega (arith, div-add-mod k d) in
    rw (s, mul-add-div h (k / d) (suc (k % d)), mul-add-mod_self_left d (k / d) (suc (k % d)))
    (ap (λ (n : ℕ). k / d + n) (up_to d (suc (k % d)) h (omega arith) (mod-lt k h)))

-- the leap year's rule as a sum, where c goes with b and b with a
leap_sum :
    (a b c : Bool) → (c ≡ true → b ≡ true) → (b ≡ true → a ≡ true) → cond (a && not b || c) 366 365 + bool_byte b ≡ 365 + bool_byte a + bool_byte c
leap_sum true true true h g = refl
leap_sum true true false h g = refl
leap_sum true false true h g = absurd (false≢true (h refl))
leap_sum true false false h g = refl
leap_sum false true c h g = absurd (false≢true (g refl))
leap_sum false false true h g = absurd (false≢true (h refl))
leap_sum false false false h g = refl

century : (n : ℕ) → eqb (n % 400) 0 ≡ true → eqb (n % 100) 0 ≡ true
century n e = let h : n % 400 ≡ 0 = eqb-true (n % 400) 0 e in eq-eqb (n % 100) 0 (omega arith)

fourth : (n : ℕ) → eqb (n % 100) 0 ≡ true → eqb (n % 4) 0 ≡ true
fourth n e = let h : n % 100 ≡ 0 = eqb-true (n % 100) 0 e in eq-eqb (n % 4) 0 (omega arith)

sums : (d y k a b c u v w : ℕ) → d + b ≡ 365 * k + a + c → y + v ≡ 365 + u + w → d + y + (b + v) ≡ 365 * suc k + (a + u) + (c + w)
sums d y k a b c u v w p q = omega arith

years_sum : (k : ℕ) → days_of_years k + k / 100 ≡ 365 * k + k / 4 + k / 400
unfolding days_of_years
years_sum zero = refl
years_sum (suc k) =
    rw (quotient 4 k (omega arith), quotient 100 k (omega arith), quotient 400 k (omega arith))
    (sums (days_of_years k) (year_days (suc k)) k (k / 4) (k / 100) (k / 400) _ _ _ (years_sum k)
    (leap_sum (eqb (suc k % 4) 0) (eqb (suc k % 100) 0) (eqb (suc k % 400) 0) (century (suc k)) (fourth (suc k))))

-- the days before a year and its own
pub year_added : (y : ℕ) → 1 ≤ y → days_before_year y + year_days y ≡ days_of_years y
unfolding days_of_years
year_added zero h = absurd (omega arith)
year_added (suc y) h = simp unary_clauses refl

pub years_up : (n k : ℕ) → n ≤ k → days_of_years n ≤ days_of_years k
unfolding days_of_years
years_up = rising days_of_years (λ n. omega arith)

-- the days of the years 1 to k
pub years_closed : (k : ℕ) → 365 * k + k / 4 - k / 100 + k / 400 ≡ days_of_years k
years_closed k = omega (arith, years_sum k, div-le_self k 100)

-- ---- months

-- a month has 28 to 31 days
abbrev Month : ℕ → Type 0
Month n = (28 ≤ n) × (n ≤ 31)

pub month_range : (y m : ℕ) → Month (month_days y m)
month_range y m =
    cond_cases Month (eqb m 2) _ _
    (λ e. cond_cases Month (is_leap y) 29 28 (λ f. (omega arith, omega arith)) (λ f. (omega arith, omega arith)))
    (λ e. cond_cases Month (eqb m 4 || eqb m 6 || eqb m 9 || eqb m 11) 30 31 (λ f. (omega arith, omega arith)) (λ f. (omega arith, omega arith)))

pub months_le : (y n : ℕ) → days_of_months y n ≤ 31 * n
unfolding days_of_months
months_le y zero = omega arith
months_le y (suc n) = omega (arith, months_le y n, month_range y (suc n))

-- the days before a month and its own
pub month_added : (y m : ℕ) → 1 ≤ m → days_before_month y m + month_days y m ≡ days_of_months y m
unfolding days_of_months
month_added y zero h = absurd (omega arith)
month_added y (suc m) h = simp unary_clauses refl

pub months_up : (y n k : ℕ) → n ≤ k → days_of_months y n ≤ days_of_months y k
unfolding days_of_months
months_up y = rising (days_of_months y) (λ n. omega arith)

-- the months of a year are all its days
pub year_whole : (y : ℕ) → days_of_months y 12 ≡ year_days y
unfolding days_of_months
year_whole y = by_test (is_leap y) (λ e. rw e) (λ e. rw e)

-- two leap years have the same months, and so have two common years
same_kind : (y z n : ℕ) → is_leap y ≡ is_leap z → days_of_months y n ≡ days_of_months z n
unfolding days_of_months
same_kind y z zero e = refl
same_kind y z (suc n) e = rw (e, same_kind y z n e)

module _ {before : List ℕ} {m : ℕ} (p : MonthTable before m) (y : ℕ) (b : Bool) (e : b ≡ (ltb 2 m && is_leap y)) where
  tabled : has_month before 1 m && has_month before 4 m ≡ true
  tabled = below_at 13 (λ (k : ℕ). has_month before 1 k && has_month before 4 k) p.right m p.month_high

  like : (z : ℕ) → is_leap y ≡ is_leap z → has_month before z m ≡ true → get_or before m 0 + bool_byte b ≡ days_of_months y (m - 1)
  like z k t = rw (e, k, same_kind y z (m - 1) k) (eqb-true _ _ t)

  -- the table, with the leap day from March on
  pub months_table : get_or before m 0 + bool_byte b ≡ days_of_months y (m - 1)
  months_table =
      by_test (is_leap y) (λ k. like 4 k (and_right (has_month before 1 m) _ tabled)) (λ k. like 1 k (and_left _ (has_month before 4 m) tabled))
