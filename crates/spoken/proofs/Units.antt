-- The seconds of a unit, by its word.
use mathlib.Core.Path.{◌≡◌}
use Prim.Native.Nat.{ℕ, ◌≤◌, ◌<◌}
use native.Mathlib.Omega.{arith}
use borrow.Author.Tests.{lt-ltb, le-ltb}
use Rattle.words.specs.Reading.{unit_seconds}

module _ (w : ℕ) where
  pub below_day : w < 32 → 0 ≡ unit_seconds w
  below_day h = rw (lt-ltb w 32 h)

  pub in_day : 32 ≤ w → w < 34 → 86_400 ≡ unit_seconds w
  in_day h k = rw (le-ltb w 32 h, lt-ltb w 34 k)

  pub in_hour : 34 ≤ w → w < 36 → 3_600 ≡ unit_seconds w
  in_hour h k = rw (le-ltb w 32 (omega arith), le-ltb w 34 h, lt-ltb w 36 k)

  pub in_minute : 36 ≤ w → w < 38 → 60 ≡ unit_seconds w
  in_minute h k = rw (le-ltb w 32 (omega arith), le-ltb w 34 (omega arith), le-ltb w 36 h, lt-ltb w 38 k)

  pub in_second : 38 ≤ w → w < 40 → 1 ≡ unit_seconds w
  in_second h k = rw (le-ltb w 32 (omega arith), le-ltb w 34 (omega arith), le-ltb w 36 (omega arith), le-ltb w 38 h, lt-ltb w 40 k)

  pub no_unit : 40 ≤ w → 0 ≡ unit_seconds w
  no_unit h = rw (le-ltb w 32 (omega arith), le-ltb w 34 (omega arith), le-ltb w 36 (omega arith), le-ltb w 38 (omega arith), le-ltb w 40 h)
