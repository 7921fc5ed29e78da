-- The way from a centre to a place: cosines, squares, and the answer by cases. A signed value that a callee was passed is read back: `read w32`.
use mathlib.Core.Path.{◌≡◌, sym, ◌∙◌}
use mathlib.Core.Bool.{Bool, false}
use Prim.Native.Nat.{ℕ, ◌+◌, ◌*◌, ◌/◌, ◌≤◌, ◌<◌}
use native.Mathlib.Nat.{mul-le-mul, mul-lt-mul_of_pos_right, le_of_lt, le_refl, lt_of_le_of_lt}
use native.Mathlib.Omega.{arith}
use borrow.Author.Tests.{le-leb, lt-leb}
use lib.IntN.{ℤ, pos, nat_abs, ◌-ℤ◌}
use lib.ListN.{get_or}
use lib.Signed.{mag}
use mir.Syntax.{w32, w64}
use mir.Val.{Fits, SFits}
use mir.Facts.{to_z-of_z}
use Rattle.text.specs.Answers.{gives, refuses}
use Rattle.coordinates.specs.declared.Place.{Place}
use Rattle.integers.specs.Bits.{read, read_given}
use Rattle.integers.specs.Magnitude.{abs_sub_zero}
use Rattle.circle.specs.Cosine.{cosines}
use Rattle.circle.specs.Circle.{cosine_at, units_of, shorter_way, latitude_apart, longitude_scaled, within_squares, in_circle, around_holds}
use Rattle.circle.proofs.Rules.{entry_le}

-- ---- cosines

-- r is the cosine by the tenths d of a latitude
pub cosine_is :
    (lat : ℤ) (d r : ℕ) → SFits w32 lat → d ≡ nat_abs (read w32 lat -ℤ pos 0) → r ≡ get_or cosines (d / 1_000_000) 0
    → (r ≡ cosine_at lat) × (r ≤ 1_000_000)
cosine_is lat d r f e g =
    let e' : d ≡ nat_abs lat = e ∙ rw (to_z-of_z f) (abs_sub_zero lat) in
    (g ∙ rw e', rw g (entry_le (d / 1_000_000)))

-- ---- squares

-- a square of a number to k
square_le : (x k : ℕ) → x ≤ k → x * x ≤ k * k
square_le x k h = mul-le-mul h h

pub square_fits : (x : ℕ) → x ≤ 2_000_000_000 → Fits w64 (x * x)
square_fits x h = record { fits = omega (arith, square_le x 2_000_000_000 h) }

pub squares_fit : (x y : ℕ) → x ≤ 2_000_000_000 → y ≤ 2_000_000_000 → Fits w64 (x * x + y * y)
squares_fit x y h g = record { fits = omega (arith, square_le x 2_000_000_000 h, square_le y 2_000_000_000 g) }

above : (x u : ℕ) → u < x → u * u < x * x
above x u h = lt_of_le_of_lt (mul-le-mul (le_refl u) (le_of_lt h)) (mul-lt-mul_of_pos_right h (omega arith))

pub squares_wide : (x y u : ℕ) → u < x → false ≡ within_squares x y u
squares_wide x y u h = sym (lt-leb (x * x + y * y) (u * u) (omega (arith, above x u h)))

pub squares_high : (x y u : ℕ) → u < y → false ≡ within_squares x y u
squares_high x y u h = sym (lt-leb (x * x + y * y) (u * u) (omega (arith, above y u h)))

pub product_fits : (a k : ℕ) → a ≤ 1_800_000_000 → k ≤ 1_000_000 → Fits w64 (a * k)
product_fits a k h g = let e : a * k ≤ 1_800_000_000 * 1_000_000 = mul-le-mul h g in record { fits = omega arith }

-- ---- a place near a centre

module _ (c p : Place) (u : ℕ) (hcy : mag c.lat < 2_147_483_648) (hcx : mag c.lon < 2_147_483_648)
    (hpy : mag p.lat < 2_147_483_648) (hpx : mag p.lon < 2_147_483_648) where
  -- by the two distances and the cosine, as they were read back
  pub near_is :
      (d k x y : ℕ) (r : Bool) → d ≡ shorter_way (nat_abs (read w32 p.lon -ℤ read w32 c.lon)) → k ≡ cosine_at (read w32 c.lat) → x ≡ d * k / 1_000_000
      → y ≡ nat_abs (read w32 p.lat -ℤ read w32 c.lat) → r ≡ within_squares x y u
      → r ≡ within_squares (longitude_scaled c p) (latitude_apart c p) u
  near_is d k x y r ed ek ex ey er = er ∙ rw (ex, ed, ek, ey) (simp (read_given w32))

-- ---- the answer

module _ (c : Place) (metres : ℕ) (p : Place) where
  pub too_wide : 20_000_000 < metres → refuses 22 0 ≡ around_holds c metres p
  unfolding around_holds
  too_wide h = rw (lt-leb metres 20_000_000 h)

  pub is_side :
      metres ≤ 20_000_000 → (u : ℕ) → u ≡ units_of metres → (r : Bool) → r ≡ within_squares (longitude_scaled c p) (latitude_apart c p) u
      → gives r ≡ around_holds c metres p
  unfolding around_holds in_circle
  is_side h u eu r er = rw (le-leb metres 20_000_000 h, er, eu)
