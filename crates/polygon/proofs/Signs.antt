-- Differences and their products by sign and magnitude, over coordinates that are read back from their bits.
use mathlib.Core.Path.{◌≡◌, sym}
use mathlib.Core.Bool.{not, beq, ◌&&◌}
use Prim.Native.Nat.{ℕ, ◌*◌, ◌≤◌}
use native.Mathlib.Nat.{mul-le-mul}
use native.Mathlib.Omega.{arith}
use lib.IntN.{ℤ, nat_abs, ◌-ℤ◌, ◌*ℤ◌}
use lib.Signed.{lt_z}
use mir.Syntax.{w32, w64}
use mir.Val.{Fits, SFits}
use mir.Facts.{to_z-of_z}
use Rattle.integers.specs.Magnitude.{signed, signed_mul}
use Rattle.integers.specs.Order.{le_not_less, negative_sub}
use Rattle.integers.specs.Bits.{read, wide_far, apart}
use Rattle.text.specs.Logic.{and_comm}
use Rattle.polygon.specs.Polygon.{same}

-- ---- the order

-- integers are equal where neither is less
pub same_is : (a b : ℤ) → same a b ≡ not (lt_z a b) && not (lt_z b a)
same_is a b = rw (le_not_less a b, le_not_less b a) (and_comm (not (lt_z b a)) (not (lt_z a b)))

-- ---- the product of two differences

module _ (a b c d : ℤ) (fa : SFits w32 a) (fb : SFits w32 b) (fc : SFits w32 c) (fd : SFits w32 d)
    (m n : ℕ) (em : m ≡ nat_abs (read w32 a -ℤ read w32 b)) (en : n ≡ nat_abs (read w32 c -ℤ read w32 d)) where
  first_is : m ≡ nat_abs (a -ℤ b)
  first_is = apart a b fa fb m em

  second_is : n ≡ nat_abs (c -ℤ d)
  second_is = apart c d fc fd n en

  pub product_fits : Fits w64 (m * n)
  product_fits =
      let h : nat_abs (a -ℤ b) * nat_abs (c -ℤ d) ≤ 4_294_967_295 * 4_294_967_295 = mul-le-mul (wide_far a b fa fb) (wide_far c d fc fd) in
      rw (first_is, second_is) (record { fits = omega arith })

  pub product_is : signed (not (beq (lt_z (read w32 a) (read w32 b)) (lt_z (read w32 c) (read w32 d)))) (m * n) ≡ (a -ℤ b) *ℤ (c -ℤ d)
  product_is =
      rw (to_z-of_z fa, to_z-of_z fb, to_z-of_z fc, to_z-of_z fd, first_is, second_is, ← negative_sub a b, ← negative_sub c d)
      (sym (signed_mul (a -ℤ b) (c -ℤ d)))
