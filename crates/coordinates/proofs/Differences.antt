-- The difference of two coordinates in 64 bits, with and without its sign, and the test of their range.
use mathlib.Core.Path.{◌≡◌, sym, ap, ◌∙◌}
use mathlib.Core.Bool.{Bool, true, false, true≢false}
use Prim.Native.Nat.{ℕ, zero, suc, ◌≤◌, ◌<◌}
use native.Mathlib.Omega.{arith}
use borrow.Author.Tests.{leb-true}
use lib.Dec.{T, leb}
use lib.IntN.{ℤ, pos, negsuc, neg_ℤ, nat_abs, ◌-ℤ◌}
use lib.Signed.{non_neg, mag, le_z}
use mir.Syntax.{w32, w64}
use mir.Val.{Fits, SFits}
use mir.Facts.{to_z-of_z}
use Rattle.text.specs.Logic.{and_left, and_right}
use Rattle.coordinates.specs.Place.{within}
use Rattle.integers.specs.Magnitude.{is_negative}
use Rattle.integers.specs.Bits.{read, read_small, read_given, wide_far, negated_fits, negated_is, negated_cast, plain_cast}

-- d is the difference that a callee gave, of coordinates that were read from their bits
module _ (a b d : ℤ) (fa : SFits w32 a) (fb : SFits w32 b) (e : d ≡ read w32 a -ℤ read w32 b) where
  plain : d ≡ a -ℤ b
  plain = e ∙ rw (to_z-of_z fa, to_z-of_z fb)

  far : nat_abs d ≤ 9_223_372_036_854_775_807
  far = rw plain (omega (arith, wide_far a b fa fb))

  module _ (t : is_negative (read w64 d) ≡ true) where
    pub result_fits : SFits w64 (pos 0 -ℤ read w64 d)
    result_fits = negated_fits d far t

    pub result_cast : T (non_neg (read w64 (pos 0 -ℤ read w64 d))) × Fits w64 (nat_abs (read w64 (pos 0 -ℤ read w64 d)))
    result_cast = negated_cast d far t

    pub result_is : nat_abs (read w64 (pos 0 -ℤ read w64 d)) ≡ nat_abs (a -ℤ b)
    result_is = ap nat_abs (negated_is d far t) ∙ ap nat_abs plain

  module _ (t : is_negative (read w64 d) ≡ false) where
    pub plain_result_cast : T (non_neg (read w64 d)) × Fits w64 (nat_abs (read w64 d))
    plain_result_cast = plain_cast d far t

    pub plain_result_is : nat_abs (read w64 d) ≡ nat_abs (a -ℤ b)
    plain_result_is = ap nat_abs (read_small d far) ∙ ap nat_abs plain

-- the test of a range, of a struct's coordinate that was read from its bits
pub within_is : (limit : ℕ) (z : ℤ) (r : Bool) → mag z < 2_147_483_648 → r ≡ within limit (read w32 z) → r ≡ within limit z
within_is limit z r h e = e ∙ ap (within limit) (read_given w32 z h)

-- what the test says of the magnitude
pub within_abs : (limit : ℕ) (z : ℤ) → within limit z ≡ true → nat_abs z ≤ limit
within_abs limit (pos n) e = leb-true n limit (and_right (le_z (neg_ℤ (pos limit)) (pos n)) (leb n limit) e)
within_abs zero (negsuc n) e = absurd (true≢false (sym (and_left false true e)))
within_abs (suc limit) (negsuc n) e = omega (arith, leb-true n limit (and_left (leb n limit) true e))
