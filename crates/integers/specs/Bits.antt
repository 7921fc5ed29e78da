-- A signed local holds bits: `to_z w` reads the integer that they are in two's complement, `of_z w` makes them. Laws of operations over integers that
-- are read back from their bits, in the form in which the checker asks for them.
use Rattle.std.specs.Prelude.{◌≡◌, true, false, ℕ, ◌^◌, ◌≤◌, ◌<◌, T, ℤ, pos, nat_abs, ◌-ℤ◌}
use Rattle.std.proofs.Common.{◌∙◌, arith, to_z-of_z}
use Rattle.std.specs.Int.Signed.{mag, non_neg}
use Rattle.std.specs.Int.{Width, w32, w64}
use mir.Val.{hbits, Fits, SFits, to_z, of_z}
use Rattle.std.proofs.Math.Facts.{sfits_widen}
use Rattle.integers.specs.Magnitude.{abs_sub_mag, mag_abs, is_negative, not_negative, negated_is as negated-of}

-- an integer as it is read back from its bits
abbrev pub read : Width → ℤ → ℤ
read w z = to_z w (of_z w z)

pub fits_abs : {w : Width} {z : ℤ} → nat_abs z < 2 ^ hbits w → SFits w z
fits_abs {w} {z} h = record { sfits = mag_abs z (2 ^ hbits w) h }

-- what a callee gave, or a struct's field: its range is a fact on the magnitude
pub read_given : (w : Width) (z : ℤ) → mag z < 2 ^ hbits w → read w z ≡ z
read_given w z h = to_z-of_z {w = w} (record { sfits = h })

pub read_small : (z : ℤ) → nat_abs z ≤ 9_223_372_036_854_775_807 → read w64 z ≡ z
read_small z h = to_z-of_z {w = w64} (fits_abs (omega arith))

-- ---- 32 bits widened to 64

module _ (a : ℤ) (fa : SFits w32 a) where
  pub wide_fits : SFits w64 (read w32 a)
  wide_fits = rw (to_z-of_z fa) (sfits_widen tt fa)

  pub wide_is : read w64 (read w32 a) ≡ a
  wide_is = to_z-of_z wide_fits ∙ to_z-of_z fa

-- the difference of two 32-bit integers in 64 bits
module _ (a b : ℤ) (fa : SFits w32 a) (fb : SFits w32 b) where
  pub wide_far : nat_abs (a -ℤ b) ≤ 4_294_967_295
  wide_far = omega (arith, abs_sub_mag a b 2_147_483_648 fa.sfits fb.sfits)

  -- the distance that a callee gave, of the integers themselves
  pub apart : (r : ℕ) → r ≡ nat_abs (read w32 a -ℤ read w32 b) → r ≡ nat_abs (a -ℤ b)
  apart r e = e ∙ rw (to_z-of_z fa, to_z-of_z fb)

  pub wide_sub_fits : SFits w64 (read w64 (read w32 a) -ℤ read w64 (read w32 b))
  wide_sub_fits = rw (wide_is a fa, wide_is b fb) (fits_abs (omega (arith, wide_far)))

  pub wide_sub_is : read w64 (read w64 (read w32 a) -ℤ read w64 (read w32 b)) ≡ a -ℤ b
  wide_sub_is = to_z-of_z wide_sub_fits ∙ rw (wide_is a fa, wide_is b fb)

-- ---- the magnitude of an integer, as an unsigned number

module _ (a : ℤ) (h : nat_abs a ≤ 9_223_372_036_854_775_807) where
  module _ (e : is_negative (read w64 a) ≡ true) where
    negated : pos 0 -ℤ read w64 a ≡ pos (nat_abs a)
    negated = rw (read_small a h) (negated-of a (rw (read_small a h) at e))

    pub negated_fits : SFits w64 (pos 0 -ℤ read w64 a)
    negated_fits = rw negated (fits_abs (omega arith))

    pub negated_is : read w64 (pos 0 -ℤ read w64 a) ≡ pos (nat_abs a)
    negated_is = rw negated (read_small (pos (nat_abs a)) h)

    pub negated_cast : T (non_neg (read w64 (pos 0 -ℤ read w64 a))) × Fits w64 (nat_abs (read w64 (pos 0 -ℤ read w64 a)))
    negated_cast = rw negated_is (tt, record { fits = omega arith })

  module _ (e : is_negative (read w64 a) ≡ false) where
    plain : read w64 a ≡ pos (nat_abs a)
    plain = read_small a h ∙ not_negative a (rw (read_small a h) at e)

    pub plain_cast : T (non_neg (read w64 a)) × Fits w64 (nat_abs (read w64 a))
    plain_cast = rw plain (tt, record { fits = omega arith })
