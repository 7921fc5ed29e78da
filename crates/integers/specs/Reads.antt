-- Operations on signed numbers of 64 bits, over numbers that their bits are known to stand for: each fits where its result is small enough, and its
-- bits stand for the result.
use Rattle.std.specs.Prelude.{◌≡◌, ℕ, ◌≤◌, ◌<◌, ℤ, pos, neg_ℤ, nat_abs, ◌-ℤ◌}
use Rattle.std.proofs.Common.{ap, ap₂, ◌∙◌, arith, SFits, to_z, of_z, to_z-of_z}
use Rattle.std.proofs.Math.IntN.{+ℤ_idl}
use Rattle.std.specs.Int.Signed.{mag}
use Rattle.std.specs.Int.{w64}
use Rattle.std.proofs.Math.Facts.{to_z_pos}
use Rattle.integers.specs.Magnitude.{abs_neg}
use Rattle.integers.specs.Bits.{fits_abs, read_given, read_small}

-- the largest i64
abbrev pub most : ℕ
most = 9_223_372_036_854_775_807

-- the bits x stand for the number a
pub record Reads (x : ℕ) (a : ℤ) : Type 0 where
  pub is : to_z w64 x ≡ a

-- a callee's answer, whose bound the check gives as `.ok`
pub reads_back : (z : ℤ) → mag z < 9_223_372_036_854_775_808 → Reads (of_z w64 z) z
reads_back z h = record { is = read_given w64 z h }

-- a number whose magnitude is known
pub reads_abs : (z : ℤ) → nat_abs z ≤ most → Reads (of_z w64 z) z
reads_abs z h = record { is = read_small z h }

-- a cast of an unsigned number
pub reads_pos : (n : ℕ) → n ≤ most → Reads n (pos n)
reads_pos n h = record { is = to_z_pos w64 {n = n} (omega arith) }

-- what an operation gives where it fits
reads_fit : {z w : ℤ} → z ≡ w → SFits w64 w → Reads (of_z w64 z) w
reads_fit e f = record { is = rw e (to_z-of_z f) }

-- the code's operations: each fits, and its bits stand for the result
module _ {x : ℕ} {a : ℤ} (p : Reads x a) where
  neg_is : pos 0 -ℤ to_z w64 x ≡ neg_ℤ a
  neg_is = +ℤ_idl (neg_ℤ (to_z w64 x)) ∙ ap neg_ℤ p.is

  pub neg_fits : nat_abs a ≤ most → SFits w64 (pos 0 -ℤ to_z w64 x)
  neg_fits h = rw neg_is (fits_abs (omega (arith, abs_neg a)))

  pub neg_reads : nat_abs a ≤ most → Reads (of_z w64 (pos 0 -ℤ to_z w64 x)) (neg_ℤ a)
  neg_reads h = reads_fit neg_is (fits_abs (omega (arith, abs_neg a)))

module _ {x y : ℕ} {a b : ℤ} (p : Reads x a) (q : Reads y b) where
  pub sub_fits : nat_abs (a -ℤ b) ≤ most → SFits w64 (to_z w64 x -ℤ to_z w64 y)
  sub_fits h = rw (p.is, q.is) (fits_abs (omega arith))

  pub sub_reads : nat_abs (a -ℤ b) ≤ most → Reads (of_z w64 (to_z w64 x -ℤ to_z w64 y)) (a -ℤ b)
  sub_reads h = reads_fit (ap₂ ◌-ℤ◌ p.is q.is) (fits_abs (omega arith))
