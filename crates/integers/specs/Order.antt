-- The order of integers: at most and less, and the sign of a difference.
use Rattle.std.specs.Prelude.{◌≡◌, refl, Bool, true, false, cond, not, ℕ, zero, suc, ◌+◌, ◌-◌, leb, ltb, ℤ, pos, negsuc, ◌-ℤ◌}
use Rattle.std.proofs.Common.{ap, ◌∙◌, zero-le, add-zero, arith, ltb-true, ltb-false, le-leb, lt-ltb, le-ltb}
use Rattle.std.proofs.lemmas.Bool.{false≢true, lt-leb}
use Rattle.std.proofs.Math.Dec.{leb-suc-suc}
use Rattle.std.proofs.Math.IntN.{sub_ℕ}
use Rattle.std.specs.Int.Signed.{lt_z, le_z}
use Rattle.integers.specs.Magnitude.{is_negative}

le_not_lt : (m n : ℕ) → leb m n ≡ not (ltb n m)
le_not_lt m n = go (ltb n m) refl
  where
    go : (t : Bool) → ltb n m ≡ t → leb m n ≡ not t
    go true e = lt-leb m n (ltb-true n m e)
    go false e = le-leb m n (ltb-false n m e)

pub le_not_less : (a b : ℤ) → le_z a b ≡ not (lt_z b a)
le_not_less (pos m) (pos n) = le_not_lt m n
le_not_less (pos m) (negsuc n) = refl
le_not_less (negsuc m) (pos n) = refl
le_not_less (negsuc m) (negsuc n) = le_not_lt n m

-- of two integers at most one is less
pub less_one_way : (a b : ℤ) → lt_z a b ≡ true → lt_z b a ≡ false
less_one_way (pos m) (pos n) e = le-ltb n m (omega (arith, ltb-true m n e))
less_one_way (pos m) (negsuc n) e = absurd (false≢true e)
less_one_way (negsuc m) (pos n) e = refl
less_one_way (negsuc m) (negsuc n) e = le-ltb m n (omega (arith, ltb-true n m e))

-- ---- the sign of a difference

negative_subℕ : (m n : ℕ) → is_negative (sub_ℕ m n) ≡ ltb m n
negative_subℕ m n = go (ltb m n)
  where
    go : (t : Bool) → is_negative (cond t (negsuc (n - suc m)) (pos (m - n))) ≡ t
    go true = refl
    go false = le-ltb (m - n) 0 zero-le

-- a difference is negative where the first number is less
pub negative_sub : (a b : ℤ) → is_negative (a -ℤ b) ≡ lt_z a b
negative_sub (pos m) (pos zero) = ap (λ (n : ℕ). ltb n 0) (add-zero m)
negative_sub (pos m) (pos (suc n)) = negative_subℕ m (suc n)
negative_sub (pos m) (negsuc n) = le-ltb (m + suc n) 0 zero-le
negative_sub (negsuc m) (pos zero) = negative_subℕ 0 (suc m) ∙ lt-ltb 0 (suc m) (omega arith)
negative_sub (negsuc m) (pos (suc n)) = refl
negative_sub (negsuc m) (negsuc n) = negative_subℕ (suc n) (suc m) ∙ leb-suc-suc (suc n) m
