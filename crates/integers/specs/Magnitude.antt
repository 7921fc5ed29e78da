-- Magnitudes of integers: of a negation, a difference and a product; and the order of integers by sign and magnitude.
use Rattle.std.specs.Prelude.{◌≡◌, refl, Bool, true, false, cond, not, ◌&&◌, ◌||◌, ℕ, zero, suc, ◌+◌, ◌-◌, ◌*◌, ◌≤◌, ◌<◌, ltb, ℤ, pos, negsuc, neg_ℤ, nat_abs, ◌-ℤ◌, ◌*ℤ◌}
use Rattle.std.proofs.Common.{sym, ap, ◌∙◌, true≢false, zero-le, zero-add, arith, ltb-true, ltb-false, lt-ltb, le-ltb}
use Rattle.std.specs.Bool.{beq}
use Rattle.std.proofs.Math.Dec.{leb-suc-suc}
use Rattle.std.proofs.Math.IntN.{sub_ℕ, neg_ℤ-neg_ℤ, neg_ℤ-+ℤ, +ℤ_comm, +ℤ_idr}
use Rattle.std.specs.Int.Signed.{mag, lt_z}

pub abs_neg : (z : ℤ) → nat_abs (neg_ℤ z) ≡ nat_abs z
abs_neg (pos zero) = refl
abs_neg (pos (suc n)) = refl
abs_neg (negsuc n) = refl

pub abs_swap : (x y : ℤ) → nat_abs (x -ℤ y) ≡ nat_abs (y -ℤ x)
abs_swap x y = sym (abs_neg (x -ℤ y)) ∙ ap nat_abs (neg_ℤ-+ℤ x (neg_ℤ y) ∙ +ℤ_comm (neg_ℤ x) (neg_ℤ (neg_ℤ y))) ∙ rw (neg_ℤ-neg_ℤ y)

pub abs_sub_zero : (z : ℤ) → nat_abs (z -ℤ pos 0) ≡ nat_abs z
abs_sub_zero z = ap nat_abs (+ℤ_idr z)

pub mag_abs : (z : ℤ) (n : ℕ) → nat_abs z < n → mag z < n
mag_abs (pos k) n h = omega arith
mag_abs (negsuc k) n h = omega arith

-- ---- the positive and the negative part: how far an integer lies above 0, and how far below

abbrev pub positive_part : ℤ → ℕ
positive_part (pos n) = n
positive_part (negsuc n) = 0

abbrev pub negative_part : ℤ → ℕ
negative_part (pos n) = 0
negative_part (negsuc n) = suc n

pub abs_parts : (z : ℤ) → nat_abs z ≡ positive_part z + negative_part z
abs_parts (pos n) = omega arith
abs_parts (negsuc n) = omega arith

-- an integer that lies at most k above 0 or below
pub abs_le : (z : ℤ) (k : ℕ) → (positive_part z ≤ k) × (negative_part z ≤ k) → nat_abs z ≤ k
abs_le (pos n) k h = h.0
abs_le (negsuc n) k h = h.1

subℕ_parts : (a b : ℕ) → (positive_part (sub_ℕ a b) ≡ a - b) × (negative_part (sub_ℕ a b) ≡ b - a)
subℕ_parts a b = go (ltb a b) refl
  where
    go :
        (t : Bool) → ltb a b ≡ t
        → (positive_part (cond t (negsuc (b - suc a)) (pos (a - b))) ≡ a - b) × (negative_part (cond t (negsuc (b - suc a)) (pos (a - b))) ≡ b - a)
    go true e = let h = ltb-true a b e in (omega arith, omega arith)
    go false e = let h = ltb-false a b e in (omega arith, omega arith)

-- the parts of a difference, of naturals and of integers
pub parts_pos : (a b : ℕ) → (positive_part (pos a -ℤ pos b) ≡ a - b) × (negative_part (pos a -ℤ pos b) ≡ b - a)
parts_pos a zero = (omega arith, omega arith)
parts_pos a (suc b) = subℕ_parts a (suc b)

pub parts_sub :
    (x y : ℤ) → (positive_part (x -ℤ y) ≤ positive_part x + negative_part y) × (negative_part (x -ℤ y) ≤ negative_part x + positive_part y)
parts_sub (pos a) (pos b) = let p = parts_pos a b in (omega arith, omega arith)
parts_sub (pos a) (negsuc b) = (omega arith, omega arith)
parts_sub (negsuc a) (pos zero) = let p = subℕ_parts 0 (suc a) in (omega arith, omega arith)
parts_sub (negsuc a) (pos (suc b)) = (omega arith, omega arith)
parts_sub (negsuc a) (negsuc b) = let p = subℕ_parts (suc b) (suc a) in (omega arith, omega arith)

pub abs_sub : (x y : ℤ) → nat_abs (x -ℤ y) ≤ nat_abs x + nat_abs y
abs_sub x y =
    let p = parts_sub x y in
    let a = abs_parts x in
    let b = abs_parts y in
    abs_le (x -ℤ y) (nat_abs x + nat_abs y) (omega arith, omega arith)

mag_parts : (z : ℤ) → (positive_part z ≤ mag z) × (negative_part z ≤ suc (mag z))
mag_parts (pos n) = (omega arith, omega arith)
mag_parts (negsuc n) = (omega arith, omega arith)

-- the difference of two integers in the range of a two's complement number
pub abs_sub_mag : (x y : ℤ) (n : ℕ) → mag x < n → mag y < n → nat_abs (x -ℤ y) < n + n
abs_sub_mag x y n h g =
    let p = parts_sub x y in
    let a = mag_parts x in
    let b = mag_parts y in
    omega (arith, abs_le (x -ℤ y) (n + n - 1) (omega arith, omega arith))

-- ---- the sign

abbrev pub is_negative : ℤ → Bool
is_negative a = lt_z a (pos 0)

pub negated_is : (a : ℤ) → is_negative a ≡ true → pos 0 -ℤ a ≡ pos (nat_abs a)
negated_is (pos n) e = absurd (omega (arith, ltb-true n 0 e))
negated_is (negsuc n) e = ap pos (zero-add (suc n))

pub not_negative : (a : ℤ) → is_negative a ≡ false → a ≡ pos (nat_abs a)
not_negative (pos n) e = refl
not_negative (negsuc n) e = absurd (true≢false e)

-- ---- an integer from its sign and magnitude, and the order by both

abbrev pub signed : Bool → ℕ → ℤ
signed false m = pos m
signed true m = neg_ℤ (pos m)

-- the magnitude m with the sign s is less than n with the sign t; a sign is true for negative numbers, and may be either for 0
abbrev pub less_by : Bool → ℕ → Bool → ℕ → Bool
less_by s m t n = s && t && ltb n m || s && not t && (ltb 0 m || ltb 0 n) || not s && not t && ltb m n

or_false : (b : Bool) → b || false ≡ b
or_false true = refl
or_false false = refl

pub less_signed : (s : Bool) (m : ℕ) (t : Bool) (n : ℕ) → less_by s m t n ≡ lt_z (signed s m) (signed t n)
less_signed false m false n = refl
less_signed false m true zero = sym (le-ltb m 0 zero-le)
less_signed false m true (suc n) = refl
less_signed true zero false n = or_false (ltb 0 n)
less_signed true (suc m) false n = rw (lt-ltb 0 (suc m) (omega arith))
less_signed true zero true zero = refl
less_signed true zero true (suc n) = rw (le-ltb (suc n) 0 zero-le)
less_signed true (suc m) true zero = rw (lt-ltb 0 (suc m) (omega arith))
less_signed true (suc m) true (suc n) = or_false (ltb (suc n) (suc m) || false) ∙ or_false (ltb (suc n) (suc m)) ∙ leb-suc-suc (suc n) m

-- a product by the signs and magnitudes of its factors
pub signed_mul : (a b : ℤ) → a *ℤ b ≡ signed (not (beq (is_negative a) (is_negative b))) (nat_abs a * nat_abs b)
signed_mul (pos a) (pos b) = rw (le-ltb a 0 zero-le, le-ltb b 0 zero-le)
signed_mul (pos a) (negsuc b) = rw (le-ltb a 0 zero-le)
signed_mul (negsuc a) (pos b) = rw (le-ltb b 0 zero-le)
signed_mul (negsuc a) (negsuc b) = refl
