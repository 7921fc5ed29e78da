-- Laws of tests and of tables that every crate's proofs use. They say nothing about texts.
use Rattle.std.specs.Prelude.{◌≡◌, refl, Bool, true, false, cond, ◌&&◌, ◌||◌, List, [], ◌∷◌, ℕ, zero, suc, ◌<◌, ◌≤◌, T, eqb}
use Rattle.std.proofs.Common.{sym, subst, ⊎_elim, le_of_suc-le-suc, not-suc-le-zero, eq-or-lt_of_le, arith, eqb→eq, eq-eqb}
use Rattle.std.proofs.lemmas.Bool.{false≢true}
use mir.Val.{bool_byte}

-- by cases on a test, with the case as an equation
pub by_test : {P : Type 0} (t : Bool) → (t ≡ true → P) → (t ≡ false → P) → P
by_test true f g = f refl
by_test false f g = g refl

-- what holds of both values of a choice, each under its test, holds of the choice
pub cond_cases : {A : Type 0} (P : A → Type 0) (t : Bool) (x y : A) → (t ≡ true → P x) → (t ≡ false → P y) → P (cond t x y)
cond_cases P true x y f g = f refl
cond_cases P false x y f g = g refl

pub and_left : (a b : Bool) → a && b ≡ true → a ≡ true
and_left true b e = refl
and_left false b e = e

pub and_right : (a b : Bool) → a && b ≡ true → b ≡ true
and_right true b e = e
and_right false b e = absurd (false≢true e)

pub or_none : (a b : Bool) → a || b ≡ false → (a ≡ false) × (b ≡ false)
or_none true b e = absurd (false≢true (sym e))
or_none false b e = (refl, e)

pub or_false : (b : Bool) → b || false ≡ b
or_false true = refl
or_false false = refl

pub and_comm : (s t : Bool) → s && t ≡ t && s
and_comm true true = refl
and_comm true false = refl
and_comm false true = refl
and_comm false false = refl

pub and_assoc : (r s t : Bool) → r && s && t ≡ r && (s && t)
and_assoc true s t = refl
and_assoc false s t = refl

pub or_assoc : (r s t : Bool) → r || s || t ≡ r || (s || t)
or_assoc true s t = refl
or_assoc false s t = refl

-- which arm a choice took, from its value
module _ {A : Type 0} (x y z : A) where
  pub first_arm : (t : Bool) → cond t x y ≡ z → (y ≡ z → ⊥) → (t ≡ true) × (x ≡ z)
  first_arm true e n = (refl, e)
  first_arm false e n = absurd (n e)

  pub second_arm : (t : Bool) → cond t x y ≡ z → (x ≡ z → ⊥) → t ≡ false
  second_arm true e n = absurd (n e)
  second_arm false e n = refl

pub byte_le : (b : Bool) → bool_byte b ≤ 1
byte_le true = omega arith
byte_le false = omega arith

pub T_true : (b : Bool) → T b → b ≡ true
T_true true t = refl
T_true false t = absurd t

pub true_T : (b : Bool) → b ≡ true → T b
true_T b e = subst T (sym e) tt

-- two constructors are never equal: `clash (cc)` proves anything from equations that would make them so
pub clash : {P : Type 0} → ◌≡◌ {A = ℕ} 0 1 → P
clash z = absurd (omega arith)

-- ---- a rule of a table, tested once over the whole table

-- the test f passes at each number below n
abbrev pub below : ℕ → (ℕ → Bool) → Bool
below zero f = true
below (suc n) f = f n && below n f

-- the rule at a number, from the test over all
pub below_at : (n : ℕ) (f : ℕ → Bool) → T (below n f) → (k : ℕ) → k < n → f k ≡ true
below_at zero f t k h = absurd (not-suc-le-zero h)
below_at (suc n) f t k h =
    let e = T_true (f n && below n f) t in
    ⊎_elim
    (λ s. subst (λ (m : ℕ). f m ≡ true) (sym s) (and_left (f n) (below n f) e))
    (λ l. below_at n f (true_T (below n f) (and_right (f n) (below n f) e)) k l)
    (eq-or-lt_of_le (le_of_suc-le-suc h))

-- a test over two ranges, at a pair
pub below_both : (n m : ℕ) (f : ℕ → ℕ → Bool) → T (below n (λ (s : ℕ). below m (f s))) → (s c : ℕ) → s < n → c < m → f s c ≡ true
below_both n m f t s c h g = below_at m (f s) (true_T (below m (f s)) (below_at n (λ (s : ℕ). below m (f s)) t s h)) c g

-- two texts are equal, as a test
abbrev pub eql : List ℕ → List ℕ → Bool
eql [] [] = true
eql [] (y ∷ ys) = false
eql (x ∷ xs) [] = false
eql (x ∷ xs) (y ∷ ys) = eqb x y && eql xs ys

pub eql_refl : (a : List ℕ) → eql a a ≡ true
eql_refl [] = refl
eql_refl (x ∷ xs) = rw (eq-eqb x x refl) (eql_refl xs)

pub eql_true : (a b : List ℕ) → eql a b ≡ true → a ≡ b
eql_true [] [] e = refl
eql_true [] (y ∷ ys) e = absurd (false≢true e)
eql_true (x ∷ xs) [] e = absurd (false≢true e)
eql_true (x ∷ xs) (y ∷ ys) e =
    let p : x ≡ y = eqb→eq x y (true_T (eqb x y) (and_left (eqb x y) (eql xs ys) e)) in
    let q : xs ≡ ys = eql_true xs ys (and_right (eqb x y) (eql xs ys) e) in
    cc
