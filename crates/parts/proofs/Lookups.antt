-- The part that a look-up finds is the one asked for, and one of those that are there.
use mathlib.Core.Path.{◌≡◌, sym, ◌∙◌}
use mathlib.Core.Bool.{true, false, ◌&&◌, ◌||◌}
use Prim.Native.Nat.{ℕ, ◌≤◌}
use native.Mathlib.Omega.{arith}
use borrow.Author.Tests.{leb-true, lt-leb, eqb-true, ne_eqb}
use lib.Dec.{eqb, leb}
use Rattle.text.specs.Answers.{Answer, gives, refuses}
use Rattle.text.specs.Logic.{and_left, and_right, or_false, first_arm, clash}
use Rattle.parts.specs.Elements.{look_up}

module _ (n t k : ℕ) where
  -- what the test says that found it
  found : look_up n t ≡ gives k → ((eqb n 0 && eqb t 0) || (leb 1 n && leb n t) ≡ true) × (◌≡◌ {A = Answer ℕ} (gives n) (gives k))
  unfolding look_up
  found q =
      first_arm (gives n) (refuses 21 0) (gives k) ((eqb n 0 && eqb t 0) || (leb 1 n && leb n t)) q
      (λ e. clash (cc))

  -- it is the one asked for
  pub there_part : look_up n t ≡ gives k → n ≡ k
  there_part q = let e = (found q).1 in cc

-- a part but 0 is one of those that are there
pub there_within : (n t k : ℕ) → look_up n t ≡ gives k → (k ≡ 0 → ⊥) → (1 ≤ n) × (n ≤ t)
there_within n t k q h =
    let e = there_part n t k q in
    let b : leb 1 n && leb n t ≡ true = rw (ne_eqb n 0 (λ z. h (omega arith))) at (found n t k q).0 in
    (leb-true 1 n (and_left (leb 1 n) (leb n t) b), leb-true n t (and_right (leb 1 n) (leb n t) b))

-- part 0, where there are none
pub there_none : (n t k : ℕ) → look_up n t ≡ gives k → k ≡ 0 → (n ≡ 0) × (t ≡ 0)
there_none n t k q z =
    let e : n ≡ 0 = there_part n t k q ∙ z in
    let b : (eqb n 0 && eqb t 0) || false ≡ true = rw (lt-leb 1 n (omega arith)) at (found n t k q).0 in
    (e, eqb-true t 0 (and_right (eqb n 0) (eqb t 0) (sym (or_false (eqb n 0 && eqb t 0)) ∙ b)))
