-- What the test over the table of hashes says of a text that has a class.
use mathlib.Core.Path.{◌≡◌, sym, ◌∙◌}
use mathlib.Core.Bool.{true, false, false≢true, ◌&&◌}
use mathlib.Core.List.{List}
use Prim.Native.Nat.{ℕ, ◌≤◌, ◌<◌}
use native.Mathlib.Omega.{arith}
use lib.Dec.{eqb, leb, ltb}
use lib.ListN.{length, get_or}
use mir.Syntax.{w64}
use mir.Val.{Fits}
use borrow.Author.Tests.{leb-true, ltb-true, eqb-true, eqb-false, ne_eqb}
use Rattle.text.specs.Logic.{by_test, below_at, and_left, and_right, eql, eql_refl}
use Rattle.schema.specs.Classes.{name_of, class_of}
use Rattle.schema.specs.Sequences.{classes}
use Rattle.schema.specs.Tables.{hash_of, is_hashed, Hashed}
use Rattle.schema.proofs.Naming.{class_named, class_below}

module _ {table : List ℕ} (p : Hashed table) where
  -- each number leads to a class, which fits a word
  pub found_below : (h : ℕ) → h < 128 → get_or table h 0 < classes
  found_below h g = ltb-true (get_or table h 0) classes (below_at 128 (λ (h : ℕ). ltb (get_or table h 0) classes) p.low h g)

  pub found_fits : (h : ℕ) → h < 128 → Fits w64 (get_or table h 0)
  found_fits h g = record { fits = omega (arith, found_below h g) }

  -- a text that has a class is its class's name
  module _ (t : List ℕ) (n : class_of t ≡ 0 → ⊥) where
    hashed_here : leb 3 (length t) && leb (length t) 12 && eqb (get_or table (hash_of t) 0) (class_of t) ≡ true
    hashed_here =
        let k = class_of t in
        let e : leb 3 (length (name_of k)) && leb (length (name_of k)) 12 && eqb (get_or table (hash_of (name_of k)) 0) k ≡ true =
        rw (ne_eqb k 0 n) at (below_at classes (is_hashed table) p.right k (class_below t)) in
        rw (← class_named t n) at e

    pub not_short : 3 ≤ length t
    not_short = leb-true 3 (length t) (and_left _ _ (and_left _ _ hashed_here))

    pub not_long : length t ≤ 12
    not_long = leb-true (length t) 12 (and_right (leb 3 (length t)) _ (and_left _ _ hashed_here))

    -- its hash leads to its class
    pub found_class : get_or table (hash_of t) 0 ≡ class_of t
    found_class = eqb-true (get_or table (hash_of t) 0) (class_of t) (and_right (leb 3 (length t) && leb (length t) 12) _ hashed_here)

-- a text that is not its only candidate's name has no class
pub other_name : (t : List ℕ) (c : ℕ) → ((class_of t ≡ 0 → ⊥) → c ≡ class_of t) → eql t (name_of c) ≡ false → 0 ≡ class_of t
other_name t c f e =
    by_test (eqb (class_of t) 0)
    (λ s. sym (eqb-true (class_of t) 0 s))
    (λ s.
    let n = eqb-false (class_of t) 0 s in
    let p : eql t (name_of c) ≡ true = rw (f n, ← class_named t n) (eql_refl t) in
    absurd (false≢true (sym e ∙ p)))
