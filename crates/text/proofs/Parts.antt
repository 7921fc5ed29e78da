-- Parts of a text, and a text compared with what leads another.
use mathlib.Core.Path.{◌≡◌, refl, sym, ap, ◌∙◌}
use mathlib.Core.Bool.{Bool, true, false, ◌&&◌, false≢true}
use mathlib.Core.List.{List, [], ◌∷◌, ◌++◌}
use Prim.Native.Nat.{ℕ, ◌+◌, ◌-◌, ◌≤◌, ◌<◌}
use native.Mathlib.Numerals.{add-one}
use native.Mathlib.Omega.{arith}
use lib.Dec.{eqb, leb}
use lib.ListN.{length, get_or, drop, length-drop, drop_of_length-le}
use lib.Seq.{drop-cons}
use borrow.Author.Tests.{eq-eqb, ne_eqb, leb-true, leb-false}
use Rattle.text.specs.Logic.{by_test, and_assoc}
use Rattle.text.specs.Parts.{part, starts_with}

-- ---- parts

-- a part that ends where it starts, or before
pub part_none : (t : List ℕ) (a e : ℕ) → e ≤ a → [] ≡ part t a e
part_none t a e h = rw (none e a h) refl
  where
    none : (e a : ℕ) → e ≤ a → e - a ≡ 0
    none e a h = omega arith

-- ---- p leads t, byte by byte

module _ (t p : List ℕ) (i : ℕ) where
  pub starts_on :
      i < length p → i < length t → get_or t i 0 ≡ get_or p i 0
      → starts_with (drop i p) (drop i t) ≡ starts_with (drop (i + 1) p) (drop (i + 1) t)
  unfolding starts_with
  starts_on h g e = rw (drop-cons p i 0 h, drop-cons t i 0 g, eq-eqb (get_or t i 0) (get_or p i 0) e, add-one i)

  pub starts_differ : i < length p → i < length t → (get_or t i 0 ≡ get_or p i 0 → ⊥) → starts_with (drop i p) (drop i t) ≡ false
  unfolding starts_with
  starts_differ h g n = rw (drop-cons p i 0 h, drop-cons t i 0 g, ne_eqb (get_or t i 0) (get_or p i 0) n)

  pub starts_end : length p ≤ i → starts_with (drop i p) (drop i t) ≡ true
  unfolding starts_with
  starts_end h = rw (drop_of_length-le p h)

-- ---- texts one after the other

-- a longer text leads none
pub starts_short : (p t : List ℕ) → length t < length p → starts_with p t ≡ false
unfolding starts_with
starts_short [] t h = absurd (omega arith)
starts_short (a ∷ p) [] h = refl
starts_short (a ∷ p) (b ∷ t) h = by_test (eqb b a) (λ e. rw e (starts_short p t (omega arith))) (λ e. rw e)

-- a text leads whatever it stands in front of
pub starts_own : (p r : List ℕ) → starts_with p (p ++ r) ≡ true
unfolding starts_with
starts_own [] r = refl
starts_own (b ∷ p) r = rw (eq-eqb b b refl) (starts_own p r)

-- a text leads another if its front does and its rest leads what is after that
pub starts_append : (p q l : List ℕ) → starts_with p l && starts_with q (drop (length p) l) ≡ starts_with (p ++ q) l
unfolding starts_with
starts_append [] q l = refl
starts_append (a ∷ p) q [] = refl
starts_append (a ∷ p) q (b ∷ l) =
    and_assoc (eqb b a) (starts_with p l) (starts_with q (drop (length p) l))
    ∙ ap (λ (r : Bool). eqb b a && r) (starts_append p q l)

-- ---- what leads a text, or stands at an offset of it, ends inside it

pub starts_le : (p l : List ℕ) → starts_with p l ≡ true → length p ≤ length l
starts_le p l e =
    by_test (leb (length p) (length l)) (leb-true _ _) (λ f. absurd (false≢true (sym (starts_short p l (leb-false _ _ f)) ∙ e)))

pub starts_at_le : (p l : List ℕ) (at : ℕ) → 0 < length p → starts_with p (drop at l) ≡ true → at + length p ≤ length l
starts_at_le p l at h e = omega (arith, starts_le p (drop at l) e, length-drop at l)
