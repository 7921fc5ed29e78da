-- Part 0 has no shape: no polygon and no circle stands in an alert before its first info.
use mathlib.Core.Path.{◌≡◌, refl}
use mathlib.Core.Bool.{Bool, true, false, cond, not, ◌&&◌, ◌||◌}
use mathlib.Core.List.{List, [], ◌∷◌}
use Prim.Native.Nat.{ℕ}
use native.Mathlib.Omega.{arith}
use borrow.Author.Tests.{not-true, ne_eqb}
use lib.Dec.{T, eqb, ltb}
use Rattle.text.specs.Answers.{gives, refuses}
use Rattle.text.specs.Logic.{by_test, and_left, and_right, below, below_both}
use Rattle.coordinates.specs.declared.Place.{Place}
use Rattle.coordinates.specs.Place.{in_range}
use Rattle.schema.specs.Classes as class
use Rattle.schema.specs.Sequences.{next_of, container_of, first_state, states, classes}
use Rattle.schema.proofs.Table.{inside}
use Rattle.document.specs.Elements.{Element, opened, text, closed, is_start, total}
use Rattle.document.specs.Documents.{document_of}
use Rattle.document.proofs.Accepted.{Every}
use Rattle.document.proofs.Sound.{Sorted}
use Rattle.parts.specs.Elements.{alert_of, look_up}
use Rattle.parts.specs.Places.{is_shape, shape_holds, any_text, any_shape, any_holds, no_shape, cap_place}
use Rattle.parts.proofs.AlongParts.{class_of, Ends, in_alert}
use Rattle.parts.proofs.Sights.{no_shape_lem}

abbrev NoShape : Element → Type 0
NoShape (opened c p) = Prim.Unit
NoShape (text c p t) = is_shape c ≡ false
NoShape (closed c) = Prim.Unit

-- before an info's start the states are those before the info's first, and no shape stands there
abbrev front_rule : ℕ → ℕ → ℕ → Bool
front_rule s d e = not (ltb s (first_state class.info)) || eqb d class.info || (ltb e (first_state class.info) && not (is_shape d))

Fronts : Type 0
Fronts = T (below states (λ (s : ℕ). below classes (λ (d : ℕ). eqb (next_of s d) 0 || front_rule s d (next_of s d))))

module _ (t : Fronts) where
  front :
      (s d : ℕ) → (next_of s d ≡ 0 → ⊥) → eqb d class.info ≡ false → ltb s (first_state class.info) ≡ true
      → (ltb (next_of s d) (first_state class.info) ≡ true) × (is_shape d ≡ false)
  unfolding Fronts
  front s d n e h =
      let i = inside s d n in
      let b = rw (ne_eqb (next_of s d) 0 n, h, e) at
      (below_both states classes (λ (s d : ℕ). eqb (next_of s d) 0 || front_rule s d (next_of s d)) t s d i.0 i.1) in
      (and_left _ _ b, not-true _ (and_right (ltb (next_of s d) (first_state class.info)) _ b))

  Q : ℕ → List Element → Type 0
  Q s xs = ltb s (first_state class.info) ≡ true → Every NoShape xs

  at_element :
      (s : ℕ) (x : Element) (es : List Element) → is_start class.info x ≡ false → Sorted x → Ends s x → (next_of s (class_of x) ≡ 0 → ⊥)
      → Q (next_of s (class_of x)) es → Q s (x ∷ es)
  unfolding Q
  at_element s (opened d p) es e o z n q h = (tt, q (front s d n e h).0)
  at_element s (text d p u) es e o z n q h =
      let f = front s d n (ne_eqb d class.info (λ y. omega (arith, o, y))) h in (f.1, q f.0)
  at_element s (closed d) es e o z n q h = (tt, q (front s 0 n refl h).0)

  alert_none : (l : List ℕ) (es : List Element) → document_of l ≡ gives es → Every NoShape (alert_of es)
  unfolding Q
  alert_none l es d = in_alert Q (λ h. tt) (λ s n h. tt) at_element l es d refl

-- no text is such, where only shapes may be
any_none : (is : ℕ → List ℕ → Bool) → ((c : ℕ) (t : List ℕ) → is_shape c ≡ false → is c t ≡ false) → (xs : List Element) → Every NoShape xs → any_text is xs ≡ false
unfolding any_text
any_none is f [] h = refl
any_none is f (opened c p ∷ xs) h = any_none is f xs h.1
any_none is f (text c p t ∷ xs) h = rw (f c t h.0) (any_none is f xs h.1)
any_none is f (closed c ∷ xs) h = any_none is f xs h.1

-- "or no shape .., as part 0 never has"; it is there only where there are no parts
pub part_0_no_shape :
    (l : List ℕ) (es : List Element) → document_of l ≡ gives es → (p : Place)
    → cap_place 0 p l ≡ cond (eqb (total es) 0) (cond (in_range p) (gives no_shape) (refuses 6 0)) (refuses 21 0)
unfolding cap_place look_up next_of container_of Fronts
part_0_no_shape l es d p =
    let n = alert_none tt l es d in
    let a : any_shape (alert_of es) ≡ false = any_none (λ c t. is_shape c) (λ c t h. h) (alert_of es) n in
    let h : any_holds p (alert_of es) ≡ false = any_none (shape_holds p) (no_shape_lem p) (alert_of es) n in
    rw (d, a, h) (by_test (eqb (total es) 0) (λ e. rw e) (λ e. rw e))
