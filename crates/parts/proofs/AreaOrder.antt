-- In an accepted document shapes stand in areas only, in each area the polygons before the circles; and no area stands in another.
use mathlib.Core.Path.{◌≡◌, refl, sym, ap, ◌∙◌}
use mathlib.Core.Bool.{Bool, false, cond, ◌||◌}
use mathlib.Core.List.{List, [], ◌∷◌}
use Prim.Native.Nat.{ℕ, zero, suc, ◌+◌, ◌<◌}
use native.Mathlib.Omega.{arith}
use borrow.Author.Tests.{eqb-true, eqb-false, ne_eqb, le-leb, lt-leb, leb-true, leb-false}
use lib.Dec.{T, eqb, leb, ltb}
use Rattle.text.specs.Logic.{by_test, cond_cases, below, below_both}
use Rattle.text.specs.Answers.{gives}
use Rattle.schema.specs.Classes as class
use Rattle.schema.specs.Sequences.{particles, index_in, next_of, container_of, first_state, over, states, classes}
use Rattle.schema.proofs.Table.{inside}
use Rattle.document.specs.Elements.{Element, opened, text, closed, is_start, total}
use Rattle.document.specs.Documents.{document_of}
use Rattle.document.proofs.Sound.{Sorted}
use Rattle.parts.specs.Elements.{part_of}
use Rattle.parts.proofs.AlongParts.{class_of, Ends, within_none, in_alert, in_part}

-- ---- phases of a part: outside of its areas; in one, where polygons may come; in one, behind them; an element is misplaced

pub data Phase : Type 0 where
  between_areas : Phase
  among_polygons : Phase
  behind_polygons : Phase
  misplaced : Phase

abbrev pub on_area : Phase → Phase
on_area between_areas = among_polygons
on_area among_polygons = misplaced
on_area behind_polygons = misplaced
on_area misplaced = misplaced

abbrev pub on_polygon : Phase → Phase
on_polygon between_areas = misplaced
on_polygon among_polygons = among_polygons
on_polygon behind_polygons = misplaced
on_polygon misplaced = misplaced

abbrev pub on_circle : Phase → Phase
on_circle between_areas = misplaced
on_circle among_polygons = behind_polygons
on_circle behind_polygons = behind_polygons
on_circle misplaced = misplaced

-- what stands in an area behind its polygons, or outside of areas
abbrev pub on_other : Phase → Phase
on_other between_areas = between_areas
on_other among_polygons = behind_polygons
on_other behind_polygons = behind_polygons
on_other misplaced = misplaced

-- the phase after an element
abbrev pub phase_after : Phase → Element → Phase
phase_after h (opened c p) = cond (eqb c class.area) (on_area h) (on_other h)
phase_after h (text c p t) =
    cond (eqb c class.polygon) (on_polygon h) (cond (eqb c class.circle) (on_circle h) (cond (eqb c class.area_desc) h (on_other h)))
phase_after h (closed c) = cond (eqb c class.area) between_areas h

abbrev number : Phase → ℕ
number between_areas = 0
number among_polygons = 1
number behind_polygons = 2
number misplaced = 3

-- no element of a list is misplaced
unfoldable pub Placed : Phase → List Element → Type 0
Placed h [] = number h < 3
Placed h (x ∷ es) = (number h < 3) × Placed (phase_after h x) es

-- ---- the schema's states keep to the phases

abbrev phase_in : ℕ → ℕ → Phase
phase_in c s =
    cond (eqb c class.area) (cond (ltb s (first_state class.area + index_in class.circle 1 (particles class.area))) among_polygons behind_polygons)
    (cond (eqb c class.geocode) behind_polygons between_areas)

-- the phase of a state: a geocode stands after the circles of its area
abbrev phase_of : ℕ → Phase
phase_of s = phase_in (container_of s) s

-- an element by which the table leads on from a state, for a class; class 0 is the container's end
abbrev element_by : ℕ → ℕ → Element
element_by s d = cond (eqb d 0) (closed (container_of s)) (cond (leb d class.last_container) (opened d 0) (text d 0 []))

abbrev keeps : ℕ → ℕ → Bool
keeps s d =
    eqb (next_of s d) 0 || eqb d class.info
    || eqb (number (phase_after (phase_of s) (element_by s d))) (number (phase_of (next_of s d)))

-- tested at each entry of the table
Keeps : Type 0
Keeps = T (below states (λ (s : ℕ). below classes (keeps s)))

phase_from : ℕ → Phase
phase_from zero = between_areas
phase_from (suc zero) = among_polygons
phase_from (suc (suc zero)) = behind_polygons
phase_from (suc (suc (suc n))) = misplaced

from_number : (h : Phase) → phase_from (number h) ≡ h
unfolding phase_from
from_number between_areas = refl
from_number among_polygons = refl
from_number behind_polygons = refl
from_number misplaced = refl

state_placed : (s : ℕ) → number (phase_of s) < 3
state_placed s =
    cond_cases (λ (h : Phase). number h < 3) (eqb (container_of s) class.area) _ _
    (λ e. cond_cases (λ (h : Phase). number h < 3) (ltb s (first_state class.area + index_in class.circle 1 (particles class.area))) _ _ (λ i. omega arith) (λ i. omega arith))
    (λ e. cond_cases (λ (h : Phase). number h < 3) (eqb (container_of s) class.geocode) _ _ (λ i. omega arith) (λ i. omega arith))

module _ (t : Keeps) where
  -- the element of the table
  by_table :
      (s d : ℕ) → (next_of s d ≡ 0 → ⊥) → eqb d class.info ≡ false → phase_after (phase_of s) (element_by s d) ≡ phase_of (next_of s d)
  unfolding Keeps
  by_table s d n e =
      let i = inside s d n in
      let b = rw (ne_eqb (next_of s d) 0 n, e) at (below_both states classes keeps t s d i.0 i.1) in
      let h = phase_after (phase_of s) (element_by s d) in
      sym (from_number h) ∙ (ap phase_from (eqb-true (number h) (number (phase_of (next_of s d))) b) ∙ from_number (phase_of (next_of s d)))

  -- any element
  phase_kept :
      (s : ℕ) (x : Element) → is_start class.info x ≡ false → Sorted x → Ends s x → (next_of s (class_of x) ≡ 0 → ⊥)
      → phase_after (phase_of s) x ≡ phase_of (next_of s (class_of x))
  phase_kept s (opened d p) e o z n = rw (ne_eqb d 0 (λ q. omega (arith, o, q)), le-leb d class.last_container o.1) at (by_table s d n e)
  phase_kept s (text d p u) e o z n =
      rw (ne_eqb d 0 (λ q. omega (arith, o, q)), lt-leb d class.last_container o) at
      (by_table s d n (ne_eqb d class.info (λ q. omega (arith, o, q))))
  phase_kept s (closed d) e o z n = rw z (by_table s 0 n refl)

  Q : ℕ → List Element → Type 0
  Q s es = Placed (phase_of s) es

  none_left : (s : ℕ) → Q s []
  unfolding Q Placed
  none_left s = state_placed s

  at_element :
      (s : ℕ) (x : Element) (es : List Element) → is_start class.info x ≡ false → Sorted x → Ends s x → (next_of s (class_of x) ≡ 0 → ⊥)
      → Q (next_of s (class_of x)) es → Q s (x ∷ es)
  unfolding Q Placed
  at_element s x es e o z n q = (state_placed s, rw (phase_kept s x e o z n) q)

  module _ (l : List ℕ) (es : List Element) (d : document_of l ≡ gives es) where
    -- before the first info, in an info, and in a part that isn't there
    in_any : (n : ℕ) → Placed between_areas (part_of n es)
    unfolding Q container_of Placed
    in_any n =
        by_test (eqb n 0) (λ e. rw (eqb-true n 0 e) (in_alert Q (none_left over) (λ s t. none_left s) at_element l es d)) λ e.
        by_test (leb n (total es))
        (λ f.
        in_part Q (none_left over) (λ s t. none_left s) at_element l es d n (omega (arith, eqb-false n 0 e)) (leb-true n (total es) f))
        (λ f. rw (within_none 0 n es (omega (arith, leb-false n (total es) f))) (omega arith))

pub part_placed : (l : List ℕ) (es : List Element) → document_of l ≡ gives es → (n : ℕ) → Placed between_areas (part_of n es)
unfolding Keeps next_of container_of
part_placed = in_any tt
