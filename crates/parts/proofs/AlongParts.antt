-- What holds along the elements of a part of an accepted document, by the schema's states.
use mathlib.Core.Path.{◌≡◌, refl, sym, subst}
use mathlib.Core.Bool.{true, false, not, ◌&&◌, false≢true}
use mathlib.Core.List.{List, [], ◌∷◌}
use Prim.Native.Nat.{ℕ, ◌+◌, ◌-◌, ◌≤◌, ◌<◌}
use native.Mathlib.Omega.{arith}
use borrow.Author.Tests.{eqb-true, eqb-false, eq-eqb, ne_eqb}
use lib.Dec.{eqb, ltb}
use Rattle.text.specs.Logic.{by_test, cond_cases}
use Rattle.text.specs.Answers.{gives}
use Rattle.schema.specs.Classes as class
use Rattle.schema.specs.Sequences.{particles, follows, next_in, next_of, container_of, first_state, before, over, states, classes}
use Rattle.document.specs.Elements.{Element, opened, text, closed, is_start, starts, total}
use Rattle.document.specs.Documents.{document_of}
use Rattle.document.proofs.Accepted.{Every}
use Rattle.document.proofs.Sound.{Sorted, all_sorted}
use Rattle.document.proofs.Schema.{follow, follows_schema, taken, ended_right, ended_class}
use Rattle.parts.specs.Elements.{within, alert_of, part_of}

-- the class by which an element is looked up in the table
abbrev pub class_of : Element → ℕ
class_of (opened c p) = c
class_of (text c p t) = c
class_of (closed c) = 0

follow_on : (s : ℕ) (x : Element) (es : List Element) → follow s (x ∷ es) ≡ over → follow (next_of s (class_of x)) es ≡ over
unfolding follow
follow_on s (opened c p) es h = h
follow_on s (text c p t) es h = h
follow_on s (closed c) es h = ended_right s c es h

-- an end is that of the container in which it stands
abbrev pub Ends : ℕ → Element → Type 0
Ends s (opened c p) = Prim.Unit
Ends s (text c p t) = Prim.Unit
Ends s (closed c) = c ≡ container_of s

ends_here : (s : ℕ) (x : Element) (es : List Element) → follow s (x ∷ es) ≡ over → Ends s x
unfolding follow
ends_here s (opened c p) es h = tt
ends_here s (text c p t) es h = tt
ends_here s (closed c) es h = ended_class s c es h

start_class : (x : Element) → is_start class.info x ≡ true → class_of x ≡ class.info
start_class (opened c p) e = eqb-true c class.info e
start_class (text c p t) e = absurd (false≢true e)
start_class (closed c) e = absurd (false≢true e)

-- after a part nothing belongs to it
within_past : (k n : ℕ) (es : List Element) → n < k → within k n es ≡ []
unfolding within
within_past k n [] h = refl
within_past k n (x ∷ es) h =
    by_test (is_start class.info x)
    (λ e. rw e (within_past (k + 1) n es (omega arith)))
    (λ e. rw (e, ne_eqb k n (λ q. omega arith)) (within_past k n es h))

-- and a part that doesn't come has nothing
pub within_none : (k n : ℕ) (es : List Element) → k + total es < n → within k n es ≡ []
unfolding within starts
within_none k n [] h = refl
within_none k n (x ∷ es) h =
    by_test (is_start class.info x)
    (λ e. let w = rw e at h in rw e (within_none (k + 1) n es (omega (arith, w))))
    (λ e. let w = rw e at h in rw (e, ne_eqb k n (λ q. omega arith)) (within_none k n es (omega (arith, w))))

-- an info starts in its own first state
info_next : (s : ℕ) → (next_of s class.info ≡ 0 → ⊥) → next_of s class.info ≡ first_state class.info
unfolding next_of
info_next s =
    cond_cases Start (ltb s states && ltb class.info classes && not (eqb s 0)) (next_in (container_of s) (s - first_state (container_of s)) class.info) 0
    (λ e.
    cond_cases Start (eqb (follows (s - first_state (container_of s)) class.info 1 (particles (container_of s))) 0) 0 (first_state class.info)
    (λ i n. absurd (n refl)) (λ i n. refl))
    (λ e n. absurd (n refl))
  where
    Start : ℕ → Type 0
    Start r = (r ≡ 0 → ⊥) → r ≡ first_state class.info

-- what holds at the document's end and before an info, and before each other element if it holds after it
module _ (Q : ℕ → List Element → Type 0)
    (last : Q over [])
    (stop : (s : ℕ) → (next_of s class.info ≡ 0 → ⊥) → Q s [])
    (front : (s : ℕ) (x : Element) (es : List Element) → is_start class.info x ≡ false → Sorted x → Ends s x → (next_of s (class_of x) ≡ 0 → ⊥)
    → Q (next_of s (class_of x)) es → Q s (x ∷ es)) where
  -- of the rest of the part in which a state lies
  rest_holds : (k s : ℕ) (es : List Element) → Every Sorted es → follow s es ≡ over → Q s (within k k es)
  unfolding within follow
  rest_holds k s [] o h = subst (λ (r : ℕ). Q r []) (sym h) last
  rest_holds k s (x ∷ es) o h =
      let f = follow_on s x es h in
      let t = taken (next_of s (class_of x)) es f in
      by_test (is_start class.info x)
      (λ e. rw (e, within_past (k + 1) k es (omega arith)) (stop s (rw (start_class x e) at t)))
      (λ e. rw (e, eq-eqb k k refl) (front s x (within k k es) e o.0 (ends_here s x es h) t (rest_holds k (next_of s (class_of x)) es o.1 f)))

  -- of a part that comes, from its start on
  part_holds :
      (k n s : ℕ) (es : List Element) → k < n → n ≤ k + total es → Every Sorted es → follow s es ≡ over → Q (first_state class.info) (within k n es)
  unfolding within starts
  part_holds k n s [] b t o h = absurd (omega arith)
  part_holds k n s (x ∷ es) b t o h =
      let f = follow_on s x es h in
      let r = taken (next_of s (class_of x)) es f in
      by_test (is_start class.info x)
      (λ e.
      let g = rw (start_class x e) at f in
      let w = rw e at t in
      rw e
      (by_test (eqb (k + 1) n)
      (λ z.
      rw (← eqb-true (k + 1) n z, ← info_next s (rw (start_class x e) at r)) (rest_holds (k + 1) (next_of s class.info) es o.1 g))
      (λ z. part_holds (k + 1) n (next_of s class.info) es (omega (arith, eqb-false (k + 1) n z)) (omega (arith, w)) o.1 g)))
      (λ e. rw (e, ne_eqb k n (λ q. omega arith)) (part_holds k n (next_of s (class_of x)) es b (let w = rw e at t in omega (arith, w)) o.1 f))

  -- of what an accepted document holds before its first info, and of each of its parts
  module _ (l : List ℕ) (es : List Element) (d : document_of l ≡ gives es) where
    pub in_alert : Q before (alert_of es)
    in_alert = rest_holds 0 before es (all_sorted l es d) (follows_schema l es d)

    pub in_part : (n : ℕ) → 1 ≤ n → n ≤ total es → Q (first_state class.info) (part_of n es)
    in_part n h g = part_holds 0 n before es h (omega arith) (all_sorted l es d) (follows_schema l es d)
