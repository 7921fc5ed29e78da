-- The elements of an accepted document follow the table of what may follow, from its first state to its last; and there are at most 16 infos.
use mathlib.Core.Path.{◌≡◌, refl, sym, ap, ◌∙◌}
use mathlib.Core.Bool.{cond}
use mathlib.Core.List.{List, [], ◌∷◌, ◌++◌}
use Prim.Native.Nat.{ℕ, ◌+◌, ◌≤◌}
use native.Mathlib.Omega.{arith}
use borrow.Author.Tests.{eqb-true, eq-eqb}
use lib.Dec.{eqb, ltb}
use Rattle.text.specs.Logic.{by_test}
use Rattle.text.specs.Answers.{gives}
use Rattle.schema.specs.Classes as class
use Rattle.schema.specs.Sequences.{next_of, container_of, before, over, classes}
use Rattle.document.specs.declared.Mode.{Mode}
use Rattle.document.specs.declared.Event.{Event}
use Rattle.document.specs.declared.Event.TheVariants.{Silent, Opened, Text, Closed}
use Rattle.document.specs.Steps.{Next, Done}
use Rattle.document.specs.Elements.{Element, opened, text, closed, starts, total}
use Rattle.document.specs.Tags.{max_infos}
use Rattle.document.specs.Constructs.{step_of}
use Rattle.document.specs.Documents.{elements_of, document_of}
use Rattle.document.proofs.Events.{state_after, SoundEvent, onward, ended}
use Rattle.document.proofs.Loops.{starts_append}
use Rattle.document.proofs.Accepted.{accepted_holds}

-- ---- the table along the elements

-- the state after elements that start in a state; 0 as soon as one may not stand where it does,
-- or an end is not that of the container it stands in or something is missing there
unfoldable pub follow : ℕ → List Element → ℕ
follow state [] = state
follow state (opened c p ∷ es) = follow (next_of state c) es
follow state (text c p t ∷ es) = follow (next_of state c) es
follow state (closed c ∷ es) = cond (eqb c (container_of state)) (follow (next_of state 0) es) 0

-- an event's element leads from the state before it to the state after it
event_follows :
    (l : List ℕ) (state next : ℕ) (e : Event) (es : List Element) → next ≡ state_after state e → SoundEvent l state e
    → follow state (elements_of l e ++ es) ≡ follow next es
unfolding follow
event_follows l state next Silent es r t = rw r
event_follows l state next (Opened c p) es r t = rw r
event_follows l state next (Text c from until) es r t = rw r
event_follows l state next (Closed c) es r t = rw (r, eq-eqb c (container_of state) t)

pub follows_schema : (l : List ℕ) (es : List Element) → document_of l ≡ gives es → follow before es ≡ over
unfolding follow
follows_schema l es d =
    (accepted_holds l (λ (m : Mode) (xs : List Element). follow m.state xs ≡ over) (ended l)
    (λ m m' e xs p h. let o = onward l m m' e p in event_follows l m.state m'.state e xs o.follows o.event ∙ h)
    es d).1.1

-- ---- states

-- state 0 leads nowhere
next_none : (c : ℕ) → next_of 0 c ≡ 0
unfolding next_of
next_none c = by_test (ltb c classes) (λ e. rw e) (λ e. rw e)

follow_none : (es : List Element) → follow 0 es ≡ 0
unfolding follow
follow_none [] = refl
follow_none (opened c p ∷ es) = rw (next_none c) (follow_none es)
follow_none (text c p t ∷ es) = rw (next_none c) (follow_none es)
follow_none (closed c ∷ es) = by_test (eqb c (container_of 0)) (λ e. rw (e, next_none 0) (follow_none es)) (λ e. rw e)

-- after an element that stands where it may the state is one of the table's
pub taken : (state : ℕ) (es : List Element) → follow state es ≡ over → state ≡ 0 → ⊥
taken state es h z = omega (arith, ap (λ (r : ℕ). follow r es) (sym z) ∙ h, follow_none es)

-- an end that stands where it may
pub ended_right :
    (state c : ℕ) (es : List Element) → cond (eqb c (container_of state)) (follow (next_of state 0) es) 0 ≡ over
    → follow (next_of state 0) es ≡ over
ended_right state c es h = by_test (eqb c (container_of state)) (λ e. rw e at h) (λ e. absurd (omega (arith, rw e at h)))

-- an end that stands where it may is that of its container
pub ended_class :
    (s c : ℕ) (es : List Element) → cond (eqb c (container_of s)) (follow (next_of s 0) es) 0 ≡ over → c ≡ container_of s
ended_class s c es h = by_test (eqb c (container_of s)) (eqb-true c (container_of s)) (λ e. absurd (omega (arith, rw e at h)))

-- ---- "a 17th info"

-- with the infos that a mode counts the total stays at 16 at most
abbrev Limited : Mode → List Element → Type 0
Limited m es = m.infos ≤ max_infos → m.infos + total es ≤ max_infos

pub parts_limit : (l : List ℕ) (es : List Element) → document_of l ≡ gives es → total es ≤ 16
unfolding starts
parts_limit l es p =
    let h : 0 + total es ≤ 16 = (accepted_holds l Limited last front es p).1.1 (omega arith) in
    omega arith
  where
    last : (m : Mode) → step_of l m ≡ Done → Limited m []
    last m q h = omega arith

    front : (m m' : Mode) (e : Event) (xs : List Element) → step_of l m ≡ Next m' e → Limited m' xs → Limited m (elements_of l e ++ xs)
    front m m' e xs q rest h =
        let o = onward l m m' e q in
        omega (arith, o.counts, starts_append class.info (elements_of l e) xs, rest (o.limited h))
