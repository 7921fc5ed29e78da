-- What is kept while a document is read is what the definitions say of its elements, for any list of elements.
use mathlib.Core.Path.{◌≡◌, refl, sym, ap, ◌∙◌}
use mathlib.Core.Bool.{Bool, true, false, cond, ◌&&◌, false≢true}
use mathlib.Core.List.{List, [], ◌∷◌}
use Prim.Native.Nat.{ℕ, ◌+◌, ◌-◌, ◌≤◌, ◌<◌}
use native.Mathlib.Omega.{arith}
use borrow.Author.Tests.{eqb-true, eqb-false, leb-true, le-leb, lt-ltb, eq-eqb}
use lib.Dec.{eqb, leb, ltb}
use lib.ListN.{length, get_or, replicate, length-set, get_or-replicate}
use lib.Seq.{get_or-set_same, get_or-set_other}
use mir.Val.{bool_byte}
use Rattle.text.specs.Answers.{gives}
use Rattle.text.specs.Logic.{by_test, cond_cases, and_left}
use Rattle.sheet.specs.declared.Span.{Span}
use Rattle.coordinates.specs.declared.Place.{Place}
use Rattle.schema.specs.Classes as class
use Rattle.document.specs.declared.Event.{Event}
use Rattle.document.specs.declared.Event.TheVariants.{Silent, Opened, Text, Closed}
use Rattle.document.specs.Documents.{elements_of}
use Rattle.document.specs.Elements.{Element, opened, text, closed, is_start, fold, counted, gather}
use Rattle.parts.specs.declared.texts.Facts.{Facts}
use Rattle.parts.specs.declared.areas.Shapes.{Shapes}
use Rattle.parts.specs.Elements.{within, alert_of, part_of, span_of, later, nowhere, text_span}
use Rattle.parts.specs.Reading.{event_answer}
use Rattle.parts.specs.Gathering.{kept, stored, alert_span, part_span, noted, no_facts, looked, seen, no_shapes}

-- ---- any facts

pub cond_same : {A : Type 0} (b : Bool) (x : A) → cond b x x ≡ x
cond_same true x = refl
cond_same false x = refl

-- a choice by two tests is one after the other
pub cond_both : {A : Type 0} (s t : Bool) (x y : A) → cond (s && t) x y ≡ cond s (cond t x y) y
cond_both true t x y = refl
cond_both false t x y = refl

-- facts to which only the elements of part n add something are those of these elements; get reads them off all that is gathered
module _ {F G : Type 0} (get : F → G) (note : ℕ → F → Element → F) (look : G → Element → G) (n : ℕ)
    (on : (k : ℕ) (f : F) (x : Element) → get (note k f x) ≡ cond (eqb k n) (look (get f) x) (get f))
    (of-start : (g : G) (p : ℕ) → look g (opened class.info p) ≡ g) where
  start_none : (g : G) (x : Element) → is_start class.info x ≡ true → look g x ≡ g
  start_none g (opened c p) e = rw (eqb-true c class.info e) (of-start g p)
  start_none g (text c p t) e = absurd (false≢true e)
  start_none g (closed c) e = absurd (false≢true e)

  one_kept :
      (b : Bool) (k : ℕ) (g : G) (x : Element) (es : List Element) → is_start class.info x ≡ b
      → fold look (cond (eqb (k + bool_byte b) n) (look g x) g) (within (k + bool_byte b) n es) ≡ fold look g (within k n (x ∷ es))
  unfolding fold within
  one_kept true k g x es e = rw (e, start_none g x e, cond_same (eqb (k + 1) n) g)
  one_kept false k g x es e =
      let z : k + 0 ≡ k = omega arith in
      rw (e, z) (by_test (eqb k n) (λ t. rw t) (λ t. rw t))

  pub gather_kept : (k : ℕ) (f : F) (es : List Element) → get (gather note k f es) ≡ fold look (get f) (within k n es)
  unfolding gather fold within
  gather_kept k f [] = refl
  gather_kept k f (x ∷ es) =
      gather_kept (counted k x) (note (counted k x) f x) es
      ∙ (rw (on (counted k x) f x) (one_kept (is_start class.info x) k (get f) x es refl))

-- ---- where texts stand

-- one list of spans, from a first class on
abbrev put : ℕ → List Span → Element → List Span
put first ss (opened c p) = ss
put first ss (text c p t) = stored first c (span_of p t) ss
put first ss (closed c) = ss

-- a class at its index in the list
module _ (first c : ℕ) (low : first ≤ c) (high : c - first < kept) where
  stored_length : (d : ℕ) (s : Span) (ss : List Span) → length ss ≡ kept → length (stored first d s ss) ≡ kept
  stored_length d s ss h =
      cond_cases (λ (r : List Span). length r ≡ kept) (leb first d && ltb (d - first) kept) _ _ (λ e. length-set ss (d - first) s ∙ h) (λ e. h)

  -- a span that is put in stands at its own class only
  stored_at :
      (d : ℕ) (s : Span) (ss : List Span) → length ss ≡ kept
      → get_or (stored first d s ss) (c - first) nowhere ≡ cond (eqb d c) s (get_or ss (c - first) nowhere)
  stored_at d s ss h =
      by_test (eqb d c)
      (λ e.
      rw (eqb-true d c e, eq-eqb c c refl, le-leb first c low, lt-ltb (c - first) kept high)
      (get_or-set_same ss (c - first) s nowhere (omega arith)))
      (λ e.
      rw e
      (cond_cases (λ (r : List Span). get_or r (c - first) nowhere ≡ get_or ss (c - first) nowhere) (leb first d && ltb (d - first) kept) _ _
      (λ i.
      let b = leb-true first d (and_left (leb first d) (ltb (d - first) kept) i) in
      get_or-set_other ss (d - first) (c - first) s nowhere (λ q. eqb-false d c e (omega arith)))
      (λ i. refl)))

  put_at :
      (ss : List Span) (es : List Element) → length ss ≡ kept
      → get_or (fold (put first) ss es) (c - first) nowhere ≡ fold (later c) (get_or ss (c - first) nowhere) es
  unfolding fold
  put_at ss [] h = refl
  put_at ss (opened d p ∷ es) h = put_at ss es h
  put_at ss (text d p t ∷ es) h =
      put_at (stored first d (span_of p t) ss) es (stored_length d (span_of p t) ss h)
      ∙ ap (λ (s : Span). fold (later c) s es) (stored_at d (span_of p t) ss h)
  put_at ss (closed d ∷ es) h = put_at ss es h

  -- from empty texts on
  empty_at : (es : List Element) → get_or (fold (put first) (replicate kept nowhere) es) (c - first) nowhere ≡ text_span es c
  empty_at es =
      put_at (replicate kept nowhere) es refl
      ∙ ap (λ (s : Span). fold (later c) s es) (get_or-replicate kept (c - first) nowhere nowhere high)

module _ (n : ℕ) (es : List Element) (c : ℕ) where
  -- of the alert itself
  pub alert_kept : class.identifier ≤ c → c - class.identifier < kept → alert_span (gather (noted n) 0 no_facts es) c ≡ text_span (alert_of es) c
  alert_kept h g =
      rw (gather_kept (λ (f : Facts). f.alert) (noted n) (put class.identifier) 0 on (λ ss p. refl) 0 no_facts es)
      (empty_at class.identifier c h g (alert_of es))
    where
      on : (k : ℕ) (f : Facts) (x : Element) → (noted n k f x).alert ≡ cond (eqb k 0) (put class.identifier f.alert x) f.alert
      on k f (opened d p) = sym (cond_same (eqb k 0) f.alert)
      on k f (text d p t) = refl
      on k f (closed d) = sym (cond_same (eqb k 0) f.alert)

  -- of the part asked for
  pub part_kept : class.urgency ≤ c → c - class.urgency < kept → part_span (gather (noted n) 0 no_facts es) c ≡ text_span (part_of n es) c
  part_kept h g =
      rw (gather_kept (λ (f : Facts). f.part) (noted n) (put class.urgency) n on (λ ss p. refl) 0 no_facts es)
      (empty_at class.urgency c h g (part_of n es))
    where
      on : (k : ℕ) (f : Facts) (x : Element) → (noted n k f x).part ≡ cond (eqb k n) (put class.urgency f.part x) f.part
      on k f (opened d p) = sym (cond_same (eqb k n) f.part)
      on k f (text d p t) = refl
      on k f (closed d) = sym (cond_same (eqb k n) f.part)

-- an event that is no text
pub noted_other :
    (n k : ℕ) (f : Facts) (l : List ℕ) (e : Event) → ((c from until : ℕ) → e ≡ Text c from until → ⊥)
    → (gives tt ≡ event_answer l e) × (f ≡ fold (noted n k) f (elements_of l e))
unfolding fold
noted_other n k f l Silent h = (refl, refl)
noted_other n k f l (Opened c q) h = (refl, refl)
noted_other n k f l (Text c from until) h = absurd (h c from until refl)
noted_other n k f l (Closed c) h = (refl, refl)

-- ---- shapes

pub seen_part : (p : Place) (n : ℕ) (es : List Element) → gather (seen n p) 0 no_shapes es ≡ fold (looked p) no_shapes (part_of n es)
seen_part p n es = gather_kept (λ (f : Shapes). f) (seen n p) (looked p) n (λ k f x. refl) (λ f q. refl) 0 no_shapes es
