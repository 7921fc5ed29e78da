-- What a text of the part adds while its rule is tested: a shape's text answers for both at once.
use mathlib.Core.Path.{◌≡◌, refl, sym, ◌∙◌}
use mathlib.Core.Bool.{Bool, true, false, false≢true}
use mathlib.Core.List.{List}
use Prim.Native.Nat.{ℕ}
use borrow.Author.Tests.{eqb-true, ne_eqb}
use lib.Dec.{eqb}
use Rattle.std.specs.Prelude.{Some, None, is_some}
use Rattle.text.specs.Parts.{part}
use Rattle.text.specs.Answers.{gives, refuses, answer_number}
use Rattle.text.specs.Logic.{by_test, clash}
use Rattle.coordinates.specs.declared.Place.{Place}
use Rattle.polygon.proofs.Rings as polygon
use Rattle.circle.proofs.Texts as circle
use Rattle.schema.specs.Classes as class
use Rattle.document.specs.declared.Event.{Event}
use Rattle.document.specs.declared.Event.TheVariants.{Silent, Opened, Text, Closed}
use Rattle.document.specs.Elements.{fold}
use Rattle.document.specs.Documents.{elements_of}
use Rattle.rules.specs.Texts.{polygon_rule, circle_rule, text_rule}
use Rattle.parts.specs.declared.ShapeKind.{ShapeKind}
use Rattle.parts.specs.declared.ShapeKind.TheVariants as kind
use Rattle.parts.specs.Places.{is_shape, is_inside, shape_holds}
use Rattle.parts.specs.declared.areas.Shapes.{Shapes}
use Rattle.parts.specs.Reading.{by_rule, event_answer}
use Rattle.parts.specs.Gathering.{kind_of, shape_answer, answer_at, with_shape, with_text, seen}

-- ---- what an answer by a rule says of the rule

module _ {A B : Type 0} (n from : ℕ) (y : B) (z : A) where
  pub rule_kept : (x : B) → gives x ≡ by_rule n from y → (gives z ≡ by_rule n from z) × (x ≡ y)
  rule_kept x h = by_test (eqb n 0) (λ q. let k = rw q at h in (rw q, cc)) (λ q. clash (let k = rw q at h in cc))

  pub rule_broken : (m at : ℕ) → refuses m at ≡ by_rule n from y → refuses m at ≡ by_rule n from z
  rule_broken m at h = by_test (eqb n 0) (λ q. clash (let k = rw q at h in cc)) (λ q. let k = rw q at h in rw q (cc))

-- ---- a shape

polygon_class : (c : ℕ) → kind_of c ≡ Some kind.Polygon → c ≡ class.polygon
polygon_class c e =
    by_test (eqb c class.polygon) (λ q. eqb-true c class.polygon q) λ q.
    by_test (eqb c class.circle) (λ r. clash (let k = rw (q, r) at e in cc)) (λ r. clash (let k = rw (q, r) at e in cc))

circle_class : (c : ℕ) → kind_of c ≡ Some kind.Circle → c ≡ class.circle
circle_class c e =
    by_test (eqb c class.polygon) (λ q. clash (let k = rw q at e in cc)) λ q.
    by_test (eqb c class.circle) (λ r. eqb-true c class.circle r) (λ r. clash (let k = rw (q, r) at e in cc))

module _ (p : Place) (c : ℕ) (t : List ℕ) where
  -- its rule refuses it just as the question about the place does
  shape_rule : (k : ShapeKind) → kind_of c ≡ Some k → text_rule c t ≡ answer_number (shape_answer p k t)
  unfolding text_rule polygon_rule circle_rule
  shape_rule kind.Polygon e = rw (polygon_class c e) (sym (polygon.holds_number t p))
  shape_rule kind.Circle e = rw (circle_class c e) (sym (circle.holds_number t p))

  shape_inside : (k : ShapeKind) → kind_of c ≡ Some k → shape_holds p c t ≡ is_inside (shape_answer p k t)
  shape_inside kind.Polygon e = rw (polygon_class c e)
  shape_inside kind.Circle e = rw (circle_class c e)

  -- so one answer is both
  pub shape_by_rule :
      (k : ShapeKind) (from : ℕ) → kind_of c ≡ Some k → answer_at from (shape_answer p k t) ≡ by_rule (text_rule c t) from (shape_holds p c t)
  shape_by_rule k from e = rw (shape_rule k e, shape_inside k e)

  -- what the text adds, by what it is
  pub text_none : (f : Shapes) → None ≡ kind_of c → f ≡ with_text p c t f
  text_none f e = rw (← e)

  pub text_named : (f : Shapes) (k : ShapeKind) → Some k ≡ kind_of c → is_some f.first ≡ true → with_shape k false f ≡ with_text p c t f
  text_named f k e n = rw (← e, n)

  pub text_first :
      (f : Shapes) (k : ShapeKind) (b : Bool) → Some k ≡ kind_of c → is_some f.first ≡ false → b ≡ shape_holds p c t
      → with_shape k b f ≡ with_text p c t f
  text_first f k b e n h = rw (← e, n, h)

  -- a text that isn't a shape
  pub no_shape_lem : is_shape c ≡ false → shape_holds p c t ≡ false
  no_shape_lem e = by_test (eqb c class.polygon) (λ q. absurd (false≢true (sym (rw q at e)))) (λ q. let r : eqb c class.circle ≡ false = rw q at e in rw (q, r))

-- ---- an event

module _ (l : List ℕ) (p : Place) (c from until : ℕ) (k : ShapeKind) (e : Some k ≡ kind_of c) where
  same : answer_at from (shape_answer p k (part l from until)) ≡ by_rule (text_rule c (part l from until)) from (shape_holds p c (part l from until))
  same = shape_by_rule p c (part l from until) k from (sym e)

  -- the answer about a shape says too that its text keeps to its rule, or breaks it
  pub shape_kept :
      (b : Bool) → gives b ≡ answer_at from (shape_answer p k (part l from until))
      → (gives tt ≡ event_answer l (Text c from until)) × (b ≡ shape_holds p c (part l from until))
  shape_kept b h = rule_kept _ from _ tt b (h ∙ same)

  pub shape_broken :
      (m at : ℕ) → refuses m at ≡ answer_at from (shape_answer p k (part l from until)) → refuses m at ≡ event_answer l (Text c from until)
  shape_broken m at h = rule_broken _ from _ tt m at (h ∙ same)

-- an event that isn't of the part
pub seen_other : (n k : ℕ) (p : Place) (f : Shapes) (l : List ℕ) (e : Event) → (k ≡ n → ⊥) → f ≡ fold (seen n p k) f (elements_of l e)
unfolding fold
seen_other n k p f l Silent h = refl
seen_other n k p f l (Opened c q) h = rw (ne_eqb k n h)
seen_other n k p f l (Text c from until) h = rw (ne_eqb k n h)
seen_other n k p f l (Closed c) h = rw (ne_eqb k n h)
