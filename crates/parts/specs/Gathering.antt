-- What is kept while a document is read: the same facts, gathered element by element. The laws in
-- proofs/ show that they are those of the definitions.
use Rattle.std.specs.Prelude.{Bool, cond, not, ◌&&◌, List, ℕ, ◌+◌, ◌-◌, ◌≤◌, eqb, leb, ltb, get_or, set, replicate, Option, Some, None, is_some}
use Rattle.text.specs.Answers.{Answer, answer_number}
use Rattle.sheet.specs.declared.Span.{Span}
use Rattle.coordinates.specs.declared.Place.{Place}
use Rattle.polygon.specs.Polygon.{polygon_holds}
use Rattle.circle.specs.Circle.{circle_holds}
use Rattle.schema.specs.Classes as class
use Rattle.document.specs.Elements.{Element, opened, text, closed}
use Rattle.parts.specs.declared.texts.Facts.{Facts}
use Rattle.parts.specs.declared.areas.Shapes.{Shapes}
use Rattle.parts.specs.declared.ShapeKind.{ShapeKind}
use Rattle.parts.specs.declared.ShapeKind.TheVariants as kind
use Rattle.parts.specs.Elements.{span_of, nowhere}
use Rattle.parts.specs.Places.{is_inside, shape_holds}
use Rattle.parts.specs.Reading.{by_rule, gathered}

-- ---- where texts stand

-- the spans of so many classes from a first one on are kept in a list
abbrev pub kept : ℕ
kept = 7

-- with that of class c put in
abbrev pub stored : (first c : ℕ) → Span → List Span → List Span
stored first c s ss = cond (leb first c && ltb (c - first) kept) (set ss (c - first) s) ss

-- the span of a class in such a list, of the alert's own classes and of a part's
abbrev pub alert_span : Facts → ℕ → Span
alert_span f c = get_or f.alert (c - class.identifier) nowhere

abbrev pub part_span : Facts → ℕ → Span
part_span f c = get_or f.part (c - class.urgency) nowhere

-- a text, where k infos have started: one of the alert itself, and one of part n
abbrev pub noted : (n k : ℕ) → Facts → Element → Facts
noted n k f (opened c p) = f
noted n k f (text c p t) = record {
  alert = cond (eqb k 0) (stored class.identifier c (span_of p t) f.alert) f.alert;
  part = cond (eqb k n) (stored class.urgency c (span_of p t) f.part) f.part;
}
noted n k f (closed c) = f

abbrev pub no_facts : Facts
no_facts = record { alert = replicate kept nowhere; part = replicate kept nowhere }

-- the facts of a document that is read to its end
unfoldable pub reading_of : ℕ → List ℕ → Answer (ℕ × Facts)
reading_of n l = gathered (noted n) no_facts l

-- ---- shapes

-- an area starts
abbrev pub with_area : Shapes → Shapes
with_area f = record {
  areas = f.areas + 1;
  polygons = 0;
  circles = 0;
  count = f.count;
  first = f.first;
}

-- a shape of a kind is counted, and named if it is the first that holds the place
abbrev pub with_shape : ShapeKind → (first : Bool) → Shapes → Shapes
with_shape kind.Polygon b f = record {
  areas = f.areas;
  polygons = f.polygons + 1;
  circles = f.circles;
  count = f.count + 1;
  first = cond b (Some (record { area = f.areas; kind = kind.Polygon; position = f.polygons + 1 })) f.first;
}
with_shape kind.Circle b f = record {
  areas = f.areas;
  polygons = f.polygons;
  circles = f.circles + 1;
  count = f.count + 1;
  first = cond b (Some (record { area = f.areas; kind = kind.Circle; position = f.circles + 1 })) f.first;
}

-- the kind of shape that a text of a class writes, if it writes one
abbrev pub kind_of : ℕ → Option ShapeKind
kind_of c = cond (eqb c class.polygon) (Some kind.Polygon) (cond (eqb c class.circle) (Some kind.Circle) None)

-- whether the shape of a kind that a text writes holds a place
abbrev pub shape_answer : Place → ShapeKind → List ℕ → Answer Bool
shape_answer p kind.Polygon t = polygon_holds t p
shape_answer p kind.Circle t = circle_holds t p

-- an answer about a place, by a text that starts at an offset
abbrev pub answer_at : (from : ℕ) → Answer Bool → Answer Bool
answer_at from a = by_rule (answer_number a) from (is_inside a)

abbrev pub with_kind : Option ShapeKind → (first : Bool) → Shapes → Shapes
with_kind None b f = f
with_kind (Some k) b f = with_shape k b f

-- a text of the part
abbrev pub with_text : Place → ℕ → List ℕ → Shapes → Shapes
with_text p c t f = with_kind (kind_of c) (not (is_some f.first) && shape_holds p c t) f

-- an element of the part
abbrev pub looked : Place → Shapes → Element → Shapes
looked p f (opened c q) = cond (eqb c class.area) (with_area f) f
looked p f (text c q t) = with_text p c t f
looked p f (closed c) = f

-- an element, where k infos have started
abbrev pub seen : ℕ → Place → ℕ → Shapes → Element → Shapes
seen n p k f x = cond (eqb k n) (looked p f x) f

abbrev pub no_shapes : Shapes
no_shapes = record { areas = 0; polygons = 0; circles = 0; count = 0; first = None }

unfoldable pub view_of : ℕ → Place → List ℕ → Answer (ℕ × Shapes)
view_of n p l = gathered (seen n p) no_shapes l

-- none of the counts is more than a number
pub record AtMost (n : ℕ) (f : Shapes) : Type 0 where
  pub areas : f.areas ≤ n
  pub polygons : f.polygons ≤ n
  pub circles : f.circles ≤ n
  pub count : f.count ≤ n
