-- Why a place is inside a part or outside it: request [5], "the potter wants to hear why".
use Rattle.std.specs.Prelude.{Bool, cond, List, [], ◌∷◌, ℕ, ◌+◌, eqb, Option, Some, None, Result, Ok, Err}
use Rattle.text.specs.Answers.{Answer, gives, refuses, answer_and_then}
use Rattle.coordinates.specs.declared.Place.{Place}
use Rattle.polygon.specs.Polygon.{polygon_holds}
use Rattle.circle.specs.Circle.{circle_holds}
use Rattle.document.specs.Elements.{total}
use Rattle.document.specs.Documents.{document_of}
use Rattle.parts.specs.declared.ShapeKind.{ShapeKind}
use Rattle.parts.specs.declared.ShapeKind.TheVariants as kind
use Rattle.parts.specs.declared.ShapeAt.{ShapeAt}
use Rattle.parts.specs.declared.Why.{Why}
use Rattle.parts.specs.declared.Why.TheVariants as why
use Rattle.parts.specs.declared.PlaceError.{PlaceError}
use Rattle.parts.specs.Elements.{part_of}
use Rattle.parts.specs.Areas.{Area, areas_of, shapes_of}
use Rattle.parts.specs.Places.{is_inside, Side, inside, outside, no_shape, asked_about, error_number, error_offset}

-- ---- the shape that is named

-- the shapes of one kind of an area, and whether a text of that kind holds a place
abbrev pub of_kind : ShapeKind → Area → List (List ℕ)
of_kind kind.Polygon a = a.polygons
of_kind kind.Circle a = a.circles

abbrev pub kind_holds : Place → ShapeKind → List ℕ → Bool
kind_holds p kind.Polygon t = is_inside (polygon_holds t p)
kind_holds p kind.Circle t = is_inside (circle_holds t p)

abbrev pub or_else : {A : Type 0} → Option A → Option A → Option A
or_else (Some x) y = Some x
or_else None y = y

-- "position among equals at each step (from 1, here and in [5])": the first of some shapes of a kind that holds a place, in the area at position a; the first of
-- them has position i
unfoldable pub first_of_kind : Place → (area : ℕ) → ShapeKind → (position : ℕ) → List (List ℕ) → Option ShapeAt
first_of_kind p a k i [] = None
first_of_kind p a k i (t ∷ ts) = cond (kind_holds p k t) (Some (record { area = a; kind = k; position = i })) (first_of_kind p a k (i + 1) ts)

-- "in it the first polygon or else the first circle, that holds the place"
abbrev pub first_in_area : Place → (area : ℕ) → Area → Option ShapeAt
first_in_area p a x = or_else (first_of_kind p a kind.Polygon 1 x.polygons) (first_of_kind p a kind.Circle 1 x.circles)

-- "the first area": the first of the areas has position a
unfoldable pub first_from : Place → (area : ℕ) → List Area → Option ShapeAt
first_from p a [] = None
first_from p a (x ∷ xs) = or_else (first_in_area p a x) (first_from p (a + 1) xs)

abbrev pub first_shape : Place → List Area → Option ShapeAt
first_shape p xs = first_from p 1 xs

-- ---- the reason

pub data Reason : Type 0 where
  held : ShapeAt → Reason
  tried : (shapes : ℕ) → Reason
  shapeless : Reason

-- what the part says
abbrev pub side_by : Reason → Side
side_by (held s) = inside
side_by (tried n) = outside
side_by shapeless = no_shape

-- "When a part says inside, .. the first area, and in it the first polygon or else the first circle, that holds the place. When it says outside, the number of
-- shapes tried, which is all the shapes of that part. When no shape, that."
abbrev pub reason_of : Option ShapeAt → (shapes : ℕ) → Reason
reason_of (Some s) n = held s
reason_of None n = cond (eqb n 0) shapeless (tried n)

abbrev pub reason_in : Place → List Area → Reason
reason_in p xs = reason_of (first_shape p xs) (shapes_of xs)

-- why the n-th part of the document l holds a place or doesn't
unfoldable pub cap_why : ℕ → Place → List ℕ → Answer Reason
cap_why n p l = answer_and_then (document_of l) (λ es. asked_about p n (total es) (reason_in p (areas_of (part_of n es))))

-- the reason, where the refusals are of any type, and each has a number and an offset
abbrev pub why_answer_by : {E : Type 0} → (number offset : E → ℕ) → Result Why E → Answer Reason
why_answer_by n q (Ok (why.Inside s)) = gives (held s)
why_answer_by n q (Ok (why.Outside k)) = gives (tried k)
why_answer_by n q (Ok why.NoShape) = gives shapeless
why_answer_by n q (Err e) = refuses (n e) (q e)

abbrev pub why_answer : Result Why PlaceError → Answer Reason
why_answer r = why_answer_by error_number error_offset r
