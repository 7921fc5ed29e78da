-- Whether a place is inside a part.
use Rattle.std.specs.Prelude.{Bool, false, cond, ◌||◌, List, [], ◌∷◌, ℕ, eqb, Result, Ok, Err}
use Rattle.text.specs.Answers.{Answer, gives, refuses, answer_and_then}
use Rattle.coordinates.specs.declared.Place.{Place}
use Rattle.coordinates.specs.Place.{in_range}
use Rattle.polygon.specs.Polygon.{polygon_holds}
use Rattle.circle.specs.Circle.{circle_holds}
use Rattle.schema.specs.Classes as class
use Rattle.rules.specs.Faults.{fault_number}
use Rattle.document.specs.Elements.{Element, opened, text, closed, total}
use Rattle.document.specs.Documents.{document_of}
use Rattle.parts.specs.declared.Side as code
use Rattle.parts.specs.declared.Side.TheVariants as side
use Rattle.parts.specs.declared.PlaceError.{PlaceError}
use Rattle.parts.specs.declared.PlaceError.TheVariants as error
use Rattle.parts.specs.Elements.{part_of, look_up}

-- a shape is the text of a polygon or of a circle
abbrev pub is_shape : ℕ → Bool
is_shape c = eqb c class.polygon || eqb c class.circle

abbrev pub is_inside : Answer Bool → Bool
is_inside (gives b) = b
is_inside (refuses n q) = false

abbrev pub shape_holds : Place → ℕ → List ℕ → Bool
shape_holds p c t = cond (eqb c class.polygon) (is_inside (polygon_holds t p)) (cond (eqb c class.circle) (is_inside (circle_holds t p)) false)

-- whether some text among elements is such, by its class and bytes
unfoldable pub any_text : (ℕ → List ℕ → Bool) → List Element → Bool
any_text is [] = false
any_text is (opened c q ∷ es) = any_text is es
any_text is (text c q t ∷ es) = is c t || any_text is es
any_text is (closed c ∷ es) = any_text is es

-- there is a shape among elements, and one that holds a place
abbrev pub any_shape : List Element → Bool
any_shape es = any_text (λ c t. is_shape c) es

abbrev pub any_holds : Place → List Element → Bool
any_holds p es = any_text (shape_holds p) es

-- "A part answers inside if any of its shapes holds the place, else outside, or no shape where it has
-- neither polygon nor circle, as part 0 never has"
pub data Side : Type 0 where
  inside : Side
  outside : Side
  no_shape : Side

abbrev pub side_of : (holds any : Bool) → Side
side_of holds any = cond holds inside (cond any outside no_shape)

-- "Asking about a place, likewise: 21, 6": the answer, where the n-th part is one of so many and the place is in range
abbrev pub asked_about : {A : Type 0} → Place → (number total : ℕ) → A → Answer A
asked_about p n total x = answer_and_then (look_up n total) (λ k. cond (in_range p) (gives x) (refuses 6 0))

-- whether the n-th part of the document l holds a place
unfoldable pub cap_place : ℕ → Place → List ℕ → Answer Side
cap_place n p l = answer_and_then (document_of l) (λ es. asked_about p n (total es) (side_of (any_holds p (part_of n es)) (any_shape (part_of n es))))

-- what is said of a place, where the refusals are of any type, and each has a number and an offset
abbrev pub place_answer_by : {E : Type 0} → (number offset : E → ℕ) → Result code.Side E → Answer Side
place_answer_by n q (Ok side.Inside) = gives inside
place_answer_by n q (Ok side.Outside) = gives outside
place_answer_by n q (Ok side.NoShape) = gives no_shape
place_answer_by n q (Err e) = refuses (n e) (q e)

-- an error's number, "21, 6" or the document's own, and its offset
abbrev pub error_number : PlaceError → ℕ
error_number error.NotThere = 21
error_number error.OutOfRange = 6
error_number (error.Document r) = fault_number r.fault

abbrev pub error_offset : PlaceError → ℕ
error_offset error.NotThere = 0
error_offset error.OutOfRange = 0
error_offset (error.Document r) = r.offset

abbrev pub place_answer : Result code.Side PlaceError → Answer Side
place_answer r = place_answer_by error_number error_offset r
