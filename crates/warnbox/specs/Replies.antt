-- What the functions for C give back for an answer of the papers: a refusal's number, 0 for none; and with it a value, which is a
-- refusal's offset or else what the function tells.
use Rattle.std.specs.Prelude.{List, [], ◌∷◌, ℕ}
use Rattle.std.proofs.Math.Option.{Option}
use Rattle.text.specs.Answers.{Answer, gives, refuses}
use Rattle.sheet.specs.declared.Found.{Found}
use Rattle.parts.specs.declared.ShapeKind.{ShapeKind}
use Rattle.parts.specs.declared.ShapeKind.TheVariants.{Polygon, Circle}
use Rattle.parts.specs.Places.{Side, inside, outside, no_shape}
use Rattle.parts.specs.Reasons.{Reason, held, tried, shapeless}
use Rattle.warnbox.specs.declared.Reply.{Reply}

abbrev pub reply : Answer ℕ → Reply
reply (gives v) = record { number = 0; value = v }
reply (refuses n p) = record { number = n; value = p }

-- the value that is given, or else what was there: after a refusal nothing has changed
abbrev pub given_or : {A : Type 0} → A → Answer A → A
given_or before (gives x) = x
given_or before (refuses n p) = before

-- whether a place is inside a part
abbrev pub side_number : Side → ℕ
side_number outside = 0
side_number inside = 1
side_number no_shape = 2

-- what a shape is
abbrev pub kind_number : ShapeKind → ℕ
kind_number Polygon = 1
kind_number Circle = 2

-- the reason as four numbers: the area, the kind of its shape, the shape's position, and how many shapes were tried; what the reason doesn't say is 0
abbrev pub why_numbers : Reason → List ℕ
why_numbers (held s) = s.area ∷ kind_number s.kind ∷ s.position ∷ 0 ∷ []
why_numbers (tried n) = 0 ∷ 0 ∷ 0 ∷ n ∷ []
why_numbers shapeless = 0 ∷ 0 ∷ 0 ∷ 0 ∷ []

-- the number of read-backs, with or without the sheet of one
abbrev pub count_of : ℕ × Option Found → ℕ
count_of r = r.0
