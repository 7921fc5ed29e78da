-- The answers of the code as those of the papers (document 01, "Refusal numbers"): 22 is "polygon or circle text", and a place or a radius is part of
-- one. The place is 0, the first byte of the text that was read.
use Rattle.std.specs.Prelude.{Bool, Option, Some, None, ℕ, ℤ}
use Rattle.text.specs.Answers.{Answer, gives, refuses}
use Rattle.coordinates.specs.declared.Place.{Place}

abbrev pub degrees_answer : Option ℤ → Answer ℤ
degrees_answer (Some z) = gives z
degrees_answer None = refuses 22 0

abbrev pub pair_answer : Option Place → Answer Place
pair_answer (Some p) = gives p
pair_answer None = refuses 22 0

abbrev pub radius_answer : Option ℕ → Answer ℕ
radius_answer (Some m) = gives m
radius_answer None = refuses 22 0

-- whether a shape holds a place, if there is such a shape
abbrev pub inclusion_answer : Option Bool → Answer Bool
inclusion_answer (Some b) = gives b
inclusion_answer None = refuses 22 0
