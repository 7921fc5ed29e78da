-- The elements of a part, and where the texts stand that a sheet is drawn from.
use Rattle.std.specs.Prelude.{cond, ◌&&◌, ◌||◌, List, [], ◌∷◌, ℕ, ◌+◌, eqb, leb, length, Option, Some, None}
use Rattle.text.specs.Answers.{Answer, gives, refuses}
use Rattle.sheet.specs.declared.Span.{Span}
use Rattle.schema.specs.Classes as class
use Rattle.document.specs.Elements.{Element, opened, text, closed, is_start, total, fold}

-- "Parts are the info elements in their order, counted from 1": the elements after the start of the n-th info and before that of the next;
-- for 0 those before the first. k infos have started before the elements
unfoldable pub within : ℕ → ℕ → List Element → List Element
within k n [] = []
within k n (x ∷ xs) = cond (is_start class.info x) (within (k + 1) n xs) (cond (eqb k n) (x ∷ within k n xs) (within k n xs))

-- what stands in the alert itself before its first info, and what in the n-th info
abbrev pub alert_of : List Element → List Element
alert_of es = within 0 0 es

abbrev pub part_of : ℕ → List Element → List Element
part_of n es = within 0 n es

-- "counted from 1; a document with none is asked for part 0"; 21: "asked part .. isn't there"
unfoldable pub look_up : (part total : ℕ) → Answer ℕ
look_up part total = cond ((eqb part 0 && eqb total 0) || (leb 1 part && leb part total)) (gives part) (refuses 21 0)

abbrev pub lookup_answer : Option ℕ → Answer ℕ
lookup_answer (Some n) = gives n
lookup_answer None = refuses 21 0

-- where the text of an element stands
abbrev pub span_of : ℕ → List ℕ → Span
span_of p t = record { start = p; len = length t }

-- where the last text of a class stands; each class that is asked for stands once at most (drawn/proofs/Standing.antt)
abbrev pub later : ℕ → Span → Element → Span
later c s (opened d p) = s
later c s (text d p t) = cond (eqb d c) (span_of p t) s
later c s (closed d) = s

-- no text, at no offset
abbrev pub nowhere : Span
nowhere = record { start = 0; len = 0 }

-- where the text of a class stands among elements; nowhere, if there is none
abbrev pub text_span : List Element → ℕ → Span
text_span es c = fold (later c) nowhere es
