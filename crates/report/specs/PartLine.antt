-- The line of one part.
use Rattle.std.specs.Prelude.{◌≡◌, Bool, true, false, List, [], ℕ}
use Rattle.std.specs.declared.ops.ControlFlow.{ControlFlow}
use Rattle.std.specs.declared.ops.ControlFlow.TheVariants.{Continue, Break}
use Rattle.text.specs.Answers.{Answer, gives, refuses}
use Rattle.buffer.specs.Cursor.{Put}
use Rattle.sheet.specs.declared.Found.{Found}
use Rattle.parts.specs.Sheets.{cap_sheet}
use Rattle.report.specs.Lines.{line_then}

-- the line of the n-th part, with none after it
abbrev pub line_at : List ℕ → ℕ → List ℕ
line_at l n = line_then l [] (cap_sheet n l)

-- whether more lines come after it: "stopping at the first refusal"
abbrev pub is_sentence : Answer Found → Bool
is_sentence (gives x) = true
is_sentence (refuses n p) = false

-- the line of the n-th part was written into d from the offset at on, and made it e; what was answered goes on after a sentence, and breaks after a refusal
abbrev pub LineTo : (l : List ℕ) (n : ℕ) (d : List ℕ) (at : ℕ) (e : List ℕ) → ControlFlow ℕ ℕ → Type 0
LineTo l n d at e (Continue k) = Put d at (line_at l n) e k × (is_sentence (cap_sheet n l) ≡ true)
LineTo l n d at e (Break k) = Put d at (line_at l n) e k × (is_sentence (cap_sheet n l) ≡ false)
