-- The line of a part, written by the sheet that was drawn.
use mathlib.Core.Path.{◌≡◌, refl}
use mathlib.Core.List.{List, append-nil}
use Prim.Native.Nat.{ℕ}
use Rattle.std.specs.declared.ops.ControlFlow.TheVariants.{Continue}
use Rattle.text.specs.Answers.{gives}
use Rattle.buffer.specs.Cursor.{Put}
use Rattle.sheet.specs.Sentence.{plain, cap_text, sentence_in, sentence}
use Rattle.sheet.specs.Reading.{span_in, sheet_in}
use Rattle.parts.specs.declared.CapSheet.{CapSheet}
use Rattle.parts.specs.Sheets.{found_of, cap_sheet}
use Rattle.report.specs.PartLine.{LineTo}

-- the line of a sheet is its sentence
pub drawn_sheet :
    (l : List ℕ) (n : ℕ) {d e : List ℕ} {at r : ℕ} (x : CapSheet) {s t : List ℕ}
    → gives (found_of x) ≡ cap_sheet n l
    → s ≡ span_in l x.sender
    → t ≡ span_in l x.name
    → Put d at (cap_text plain x.facts s t) e r
    → LineTo l n d at e (Continue r)
unfolding sentence sentence_in sheet_in
drawn_sheet l n x q y z p = rw (← q) (rw append-nil (rw (y, z) at p), refl)
