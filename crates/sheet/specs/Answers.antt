-- The answers of the writer and of the reader (document 01, "The sentence" and "Refusal numbers").
use Rattle.std.specs.Prelude.{Some, None, Result, Ok, Err, cond, List, [], ◌∷◌, ℕ, zero, suc, ◌+◌, length, drop}
use Rattle.std.specs.declared.option.Option as code
use Rattle.std.proofs.Math.Option.{Option, none, some}
use Rattle.text.specs.Answers.{Answer, gives, refuses, answer_and_then, giving}
use Rattle.buffer.specs.Writing.{write_text, after_text}
use Rattle.sheet.specs.declared.Found.{Found}
use Rattle.sheet.specs.declared.WriteError.{WriteError}
use Rattle.sheet.specs.declared.WriteError.TheVariants.{OutOfRange, NoRoom}
use Rattle.sheet.specs.declared.ReadBack.{ReadBack}
use Rattle.sheet.specs.declared.ReadError.{ReadError}
use Rattle.sheet.specs.declared.ReadError.TheVariants.{NotReadBack, NotThere}
use Rattle.sheet.specs.Sheet.{Sheet, in_range}
use Rattle.sheet.specs.Sentence.{sentence}
use Rattle.sheet.specs.Reading.{sheet_of, is_line, found_at}

-- ---- "Writing a sheet: 23, 13."

-- the answer to writing the sheet x into the buffer d from the offset at: where its sentence, the newline included, ends
unfoldable pub writing : List ℕ → ℕ → Sheet → Answer ℕ
writing d at x = cond (in_range x) (write_text d at (sentence x)) (refuses 23 0)

-- what the buffer then holds
unfoldable pub after : List ℕ → ℕ → Sheet → List ℕ
after d at x = cond (in_range x) (after_text d at (sentence x)) d

abbrev pub write_answer : Result ℕ WriteError → Answer ℕ
write_answer (Ok e) = gives e
write_answer (Err OutOfRange) = refuses 23 0
write_answer (Err NoRoom) = refuses 13 0

-- ---- "Reading back: 23, 21."

-- the length of the read-back that leads a text
unfoldable pub line_length : List ℕ → ℕ
line_length l = length (sentence (sheet_of l))

-- the sheets of the read-backs of the text l, which stands at offset i; n bounds the number of its lines.
-- "For 23 in a text it is the first byte of the first line that isn't a read-back."
unfoldable pub contents_from : ℕ → ℕ → List ℕ → Answer (List Found)
contents_from zero i [] = gives []
contents_from zero i (b ∷ l) = refuses 23 i
contents_from (suc n) i [] = gives []
contents_from (suc n) i (b ∷ l) =
    cond (is_line (b ∷ l))
    (giving (λ fs. found_at i (b ∷ l) ∷ fs) (contents_from n (i + line_length (b ∷ l)) (drop (line_length (b ∷ l)) (b ∷ l))))
    (refuses 23 i)

unfoldable pub contents_of : List ℕ → Answer (List Found)
contents_of t = contents_from (length t) 0 t

-- the sheet asked for, counted from 0, among sheets of which there are n in all
unfoldable pub pick : ℕ → List Found → ℕ → Answer (ℕ × Option Found)
pick n [] k = refuses 21 0
pick n (f ∷ fs) zero = gives (n, some f)
pick n (f ∷ fs) (suc k) = pick n fs k

-- "gives the number of sentences (an empty text has none) and the sheet of the sentence asked for, counted from 1;
-- asked for 0, it gives the number only"
unfoldable pub asked : ℕ → List Found → Answer (ℕ × Option Found)
asked zero fs = gives (length fs, none)
asked (suc k) fs = pick (length fs) fs k

unfoldable pub read_back : List ℕ → ℕ → Answer (ℕ × Option Found)
read_back t k = answer_and_then (contents_of t) (asked k)

-- the code's `Option` as the definitions'
abbrev pub sheet_asked : code.Option Found → Option Found
sheet_asked (Some f) = some f
sheet_asked None = none

abbrev pub read_answer : Result ReadBack ReadError → Answer (ℕ × Option Found)
read_answer (Ok r) = gives (r.count, sheet_asked r.sheet)
read_answer (Err (NotReadBack p)) = refuses 23 p
read_answer (Err NotThere) = refuses 21 0
