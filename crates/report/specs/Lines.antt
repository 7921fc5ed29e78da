-- What the program writes: "A program reads one document from standard input and writes each part's sentence (part 0's if none), stopping at the
-- first refusal with the line "refused N at P" in digits."
use Rattle.std.specs.Prelude.{cond, List, [], ◌∷◌, ◌++◌, ℕ, zero, suc, ◌+◌, ◌/◌, ◌%◌, ltb, length, Result, Ok, Err}
use Prim.Native.Char.{code}
use Rattle.text.specs.Ascii.{ascii}
use Rattle.text.specs.Answers.{Answer, gives, refuses}
use Rattle.buffer.specs.declared.NoRoom.{NoRoom}
use Rattle.buffer.specs.Writing.{written}
use Rattle.sheet.specs.declared.Found.{Found}
use Rattle.sheet.specs.Sentence.{sentence}
use Rattle.sheet.specs.Reading.{sheet_in}
use Rattle.document.specs.Documents.{check_of}
use Rattle.parts.specs.Sheets.{cap_sheet}

-- a number in digits, of which there are k at most
unfoldable pub digits_within : ℕ → ℕ → List ℕ
digits_within zero n = []
digits_within (suc k) n = cond (ltb n 10) [] (digits_within k (n / 10)) ++ ((code "0" + n % 10) ∷ [])

-- a number in digits: twenty are enough for 64 bits
abbrev pub in_digits : ℕ → List ℕ
in_digits n = digits_within 20 n

unfoldable pub refusal_line : (number offset : ℕ) → List ℕ
refusal_line n p = ascii "refused " ++ (in_digits n ++ (ascii " at " ++ (in_digits p ++ ascii "\n")))

-- the line of a part, in front of the next parts' lines; a refusal is the last line
abbrev pub line_then : List ℕ → List ℕ → Answer Found → List ℕ
line_then l rest (gives x) = sentence (sheet_in l x) ++ rest
line_then l rest (refuses n p) = refusal_line n p

-- the lines of k parts from the n-th on
unfoldable pub lines_from : List ℕ → (k n : ℕ) → List ℕ
lines_from l zero n = []
lines_from l (suc k) n = line_then l (lines_from l k (n + 1)) (cap_sheet n l)

-- "each part's sentence (part 0's if none)"
abbrev pub lines_of : List ℕ → Answer ℕ → List ℕ
lines_of l (gives zero) = lines_from l 1 0
lines_of l (gives (suc k)) = lines_from l (suc k) 1
lines_of l (refuses n p) = refusal_line n p

-- all that the program writes about the document l
unfoldable pub report_of : List ℕ → List ℕ
report_of l = lines_of l (check_of l)

-- room for sixteen of the longest sentences, and a refusal
abbrev pub report_room : ℕ
report_room = 12_000

-- the answer to writing a report into the buffer d, and what the buffer then holds
unfoldable pub reported : List ℕ → List ℕ → Answer ℕ
reported d l = cond (ltb (length d) report_room) (refuses 13 0) (gives (length (report_of l)))

unfoldable pub reported_in : List ℕ → List ℕ → List ℕ
reported_in d l = cond (ltb (length d) report_room) d (written d 0 (report_of l))

abbrev pub report_answer : Result ℕ NoRoom → Answer ℕ
report_answer (Ok e) = gives e
report_answer (Err e) = refuses 13 0
