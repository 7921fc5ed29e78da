-- Sentences of parts, of packets and of sheets as numbers; and a text read back.
use Rattle.std.specs.Prelude.{Bool, true, cond, ◌&&◌, List, ℕ, ◌+◌, leb, length}
use Rattle.std.proofs.Math.Option.{Option, none, some}
use Rattle.text.specs.Answers.{Answer, gives, refuses, answer_and_then}
use Rattle.sheet.specs.declared.Span.{Span}
use Rattle.sheet.specs.declared.Found.{Found}
use Rattle.sheet.specs.declared.Found.TheVariants as found
use Rattle.sheet.specs.Reading.{sheet_in}
use Rattle.sheet.specs.Answers.{writing, after}
use Rattle.numbers.specs.Numbers.{numbers_sheet, numbers_of}

-- ---- the sentence of a sheet that is drawn or handed in, with the text t that holds its sender and name, into the buffer d from an offset on

-- where it ends
unfoldable pub sentence_of : List ℕ → ℕ → List ℕ → Answer Found → Answer ℕ
sentence_of d start t a = answer_and_then a (λ x. writing d start (sheet_in t x))

-- what the buffer then holds
unfoldable pub after_sentence : List ℕ → ℕ → List ℕ → Answer Found → List ℕ
after_sentence d start t (gives x) = after d start (sheet_in t x)
after_sentence d start t (refuses n p) = d

-- ---- a sheet that is handed in as numbers; 23: "a sheet handed in has a fact out of range", as a sender and a name have that aren't in the text

-- a part of the text t
abbrev pub lies_in : List ℕ → Span → Bool
lies_in t s = leb (s.start + s.len) (length t)

-- a sheet's sender and name are parts of the text t
abbrev pub stands_in : List ℕ → Found → Bool
stands_in t (found.Cap f sender name) = lies_in t sender && lies_in t name
stands_in t (found.Warn w) = true

unfoldable pub standing : List ℕ → Found → Answer Found
standing t x = cond (stands_in t x) (gives x) (refuses 23 0)

abbrev pub handed_in : (text numbers : List ℕ) → Answer Found
handed_in t n = answer_and_then (numbers_sheet n) (standing t)

-- ---- the numbers that reading back leaves: those of the sheet asked for, or the numbers n that were there

abbrev pub numbers_read : List ℕ → Answer (ℕ × Option Found) → List ℕ
numbers_read n (gives (k, none)) = n
numbers_read n (gives (k, some x)) = numbers_of x
numbers_read n (refuses m p) = n
