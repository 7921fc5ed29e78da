-- Demand 3 of the request, stated over what the contracts of the writer and the reader promise: any list of sheets, any buffer, any start.
-- proofs/Demand3.antt proves it.
use Rattle.std.specs.Prelude.{◌≡◌, Bool, true, ◌&&◌, List, [], ◌∷◌, ◌++◌, ◌⊎◌, ℕ, suc, ◌+◌, ◌<◌, ◌≤◌, length, get_or}
use Rattle.std.proofs.Math.Option.{none, some}
use Rattle.text.specs.Answers.{Answer, gives, refuses}
use Rattle.text.specs.Parts.{part}
use Rattle.buffer.specs.Writing.{written}
use Rattle.sheet.specs.declared.Found.{Found}
use Rattle.sheet.specs.Sheet.{Sheet, in_range}
use Rattle.sheet.specs.Sentence.{sentence}
use Rattle.sheet.specs.Reading.{sheet_in}
use Rattle.sheet.specs.Answers.{writing, after, read_back}

-- ---- a run of calls

-- one call of the writer: its answer r, and the buffer e that it leaves, are those of its contract
pub record Call (x : Sheet) (d : List ℕ) (at : ℕ) (r : Answer ℕ) (e : List ℕ) : Type 0 where
  pub answer : r ≡ writing d at x
  pub buffer : e ≡ after d at x

-- "Each write starts where the last sentence ended, or, after a refusal, from the same start."
abbrev pub next_start : ℕ → Answer ℕ → ℕ
next_start at (gives end) = end
next_start at (refuses n p) = at

-- calls of a writer one behind the other, each as its contract `One` says: for a list of what it writes, with their answers, from the buffer d and the
-- start at to the buffer e and the end of the last sentence; "each write gets it as the last one left it"
pub data Run {X : Type 0} (One : X → List ℕ → ℕ → Answer ℕ → List ℕ → Type 0) : List X → List (Answer ℕ) → List ℕ → ℕ → List ℕ → ℕ → Type 0 where
  no_call : {d : List ℕ} {at : ℕ} → Run One [] [] d at d at
  one_call :
      {x : X} {xs : List X} {r : Answer ℕ} {rs : List (Answer ℕ)} {d m e : List ℕ} {at end : ℕ}
      → One x d at r m → Run One xs rs m (next_start at r) e end → Run One (x ∷ xs) (r ∷ rs) d at e end

-- those whose answers are no refusals, in their order
unfoldable pub not_refused : {X : Type 0} → List X → List (Answer ℕ) → List X
not_refused [] rs = []
not_refused (x ∷ xs) [] = []
not_refused (x ∷ xs) (gives end ∷ rs) = x ∷ not_refused xs rs
not_refused (x ∷ xs) (refuses n p ∷ rs) = not_refused xs rs

-- the sentences of sheets, one after the other
unfoldable pub sentences : List Sheet → List ℕ
sentences [] = []
sentences (x ∷ xs) = sentence x ++ sentences xs

unfoldable pub all_in_range : List Sheet → Bool
all_in_range [] = true
all_in_range (x ∷ xs) = in_range x && all_in_range xs

-- ---- the statement

-- "the text, from the first start to the end of the last sentence (empty if nothing was written), is the read-backs" of the sheets xs,
-- which were not refused; "The rest of the buffer is untouched."
pub record Writes (xs : List Sheet) (d : List ℕ) (at : ℕ) (e : List ℕ) (end : ℕ) : Type 0 where
  pub text : part e at end ≡ sentences xs
  pub buffer : e ≡ written d at (sentences xs)
  pub size : length e ≡ length d
  pub place : end ≡ at + length (sentences xs)
  -- they lie in the buffer, and from a start past its end none is written
  pub fits : at ≤ length d → end ≤ length d
  pub past : length d < at → xs ≡ []
  pub sound : all_in_range xs ≡ true

-- reading a text of whole read-backs: their number, each of them, and none past the last
pub record Reads (xs : List Sheet) : Type 0 where
  pub count : read_back (sentences xs) 0 ≡ gives (length xs, none)
  pub each :
      (k : ℕ) (z : Sheet) → k < length xs
      → (f : Found) × ((read_back (sentences xs) (suc k) ≡ gives (length xs, some f)) × (sheet_in (sentences xs) f ≡ get_or xs k z))
  pub past : (k : ℕ) → length xs ≤ k → read_back (sentences xs) (suc k) ≡ refuses 21 0

-- any other text is refused at the first byte of the first line that is no read-back, whatever was asked for
pub record Refuses (t : List ℕ) : Type 0 where
  pub front : List Sheet
  pub rest : List ℕ
  pub sound : all_in_range front ≡ true
  pub split : t ≡ sentences front ++ rest
  pub more : rest ≡ [] → ⊥
  pub other : (x : Sheet) (l : List ℕ) → in_range x ≡ true → rest ≡ sentence x ++ l → ⊥
  pub answer : (k : ℕ) → read_back t k ≡ refuses 23 (length (sentences front))

-- a text is made of whole read-backs
abbrev pub IsReadBacks : List ℕ → Type 0
IsReadBacks t = (xs : List Sheet) × ((all_in_range xs ≡ true) × (t ≡ sentences xs))

pub record Demand3 : Type 0 where
  -- every list of sheets can be written, from any start into any buffer
  pub runs : (xs : List Sheet) (d : List ℕ) (at : ℕ) → (rs : List (Answer ℕ)) × ((e : List ℕ) × ((end : ℕ) × Run Call xs rs d at e end))
  -- and every such run writes the sheets that are not refused
  pub writes :
      {xs : List Sheet} {rs : List (Answer ℕ)} {d e : List ℕ} {at end : ℕ}
      → Run Call xs rs d at e end → Writes (not_refused xs rs) d at e end
  -- any two with equal texts wrote the same sheets
  pub same :
      {xs ys : List Sheet} {rs qs : List (Answer ℕ)} {d c e f : List ℕ} {at start end last : ℕ}
      → Run Call xs rs d at e end → Run Call ys qs c start f last → part e at end ≡ part f start last → not_refused xs rs ≡ not_refused ys qs
  -- the reader, on texts of whole read-backs
  pub reads : (xs : List Sheet) → all_in_range xs ≡ true → Reads xs
  -- and on any bytes: whole read-backs, or refused, and never both
  pub exact : (t : List ℕ) → IsReadBacks t ⊎ Refuses t
  pub never : (t : List ℕ) → IsReadBacks t → Refuses t → ⊥
