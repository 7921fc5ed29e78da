-- A short name for each refusal of document 01's table "Refusal numbers" and of the requests of document 02, and the answer to writing one into a buffer.
use Rattle.std.specs.Prelude.{Bool, cond, List, [], ◌∷◌, ℕ, Result, Ok, Err, ltb, length, get_or}
use Rattle.text.specs.Answers.{Answer, gives, refuses}
use Rattle.text.specs.Ascii.{ascii}
use Rattle.buffer.specs.Writing.{write_text, after_text}
use Rattle.refusals.specs.declared.NameError.{NameError}
use Rattle.refusals.specs.declared.NameError.TheVariants.{NotThere, NoRoom}

-- in the table's order, from number 0 on; no refusal has 0 or 20
unfoldable pub names : List (List ℕ)
names =
    []
    ∷ ascii "packet too short"
    ∷ ascii "not a WARN packet"
    ∷ ascii "version not known"
    ∷ ascii "not an alert"
    ∷ ascii "packet too long"
    ∷ ascii "place out of range"
    ∷ ascii "lasting time out of range"
    ∷ ascii "key not listed"
    ∷ ascii "signature not verified"
    ∷ ascii "sequence number not above the stored one"
    ∷ ascii "no free entry in the table"
    ∷ ascii "clock too late"
    ∷ ascii "no room in the buffer"
    ∷ ascii "too long, or too many infos"
    ∷ ascii "XML form not allowed"
    ∷ ascii "element not allowed, or missing"
    ∷ ascii "code not in its list"
    ∷ ascii "time not valid"
    ∷ ascii "sender or identifier empty or with a forbidden byte"
    ∷ []
    ∷ ascii "what was asked for is not there"
    ∷ ascii "polygon or circle not valid"
    ∷ ascii "not read-backs, or a fact out of range"
    ∷ ascii "no room for the list"
    ∷ []

-- a number's name, empty where it has none
unfoldable pub name_of : ℕ → List ℕ
name_of n = get_or names n []

abbrev pub has_name : ℕ → Bool
has_name n = ltb 0 (length (name_of n))

-- the answer to writing the name of the number n into the buffer d from the offset at: where it ends; 21 for a number that has none
unfoldable pub naming : List ℕ → ℕ → ℕ → Answer ℕ
naming d at n = cond (has_name n) (write_text d at (name_of n)) (refuses 21 0)

abbrev pub name_answer : Result ℕ NameError → Answer ℕ
name_answer (Ok e) = gives e
name_answer (Err NotThere) = refuses 21 0
name_answer (Err NoRoom) = refuses 13 0

-- what the buffer then holds
unfoldable pub after_name : List ℕ → ℕ → ℕ → List ℕ
after_name d at n = cond (has_name n) (after_text d at (name_of n)) d
