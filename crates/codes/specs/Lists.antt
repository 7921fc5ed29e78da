-- The code lists of CAP 1.2 (source document 007, clause 7.4), in the schema's order and spelling. A code's number is its index in its list, from 1.
use Rattle.std.specs.Prelude.{Bool, cond, ◌&&◌, List, [], ◌∷◌, map, ℕ, ◌+◌, leb, length, get_or}
use Prim.Native.Char.{code}
use Rattle.text.specs.Ascii.{ascii}
use Rattle.text.specs.Search.{find}

unfoldable pub lists : List (List (List ℕ))
lists =
    (ascii "Actual" ∷ ascii "Exercise" ∷ ascii "System" ∷ ascii "Test" ∷ ascii "Draft" ∷ []) ∷
    (ascii "Alert" ∷ ascii "Update" ∷ ascii "Cancel" ∷ ascii "Ack" ∷ ascii "Error" ∷ []) ∷
    (ascii "Public" ∷ ascii "Restricted" ∷ ascii "Private" ∷ []) ∷
    (ascii "Geo" ∷ ascii "Met" ∷ ascii "Safety" ∷ ascii "Security" ∷ ascii "Rescue" ∷ ascii "Fire" ∷
    ascii "Health" ∷ ascii "Env" ∷ ascii "Transport" ∷ ascii "Infra" ∷ ascii "CBRNE" ∷ ascii "Other" ∷ []) ∷
    (ascii "Shelter" ∷ ascii "Evacuate" ∷ ascii "Prepare" ∷ ascii "Execute" ∷ ascii "Avoid" ∷
    ascii "Monitor" ∷ ascii "Assess" ∷ ascii "AllClear" ∷ ascii "None" ∷ []) ∷
    (ascii "Immediate" ∷ ascii "Expected" ∷ ascii "Future" ∷ ascii "Past" ∷ ascii "Unknown" ∷ []) ∷
    (ascii "Extreme" ∷ ascii "Severe" ∷ ascii "Moderate" ∷ ascii "Minor" ∷ ascii "Unknown" ∷ []) ∷
    (ascii "Observed" ∷ ascii "Likely" ∷ ascii "Possible" ∷ ascii "Unlikely" ∷ ascii "Unknown" ∷ []) ∷ []

-- the lists' numbers
abbrev pub status : ℕ
status = 0

abbrev pub msg_type : ℕ
msg_type = 1

abbrev pub scope : ℕ
scope = 2

abbrev pub category : ℕ
category = 3

abbrev pub response_type : ℕ
response_type = 4

abbrev pub urgency : ℕ
urgency = 5

abbrev pub severity : ℕ
severity = 6

abbrev pub certainty : ℕ
certainty = 7

abbrev pub codes : ℕ → List (List ℕ)
codes l = get_or lists l []

-- the number of a text in a list; 0 where it isn't there: "codes exactly, no trimming"
unfoldable pub code_of : ℕ → List ℕ → ℕ
code_of l t = find 1 t (codes l)

-- a list has the number k
unfoldable pub is_number : ℕ → ℕ → Bool
is_number l k = leb 1 k && leb k (length (codes l))

-- ---- "codes in small letters"

abbrev pub small_letter : ℕ → ℕ
small_letter b = cond (leb (code "A") b && leb b (code "Z")) (b + 0x20) b

abbrev pub small : List ℕ → List ℕ
small t = map small_letter t

abbrev pub small_codes : ℕ → List (List ℕ)
small_codes l = map small (codes l)

unfoldable pub small_code_of : ℕ → List ℕ → ℕ
small_code_of l t = find 1 t (small_codes l)

-- the text of a number; none where the list has no such number
unfoldable pub small_text : ℕ → ℕ → List ℕ
small_text l k = get_or ([] ∷ small_codes l) k []
