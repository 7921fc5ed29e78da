-- The next pair of a text from an offset on, as it is read.
use Rattle.std.specs.Prelude.{cond, List, Option, Some, None, Result, Ok, Err, ℕ, ◌+◌, leb, length, take, drop}
use Rattle.text.specs.Answers.{Answer, gives, refuses}
use Rattle.text.specs.Bytes.{spaces}
use Rattle.text.specs.Tokens.{token_length}
use Rattle.coordinates.specs.declared.Place.{Place}
use Rattle.coordinates.specs.Place.{pair_of}
use Rattle.polygon.specs.declared.pairs.NotPair.{NotPair}

-- where white space from `at` on ends, and where the token from there on ends
abbrev pub start_of : List ℕ → ℕ → ℕ
start_of l at = at + spaces (drop at l)

abbrev pub end_of : List ℕ → ℕ → ℕ
end_of l i = i + token_length (drop i l)

-- the token from i on
abbrev pub token_at : List ℕ → ℕ → List ℕ
token_at l i = take (token_length (drop i l)) (drop i l)

-- the next pair and the offset after it, if there is one, or that a token is no pair
abbrev pub Next : Type 0
Next = Result (Option (Place × ℕ)) NotPair

-- the text ends
abbrev pub at_end : Next
at_end = Ok None

abbrev pub not_pair : Next
not_pair = Err (record {})

-- a pair that ends at e
abbrev pub ending_at : ℕ → Answer Place → Next
ending_at e (gives p) = Ok (Some (p, e))
ending_at e (refuses n i) = not_pair

unfoldable pub next_of : List ℕ → ℕ → Next
next_of l at =
    cond (leb (length l) (start_of l at)) at_end (ending_at (end_of l (start_of l at)) (pair_of (token_at l (start_of l at))))
