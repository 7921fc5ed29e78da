-- A text as its tokens: the longest runs of bytes that are not white space, in their order.
use Rattle.std.specs.Prelude.{Bool, false, cond, not, List, [], ◌∷◌, ℕ}
use Rattle.text.specs.Bytes.{leading, is_space}

-- the text goes on with a token
unfoldable pub on_token : List ℕ → Bool
on_token [] = false
on_token (b ∷ l) = not (is_space b)

-- the tokens with one byte more in front of the first
unfoldable pub longer : ℕ → List (List ℕ) → List (List ℕ)
longer b [] = (b ∷ []) ∷ []
longer b (t ∷ ts) = (b ∷ t) ∷ ts

unfoldable pub tokens : List ℕ → List (List ℕ)
tokens [] = []
tokens (b ∷ l) = cond (is_space b) (tokens l) (cond (on_token l) (longer b (tokens l)) ((b ∷ []) ∷ tokens l))

-- how many bytes that are not white space lead a text
abbrev pub token_length : List ℕ → ℕ
token_length l = leading (λ b. not (is_space b)) l
