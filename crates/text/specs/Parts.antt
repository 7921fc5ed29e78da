-- Parts of a text, and what leads one.
use Rattle.std.specs.Prelude.{Bool, true, false, ◌&&◌, List, [], ◌∷◌, ℕ, ◌-◌, eqb, take, drop}

-- p leads the text
unfoldable pub starts_with : List ℕ → List ℕ → Bool
starts_with [] l = true
starts_with (a ∷ p) [] = false
starts_with (a ∷ p) (b ∷ l) = eqb b a && starts_with p l

-- the bytes of a text from one offset to another; none where the second is not after the first
abbrev pub part : List ℕ → ℕ → ℕ → List ℕ
part l from until = take (until - from) (drop from l)
