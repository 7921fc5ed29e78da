-- A text looked for in a list of texts.
use Rattle.std.specs.Prelude.{cond, List, [], ◌∷◌, ℕ, ◌+◌}
use Rattle.text.specs.Logic.{eql}

-- its first index in the list, whose indices are counted from k; 0 for none
unfoldable pub find : ℕ → List ℕ → List (List ℕ) → ℕ
find k t [] = 0
find k t (n ∷ ns) = cond (eql t n) k (find (k + 1) t ns)
