-- Quoted texts as the bytes they stand for, so that definitions hold texts and no lists of numbers.
use Rattle.std.specs.Prelude.{List, [], ◌∷◌, ℕ, zero, suc, ◌+◌}
use Prim.Native.Char.{code}
use Prim.Native.String.{String, len, char_at}

-- the codes of n characters of s from i on
abbrev pub codes : ℕ → String → ℕ → List ℕ
codes zero s i = []
codes (suc n) s i = code (char_at s i) ∷ codes n s (i + 1)

-- the bytes of an ASCII text
abbrev pub ascii : String → List ℕ
ascii s = codes (len s) s 0
