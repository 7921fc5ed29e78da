-- Numbers are big-endian: the first byte counts most.
use Rattle.std.specs.Prelude.{List, [], ◌∷◌, ℕ, ◌+◌, ◌*◌, take, drop}

-- the number that bytes write, after bytes that wrote n
unfoldable pub big_endian_from : ℕ → List ℕ → ℕ
big_endian_from n [] = n
big_endian_from n (b ∷ l) = big_endian_from (0x100 * n + b) l

abbrev pub big_endian : List ℕ → ℕ
big_endian l = big_endian_from 0 l

-- the number of `width` bytes from the offset `at` on
unfoldable pub number_of : ℕ → ℕ → List ℕ → ℕ
number_of width at p = big_endian (take width (drop at p))
