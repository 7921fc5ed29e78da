-- Bytes of a document by their kind.
use Rattle.std.specs.Prelude.{Bool, not, ◌&&◌, ℕ, eqb, ltb}
use Prim.Native.Char.{code}

-- "bytes below 0x20 but tab, LF, CR"
abbrev pub is_control : ℕ → Bool
is_control b = ltb b 0x20 && not (eqb b (code "\t")) && not (eqb b (code "\n")) && not (eqb b (code "\r"))

-- what stands in a text without a fault whatever follows it, and doesn't end it
abbrev pub is_plain : ℕ → Bool
is_plain b = not (is_control b) && not (eqb b (code "<")) && not (eqb b (code "&")) && not (eqb b (code "]"))
