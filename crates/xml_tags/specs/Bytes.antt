-- Bytes of tags by their kind.
use Rattle.std.specs.Prelude.{Bool, ◌&&◌, ◌||◌, ℕ, eqb, leb}
use Prim.Native.Char.{code}
use Rattle.text.specs.Bytes.{is_digit}

abbrev pub is_letter : ℕ → Bool
is_letter b = (leb (code "A") b && leb b (code "Z")) || (leb (code "a") b && leb b (code "z"))

-- what a tag name is made of: "ASCII letters, digits, "-", "_", "." and ":""
abbrev pub is_tag_byte : ℕ → Bool
is_tag_byte b = is_letter b || is_digit b || eqb b (code "-") || eqb b (code "_") || eqb b (code ".") || eqb b (code ":")
