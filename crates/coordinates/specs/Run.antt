-- A run of digits, as it is read: at most so many of them.
use Rattle.std.specs.Prelude.{cond, List, Option, Some, None, ℕ, ◌+◌, leb, take}
use Rattle.text.specs.Bytes.{digits, number}

-- the number that the digits write that lead the text l, which stands at offset i, and the offset after them, if they are at most `most`
unfoldable pub run_of : ℕ → ℕ → List ℕ → Option (ℕ × ℕ)
run_of most i l = cond (leb (digits l) most) (Some (number (take (digits l) l), i + digits l)) None
