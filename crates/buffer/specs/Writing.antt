-- A text written into a buffer from a start that the caller names (document 01, "The sentence"): all other bytes stay; where the room from there is
-- less than the text, or the start lies past the buffer's end, nothing changes (refusal 13).
use Rattle.std.specs.Prelude.{Bool, cond, List, ◌++◌, ℕ, ◌+◌, Result, Ok, Err, leb, length, take, drop}
use Rattle.text.specs.Answers.{Answer, gives, refuses}
use Rattle.buffer.specs.declared.NoRoom.{NoRoom}

-- d with s written over it from the offset at
unfoldable pub written : List ℕ → ℕ → List ℕ → List ℕ
written d at s = take at d ++ (s ++ drop (at + length s) d)

-- the text s has room in the buffer d from the offset at
abbrev pub has_room : List ℕ → ℕ → List ℕ → Bool
has_room d at s = leb (at + length s) (length d)

-- the answer to writing s: where it ends
unfoldable pub write_text : List ℕ → ℕ → List ℕ → Answer ℕ
write_text d at s = cond (has_room d at s) (gives (at + length s)) (refuses 13 0)

abbrev pub text_answer : Result ℕ NoRoom → Answer ℕ
text_answer (Ok e) = gives e
text_answer (Err e) = refuses 13 0

-- what the buffer then holds
unfoldable pub after_text : List ℕ → ℕ → List ℕ → List ℕ
after_text d at s = cond (has_room d at s) (written d at s) d
