-- Texts written into a buffer byte by byte. What has no room is left out.
use Rattle.std.specs.Prelude.{◌≡◌, cond, List, [], ◌∷◌, ℕ, ◌+◌, ltb, length, set}

-- a buffer, and the offset in it where the next byte goes
pub data Cursor : Type 0 where
  cursor : List ℕ → ℕ → Cursor

-- after one byte
unfoldable pub put_byte : Cursor → ℕ → Cursor
put_byte (cursor d at) b = cond (ltb at (length d)) (cursor (set d at b) (at + 1)) (cursor d at)

-- after a text
unfoldable pub put_text : Cursor → List ℕ → Cursor
put_text p [] = p
put_text p (b ∷ s) = put_text (put_byte p b) s

-- after texts one after the other
abbrev pub put_texts : Cursor → List (List ℕ) → Cursor
put_texts p [] = p
put_texts p (s ∷ ss) = put_texts (put_text p s) ss

-- a writer of s takes the buffer d from the offset at to the buffer e, and r is the next start
pub record Put (d : List ℕ) (at : ℕ) (s e : List ℕ) (r : ℕ) : Type 0 where
  pub result : cursor e r ≡ put_text (cursor d at) s

-- the same of a writer of several texts
pub record PutAll (d : List ℕ) (at : ℕ) (ss : List (List ℕ)) (e : List ℕ) (r : ℕ) : Type 0 where
  pub result : cursor e r ≡ put_texts (cursor d at) ss
