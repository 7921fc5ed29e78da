-- A text that has room is written whole.
use mathlib.Core.Path.{◌≡◌, refl, ap}
use mathlib.Core.List.{List, [], ◌∷◌, append_assoc}
use Prim.Native.Nat.{ℕ, suc, ◌+◌, ◌≤◌, ◌<◌}
use native.Mathlib.Numerals.{add-one}
use native.Mathlib.Omega.{arith}
use lib.ListN.{length, take, set, length-set}
use lib.Seq.{sets, sets-eq, take_at}
use borrow.Author.Tests.{lt-ltb, le-leb, lt-leb}
use Rattle.text.specs.Answers.{gives, refuses}
use Rattle.buffer.specs.Cursor.{cursor, put_byte, put_text, Put}
use Rattle.buffer.specs.Writing.{written, write_text, after_text}

pub byte_in : (d : List ℕ) (at b : ℕ) → at < length d → put_byte (cursor d at) b ≡ cursor (set d at b) (at + 1)
unfolding put_byte
byte_in d at b h = rw (lt-ltb at (length d) h)

pub text_in : (d : List ℕ) (at n : ℕ) (s : List ℕ) → n ≡ at + length s → n ≤ length d → put_text (cursor d at) s ≡ cursor (sets d at s) n
unfolding put_text
text_in d at n [] e h = ap (cursor d) (omega arith)
text_in d at n (b ∷ s) e h =
    rw (byte_in d at b (omega arith), add-one at)
    (text_in (set d at b) (suc at) n s (omega arith) (rw length-set (omega arith)))

pub put_whole : {d s e : List ℕ} {at k : ℕ} → Put d at s e k → at + length s ≤ length d → (e ≡ written d at s) × (k ≡ at + length s)
unfolding written
put_whole {d} {s} {e} {at} {k} p h =
    let q = text_in d at (at + length s) s refl h in
    let w = rw append_assoc at (sets-eq s d at h) in
    (cc, cc)

-- from the front on, the next start is its length
pub put_length : {d s e : List ℕ} {k : ℕ} → Put d 0 s e k → length s ≤ length d → k ≡ length s
put_length {d} {s} {e} {k} p h = let w = put_whole p (omega arith) in omega arith

-- and it is what stands before that offset
pub put_take : {d s e : List ℕ} {k : ℕ} → Put d 0 s e k → length s ≤ length d → take k e ≡ s
unfolding written
put_take {d} {s} {e} {k} p h =
    let w = put_whole p (omega arith) in
    rw w.0 (take_at s _ k (omega arith))

-- ---- a text from a start on: written whole, or nothing changed

module _ (d : List ℕ) (at : ℕ) (s : List ℕ) where
  pub no_room : length d < at + length s → (refuses 13 0 ≡ write_text d at s) × (d ≡ after_text d at s)
  unfolding write_text after_text
  no_room h = let e = lt-leb (at + length s) (length d) h in (rw e, rw e)

  pub has_room : {f : List ℕ} {k : ℕ} → at + length s ≤ length d → Put d at s f k → (gives k ≡ write_text d at s) × (f ≡ after_text d at s)
  unfolding write_text after_text
  has_room h p = let e = le-leb (at + length s) (length d) h in let w = put_whole p h in (rw e (ap gives w.1), rw e w.0)
