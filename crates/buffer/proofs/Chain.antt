-- One text after another.
use mathlib.Core.Path.{◌≡◌, refl}
use mathlib.Core.List.{List, [], ◌∷◌, ◌++◌}
use Prim.Native.Nat.{ℕ, ◌≤◌}
use lib.ListN.{length}
use borrow.Author.Tests.{le-ltb}
use Rattle.buffer.specs.Cursor.{Cursor, cursor, put_byte, put_text, put_texts, Put, PutAll}

pub put_append : (p : Cursor) (s t : List ℕ) → put_text p (s ++ t) ≡ put_text (put_text p s) t
unfolding put_text
put_append p [] t = refl
put_append p (b ∷ s) t = put_append (put_byte p b) s t

-- texts in front of another
abbrev pub joined : List (List ℕ) → List ℕ → List ℕ
joined [] t = t
joined (s ∷ ss) t = s ++ joined ss t

put_joined : (p : Cursor) (ss : List (List ℕ)) (t : List ℕ) → put_text p (joined ss t) ≡ put_text (put_texts p ss) t
put_joined p [] t = refl
put_joined p (s ∷ ss) t = rw put_append (put_joined (put_text p s) ss t)

pub put_none : (d : List ℕ) (at : ℕ) → Put d at [] d at
unfolding put_text
put_none d at = record { result = refl }

past : (d : List ℕ) (at : ℕ) (s : List ℕ) → length d ≤ at → cursor d at ≡ put_text (cursor d at) s
unfolding put_text put_byte
past d at [] h = refl
past d at (b ∷ s) h = rw (le-ltb at (length d) h) (past d at s h)

-- past the end nothing is written
pub put_past : (d : List ℕ) (at : ℕ) (s : List ℕ) → length d ≤ at → Put d at s d at
put_past d at s h = record { result = past d at s h }

pub put_then : {d s t e f : List ℕ} {at k r : ℕ} → Put d at s e k → Put e k t f r → Put d at (s ++ t) f r
put_then p q = record { result = rw put_append (rw p.result at q.result) }

pub all_then : {d t e f : List ℕ} {ss : List (List ℕ)} {at k r : ℕ} → PutAll d at ss e k → Put e k t f r → Put d at (joined ss t) f r
all_then {ss = ss} p q = record { result = rw (put_joined _ ss _) (rw p.result at q.result) }

pub both : {d s t e : List ℕ} {at k : ℕ} → PutAll d at (s ∷ t ∷ []) e k → Put d at (s ++ t) e k
both p = record { result = rw put_append p.result }

pub two : {d s t e f : List ℕ} {at k r : ℕ} → Put d at s e k → Put e k t f r → PutAll d at (s ∷ t ∷ []) f r
two p q = record { result = rw p.result at q.result }
