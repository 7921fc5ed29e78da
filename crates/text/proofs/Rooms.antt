-- A list that is put into a room one element after the other, over any type of elements.
use mathlib.Core.Path.{◌≡◌, refl, sym, ap, ◌∙◌}
use mathlib.Core.List.{List, [], ◌∷◌, ◌++◌, append-nil}
use Prim.Native.Nat.{suc, ◌+◌, ◌≤◌, ◌<◌}
use native.Mathlib.Numerals.{add-one}
use native.Mathlib.Omega.{arith}
use lib.ListN.{length, take, drop, set, get_or, length-append, length-take, length-drop, drop_of_length-le}
use lib.Seq.{take-nil, take_all, take-append-le, drop-cons, set_at, append_snoc}
use borrow.Author.Tests.{lt-ltb, le-ltb}
use Rattle.text.specs.Answers.{gives, refuses}
use Rattle.text.specs.Rooms.{listing, after_listing, filled}

module _ {A : Type 0} (room : List A) where
  pub filled_none : filled room [] ≡ room
  unfolding filled
  filled_none = ap (λ (l : List A). l ++ room) (take-nil (length room))

  -- a list that has room
  pub filled_fits : (list : List A) → length list ≤ length room → filled room list ≡ list ++ drop (length list) room
  unfolding filled
  filled_fits list h = ap (λ (l : List A). l ++ drop (length list) room) (take_all (length room) list h)

  -- and one that has not, or just
  filled_full : (list : List A) → length room ≤ length list → filled room list ≡ take (length room) list
  unfolding filled
  filled_full list h = rw (drop_of_length-le room h) (append-nil _)

  module _ (list : List A) (x : A) where
    longer : length (list ++ (x ∷ [])) ≡ length list + 1
    longer = length-append list (x ∷ [])

    -- the next element goes to the place that is its number, while there is one
    pub filled_next : length list < length room → filled room (list ++ (x ∷ [])) ≡ set (filled room list) (length list) x
    filled_next h =
        filled_fits (list ++ (x ∷ [])) (rw longer (omega arith))
        ∙ rw (longer, add-one, append_snoc, filled_fits list (omega arith), drop-cons room (length list) x h)
        (sym (set_at list (get_or room (length list) x) (drop (suc (length list)) room) x (length list) refl))

    pub filled_over : length room ≤ length list → filled room (list ++ (x ∷ [])) ≡ filled room list
    filled_over h =
        filled_full (list ++ (x ∷ [])) (rw longer (omega arith)) ∙ take-append-le (length room) list (x ∷ []) h ∙ sym (filled_full list h)

  pub filled_length : (list : List A) → length (filled room list) ≡ length room
  unfolding filled
  filled_length list = simp (length-append, length-take, length-drop) (omega arith)

  -- ---- the answer, and the room that is left

  module _ (list : List A) where
    pub listed_fits : length list ≤ length room → (gives (length list) ≡ listing room list) × (filled room list ≡ after_listing room list)
    unfolding listing after_listing
    listed_fits h = rw (le-ltb _ _ h) (refl, filled_fits list h)

    pub listed_not : length room < length list → (refuses 24 0 ≡ listing room list) × (room ≡ after_listing room list)
    unfolding listing after_listing
    listed_not h = rw (lt-ltb _ _ h) (refl, refl)
