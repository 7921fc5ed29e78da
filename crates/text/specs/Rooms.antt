-- Lists that are given into a room that the caller lends (document 02, [1]: "Every list, here and later, comes with its count and leaves the room
-- behind it alone."), over any type of elements.
use Rattle.std.specs.Prelude.{cond, List, ◌++◌, ℕ, ltb, length, take, drop}
use Rattle.text.specs.Answers.{Answer, gives, refuses}

module _ {A : Type 0} where
  -- the answer: the list's count, or "24, no room for the list"
  unfoldable pub listing : (room list : List A) → Answer ℕ
  listing room list = cond (ltb (length room) (length list)) (refuses 24 0) (gives (length list))

  -- what the room then holds: the list and, behind it, what was there; after a refusal what was there
  unfoldable pub after_listing : (room list : List A) → List A
  after_listing room list = cond (ltb (length room) (length list)) room (list ++ drop (length list) room)

  -- what it holds once as much of the list is there as it has places for
  unfoldable pub filled : (room list : List A) → List A
  filled room list = take (length room) list ++ drop (length list) room
