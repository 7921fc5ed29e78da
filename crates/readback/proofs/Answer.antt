-- The room for a sentence, and the answer where it was written.
use mathlib.Core.Path.{◌≡◌, ap, ◌∙◌}
use mathlib.Core.Bool.{true, false}
use mathlib.Core.List.{List}
use Prim.Native.Nat.{ℕ, ◌+◌, ◌-◌, ◌≤◌, ◌<◌}
use native.Mathlib.Omega.{arith}
use lib.ListN.{length}
use lib.Dec.{leb}
use borrow.Author.Tests.{leb-true, leb-false}
use Rattle.buffer.specs.Cursor.{Put}
use Rattle.buffer.proofs.Room.{put_whole}
use Rattle.text.specs.Answers.{gives}
use Rattle.sheet.specs.Sheet.{Sheet, in_range}
use Rattle.sheet.specs.Sentence.{sentence}
use Rattle.sheet.specs.Answers.{writing, after}
use Rattle.sheet.proofs.WriteOne.{write_end}

-- room from a start on, by the test of what is left there
pub has_room : (at n k : ℕ) → at ≤ n → leb k (n - at) ≡ true → at + k ≤ n
has_room at n k h e = let g = leb-true k (n - at) e in omega arith

pub lacks_room : (at n k : ℕ) → at ≤ n → leb k (n - at) ≡ false → n < at + k
lacks_room at n k h e = let g = leb-false k (n - at) e in omega arith

module _ (d : List ℕ) (at : ℕ) (x : Sheet) where
  pub answer_end :
      {f : List ℕ} {k : ℕ}
      → in_range x ≡ true
      → at + length (sentence x) ≤ length d
      → Put d at (sentence x) f k
      → (gives k ≡ writing d at x) × (f ≡ after d at x)
  answer_end r h p =
      let e = write_end d at x r h in
      let w = put_whole p h in
      (ap gives w.1 ∙ e.0, w.0 ∙ e.1)
