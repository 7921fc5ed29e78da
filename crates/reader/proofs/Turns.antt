-- One turn of the loop over a text: the line at the offset i is a read-back, with n before it.
use mathlib.Core.Path.{◌≡◌, sym, ap, ◌∙◌}
use mathlib.Core.List.{List}
use mathlib.Core.Option as found
use Prim.Native.Nat.{ℕ, ◌+◌, ◌≤◌, ◌<◌}
use native.Mathlib.Omega.{arith}
use lib.ListN.{length, drop, length-drop}
use Rattle.std.specs.Prelude.{Option, Some, None}
use Rattle.text.specs.Answers.{Answer, refuses}
use Rattle.sheet.specs.declared.Found.{Found}
use Rattle.sheet.specs.Reading.{line_at}
use Rattle.sheet.specs.Answers.{sheet_asked}
use Rattle.sheet.proofs.Lines.{line_some, line_within, IsLine, line_is, line_none}
use Rattle.sheet.proofs.Contents.{contents_at}
use Rattle.sheet.proofs.ReadLoop.{resumed, loop_other, loop_found, loop_stop}

-- the reader's answer from the offset i on, with n read-backs before it, and o the one asked for if it is among them
abbrev pub answer_from : List ℕ → ℕ → ℕ → ℕ → Option Found → Answer (ℕ × found.Option Found)
answer_from t k i n o = resumed k n (sheet_asked o) (contents_at t i)

module _ (t : List ℕ) (i : ℕ) where
  module _ {f : Found} {size : ℕ} (e : line_at i (drop i t) ≡ Some (f, size)) where
    is : IsLine i (drop i t) f size
    is = line_is i (drop i t) f size e

    -- it has a byte, and lies within the text
    pub turn_room : i ≤ length t → (i < i + size) × (i + size ≤ length t)
    turn_room h =
        let a = line_some (drop i t) in
        let b = simp length-drop at (line_within (drop i t) is.is) in
        let c = is.size in
        omega arith

    module _ (k n : ℕ) (o : Option Found) where
      pub turn_asked : n + 1 ≡ k → answer_from t k (i + size) (n + 1) (Some f) ≡ answer_from t k i n o
      turn_asked z =
          rw (is.size, is.found) (sym (loop_found t k i n (sheet_asked o) is.is (sym z)))

      pub turn_other : (n + 1 ≡ k → ⊥) → answer_from t k (i + size) (n + 1) o ≡ answer_from t k i n o
      turn_other z =
          ap (λ (j : ℕ). answer_from t k (i + j) (n + 1) o) is.size
          ∙ sym (loop_other t k i n (sheet_asked o) is.is (λ y. z (sym y)))

  pub turn_stop : (k n : ℕ) (o : Option Found) → i < length t → line_at i (drop i t) ≡ None → refuses 23 i ≡ answer_from t k i n o
  turn_stop k n o h e = sym (loop_stop t k i n (sheet_asked o) h (line_none i (drop i t) e))

-- the same of the line itself, in a form that tactics apply
module _ (t : List ℕ) (i : ℕ) {f : Found} {size : ℕ} where
  pub turn_grows : line_at i (drop i t) ≡ Some (f, size) → i ≤ length t → i < i + size
  turn_grows e h = (turn_room t i e h).0

  pub turn_within : line_at i (drop i t) ≡ Some (f, size) → i ≤ length t → i + size ≤ length t
  turn_within e h = (turn_room t i e h).1
