-- What is written into a buffer ends in it.
use Rattle.std.proofs.Common.{◌≡◌, ℕ, ◌+◌, ◌≤◌, List, length, Result, Ok, Err, IfOk, arith}
use lib.ListN.{length-append, length-take, length-drop}
use borrow.Author.Tests.{leb-true}
use Rattle.text.specs.Answers.{gives}
use Rattle.text.specs.Logic.{by_test, clash}
use Rattle.buffer.specs.declared.NoRoom.{NoRoom}
use Rattle.buffer.specs.Writing.{has_room, written, write_text, text_answer, after_text}

module _ (d s : List ℕ) (at : ℕ) where
  ends : {k : ℕ} → gives k ≡ write_text d at s → k ≤ length (after_text d at s)
  unfolding written write_text after_text
  ends {k} q =
      by_test (has_room d at s)
      (λ h.
      let room = leb-true (at + length s) (length d) h in
      let end : k ≡ at + length s = cc (q, h) in
      rw h (simp (length-append, length-take, length-drop) (omega arith)))
      (λ h. clash (cc (q, h)))

  pub written_within : (r : Result ℕ NoRoom) {e : List ℕ} → text_answer r ≡ write_text d at s → e ≡ after_text d at s → IfOk r (λ n. n ≤ length e)
  written_within (Ok k) q h = rw h (ends q)
  written_within (Err x) q h = tt
