-- A buffer of the longest sentence's length: what the writer leaves in front of the end that it gives is the sentence, and only a sheet out of range is
-- refused.
use Rattle.std.proofs.Common.{◌≡◌, refl, arith, length, take, ℕ, ◌≤◌, List, Err}
use lib.Seq.{take_at}
use Rattle.text.specs.Ascii.{ascii}
use Rattle.text.specs.Answers.{gives, refuses}
use Rattle.text.specs.Logic.{by_test, clash}
use Rattle.buffer.specs.Writing.{written}
use Rattle.sheet.specs.Sheet.{Sheet, in_range}
use Rattle.sheet.specs.Sentence.{sentence, longest}
use Rattle.sheet.specs.Answers.{writing, write_answer, after}
use Rattle.sheet.specs.declared.WriteError.{WriteError}
use Rattle.sheet.specs.declared.WriteError.TheVariants.{OutOfRange, NoRoom}
use Rattle.sheet.proofs.WriteOne.{given, write_end, length_written}
use Rattle.sheet.proofs.Lengths.{sentence_le}
use Rattle.output.specs.Lines.{line_of}

module _ (d : List ℕ) (x : Sheet) (room : length d ≡ longest) where
  pub end_within : {k : ℕ} {e : List ℕ} → gives k ≡ writing d 0 x → e ≡ after d 0 x → k ≤ length e
  end_within q h = let w = given d 0 x q in rw (h, w.buffer) (omega (arith, w.end, w.room, length_written d 0 (sentence x) w.room))

  pub written_line : {k : ℕ} → gives k ≡ writing d 0 x → take k (after d 0 x) ≡ line_of x
  unfolding written
  written_line {k} q = let w = given d 0 x q in rw (w.buffer, w.range) (take_at (sentence x) _ k (omega (arith, w.end)))

  refused : {n p : ℕ} → refuses n p ≡ writing d 0 x → ascii "not written\n" ≡ line_of x
  refused q =
      by_test (in_range x)
      (λ e. clash (cc (q, (write_end d 0 x e (omega (arith, sentence_le x e, room))).0)))
      (λ e. rw e refl)

  pub refused_line : (e : WriteError) → write_answer (Err e) ≡ writing d 0 x → ascii "not written\n" ≡ line_of x
  refused_line OutOfRange q = refused q
  refused_line NoRoom q = refused q
