-- What was found at an offset is the read-back that stands there exactly where its sentence, in an array of its own, leads the text there.
use mathlib.Core.Path.{◌≡◌, sym, ap, ap₂, ◌∙◌}
use mathlib.Core.Bool.{Bool, true, false}
use mathlib.Core.List.{List}
use Prim.Native.Nat.{ℕ, ◌≤◌, zero-le}
use native.Mathlib.Nat.{zero-add}
use native.Mathlib.Omega.{arith}
use lib.ListN.{length, take, drop}
use Rattle.std.specs.Prelude.{Some, None, Err}
use Rattle.text.specs.Ascii.{ascii}
use Rattle.text.specs.Answers.{gives, refuses}
use Rattle.text.specs.Logic.{by_test, clash}
use Rattle.sheet.specs.declared.WarnFacts.{WarnFacts}
use Rattle.sheet.specs.declared.WriteError.{WriteError}
use Rattle.sheet.specs.declared.WriteError.TheVariants.{OutOfRange, NoRoom}
use Rattle.sheet.specs.declared.Found.{Found}
use Rattle.sheet.specs.declared.Found.TheVariants as found
use Rattle.text.specs.Parts.{starts_with}
use Rattle.sheet.specs.Sheet.{Sheet, in_range}
use Rattle.sheet.specs.Sentence.{sentence, longest}
use Rattle.sheet.specs.Reading.{warn_of, found_at, sheet_in, sheet_of, is_line, line_at}
use Rattle.sheet.specs.Answers.{writing, write_answer, after}
use Rattle.sheet.proofs.Lengths.{sentence_le}
use Rattle.sheet.proofs.ReadSentence.{found_at_lem}
use Rattle.sheet.proofs.WriteOne.{length_written, part_written, write_end, given}
use Rattle.reader.specs.Pieces.{cap_at}

-- ---- the kind of a sheet

module _ (i : ℕ) (l : List ℕ) {r : Bool} (e : r ≡ starts_with (ascii "warn") l) where
  pub found_warn : r ≡ true → {w : WarnFacts} → w ≡ warn_of l → found.Warn w ≡ found_at i l
  unfolding found_at
  found_warn b q = rw (sym e ∙ b) (ap found.Warn q)

  pub found_cap : r ≡ false → {f : Found} → f ≡ cap_at i l → f ≡ found_at i l
  unfolding found_at
  found_cap b q = rw (sym e ∙ b) q

-- ---- the answer to a write over the front of a buffer

module _ (d : List ℕ) (x : Sheet) where
  record Ended (n : ℕ) : Type 0 where
    pub range : in_range x ≡ true
    pub size : n ≡ length (sentence x)
    pub room : n ≤ length (after d 0 x)
    pub bytes : take n (after d 0 x) ≡ sentence x

  sheet_end : {n : ℕ} → gives n ≡ writing d 0 x → Ended n
  sheet_end e =
      let g = given d 0 x e in
      let s = g.end ∙ zero-add (length (sentence x)) in
      let h = length_written d 0 (sentence x) g.room in
      let f = part_written d 0 (sentence x) zero-le in
      record { range = g.range; size = s; room = rw (g.buffer, h, s) (omega (arith, g.room)); bytes = ap₂ take s g.buffer ∙ f }

  pub room_for : {n : ℕ} {b : List ℕ} → gives n ≡ writing d 0 x → b ≡ after d 0 x → n ≤ length b
  room_for e w = rw w (sheet_end e).room

  -- a buffer as long as the longest sentence has room for every one
  out_of_range : {n p : ℕ} → longest ≤ length d → refuses n p ≡ writing d 0 x → in_range x ≡ false
  out_of_range big e =
      by_test (in_range x)
      (λ r. clash (cc (e, (write_end d 0 x r (omega (arith, sentence_le x r))).0)))
      (λ r. r)

-- ---- the line at an offset, from what was found there

module _ (t : List ℕ) (at : ℕ) {f : Found} (q : f ≡ found_at at (drop at t)) (d : List ℕ) where
  sheet_is : sheet_in t f ≡ sheet_of (drop at t)
  sheet_is = ap (sheet_in t) q ∙ found_at_lem at t

  -- the sentence's n bytes are the first of b, and r says whether they lead the text there
  module _ {n : ℕ} {b : List ℕ} {r : Bool} (e : gives n ≡ writing d 0 (sheet_in t f)) (w : b ≡ after d 0 (sheet_in t f))
      (s : r ≡ starts_with (take n b) (drop at t)) where
    end_is : Ended d (sheet_in t f) n
    end_is = sheet_end d (sheet_in t f) e

    line_test : is_line (drop at t) ≡ r
    unfolding is_line
    line_test =
        rw (is_line, ← sheet_is, end_is.range)
        (ap (λ (p : List ℕ). starts_with p (drop at t)) (sym end_is.bytes ∙ ap (take n) (sym w)) ∙ sym s)

    pub line_sentence : r ≡ true → Some (f, n) ≡ line_at at (drop at t)
    unfolding line_at
    line_sentence h = rw (line_at, line_test ∙ h) (ap₂ (λ (x : Found) (m : ℕ). Some (x, m)) q (end_is.size ∙ ap (λ (x : Sheet). length (sentence x)) sheet_is))

    pub line_differs : r ≡ false → None ≡ line_at at (drop at t)
    unfolding line_at
    line_differs h = rw (line_at, line_test ∙ h)

  line_refused : {n p : ℕ} → longest ≤ length d → refuses n p ≡ writing d 0 (sheet_in t f) → None ≡ line_at at (drop at t)
  unfolding line_at is_line
  line_refused big e = rw (line_at, is_line, ← sheet_is, out_of_range d (sheet_in t f) big e)

  pub line_error : (e : WriteError) → longest ≤ length d → write_answer (Err e) ≡ writing d 0 (sheet_in t f) → None ≡ line_at at (drop at t)
  line_error OutOfRange big q = line_refused big q
  line_error NoRoom big q = line_refused big q
