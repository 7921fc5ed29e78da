-- One write: its answer, and the bytes that it leaves in the buffer.
use mathlib.Core.Path.{◌≡◌, refl, sym, ap, ◌∙◌}
use mathlib.Core.Bool.{true, false}
use mathlib.Core.List.{List, [], ◌++◌, append_assoc}
use Prim.Native.Nat.{ℕ, ◌+◌, ◌≤◌, ◌<◌}
use native.Mathlib.Omega.{arith}
use native.Mathlib.Nat.{add-zero, add_assoc}
use lib.Dec.{leb}
use lib.ListN.{length, take, drop, length-append, length-take, length-drop, take-append-drop}
use lib.Seq.{drop-append-add, take_at, drop_at, drop-drop, length-take-le}
use borrow.Author.Tests.{leb-true, leb-false, le-leb}
use Rattle.text.specs.Answers.{gives, refuses}
use Rattle.buffer.specs.Writing.{written, write_text, after_text}
use Rattle.buffer.proofs.Room.{no_room}
use Rattle.text.specs.Logic.{by_test, clash}
use Rattle.sheet.specs.Sheet.{Sheet, in_range}
use Rattle.sheet.specs.Sentence.{sentence}
use Rattle.sheet.specs.Answers.{writing, after}

-- ---- bytes written into a buffer

module _ (d : List ℕ) (at : ℕ) where
  pub length_written : (s : List ℕ) → at + length s ≤ length d → length (written d at s) ≡ length d
  unfolding written
  length_written s h = simp (length-append, length-take, length-drop) (omega arith)

  pub written_nil : written d at [] ≡ d
  unfolding written
  written_nil = rw add-zero (take-append-drop at d)

  -- two writes one after the other are one
  pub written_then : (s t : List ℕ) → at + length s ≤ length d → written (written d at s) (at + length s) t ≡ written d at (s ++ t)
  unfolding written
  written_then s t h =
      let p = take at d ++ s in
      let r = drop (at + length s) d in
      let l : length p ≡ at + length s = simp (length-append, length-take) (omega arith) in
      let e : take at d ++ (s ++ r) ≡ p ++ r = sym (append_assoc (take at d) s r) in
      let g : drop (at + length s + length t) (p ++ r) ≡ drop (at + length s + length t) d
      = ap (λ (k : ℕ). drop (k + length t) (p ++ r)) (sym l) ∙ drop-append-add p r (length t) ∙ drop-drop (length t) (at + length s) d in
      rw (e, take_at p r (at + length s) l, g) (simp (length-append, append_assoc, add_assoc))

  -- what was written stands there
  pub part_written : (s : List ℕ) → at ≤ length d → take (length s) (drop at (written d at s)) ≡ s
  unfolding written
  part_written s h =
      rw (drop_at (take at d) (s ++ drop (at + length s) d) at (length-take-le at d h))
      (take_at s (drop (at + length s) d) (length s) refl)

-- ---- one write

module _ (d : List ℕ) (at : ℕ) (x : Sheet) where
  pub refuse_range : in_range x ≡ false → (refuses 23 0 ≡ writing d at x) × (d ≡ after d at x)
  unfolding writing after
  refuse_range e = (rw e, rw e)

  pub refuse_room : in_range x ≡ true → length d < at + length (sentence x) → (refuses 13 0 ≡ writing d at x) × (d ≡ after d at x)
  unfolding writing after
  refuse_room e h = let w = no_room d at (sentence x) h in (rw e w.0, rw e w.1)

  pub write_end :
      in_range x ≡ true → at + length (sentence x) ≤ length d
      → (gives (at + length (sentence x)) ≡ writing d at x) × (written d at (sentence x) ≡ after d at x)
  unfolding writing after write_text after_text
  write_end e h = let r = le-leb (at + length (sentence x)) (length d) h in (rw (e, r), rw (e, r))

  by_case :
      {P : Type 0} → (in_range x ≡ false → P)
      → (in_range x ≡ true → length d < at + length (sentence x) → P)
      → (in_range x ≡ true → at + length (sentence x) ≤ length d → P) → P
  by_case f g h =
      by_test (in_range x)
      (λ e.
      by_test (leb (at + length (sentence x)) (length d))
      (λ r. h e (leb-true (at + length (sentence x)) (length d) r))
      (λ r. g e (leb-false (at + length (sentence x)) (length d) r)))
      f

  -- what an answer says of the sheet, the room and the buffer
  pub record Written (k : ℕ) : Type 0 where
    pub range : in_range x ≡ true
    pub room : at + length (sentence x) ≤ length d
    pub end : k ≡ at + length (sentence x)
    pub buffer : after d at x ≡ written d at (sentence x)

  pub given : {k : ℕ} → gives k ≡ writing d at x → Written k
  given {k} q =
      by_case
      (λ e. clash (cc (q, (refuse_range e).0)))
      (λ e r. clash (cc (q, (refuse_room e r).0)))
      (λ e r. let w = write_end e r in record { range = e; room = r; end = cc (q, w.0); buffer = sym w.1 })

  pub refused : {n p : ℕ} → refuses n p ≡ writing d at x → after d at x ≡ d
  refused {n} {p} q = by_case (λ e. sym (refuse_range e).1) (λ e r. sym (refuse_room e r).1) (λ e r. clash (cc (q, (write_end e r).0)))
