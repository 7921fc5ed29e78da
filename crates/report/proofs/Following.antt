-- The lines of parts, one after another: how long they are, and how they are written.
use mathlib.Core.Path.{◌≡◌, refl, sym, ap, ◌∙◌}
use mathlib.Core.Bool.{true, false, cond}
use mathlib.Core.List.{List, [], ◌++◌, append-nil}
use Prim.Native.Nat.{ℕ, zero, suc, ◌+◌, ◌-◌, ◌*◌, ◌≤◌, ◌<◌}
use native.Mathlib.Omega.{arith}
use lib.ListN.{length, length-append}
use Rattle.text.specs.Logic.{by_test}
use Rattle.text.specs.Answers.{Answer, gives, refuses}
use Rattle.buffer.specs.Cursor.{cursor, put_text, Put}
use Rattle.buffer.proofs.Chain.{put_append}
use Rattle.sheet.specs.declared.Found.{Found}
use Rattle.sheet.specs.Reading.{sheet_in}
use Rattle.sheet.proofs.Lengths.{sentence_le}
use Rattle.parts.specs.Sheets.{cap_sheet}
use Rattle.drawn.proofs.Ranges.{drawn_in_range}
use Rattle.sheet.specs.Sentence.{longest}
use Rattle.report.specs.Lines.{line_then, lines_from}
use Rattle.report.specs.PartLine.{line_at, is_sentence}
use Rattle.report.proofs.Refusing.{refusal_le}

-- no line is longer than a sentence can be
line_le : (l : List ℕ) (n : ℕ) → length (line_at l n) ≤ longest
line_le l n = go (cap_sheet n l) refl
  where
    go : (r : Answer Found) → cap_sheet n l ≡ r → length (line_then l [] r) ≤ longest
    go (gives x) e = rw append-nil (sentence_le (sheet_in l x) (drawn_in_range l n x e))
    go (refuses k p) e = omega (arith, refusal_le k p)

-- ---- a line in front of the next ones

-- what comes after a line is the next ones or nothing
line_then_lem : (l rest : List ℕ) (r : Answer Found) → line_then l rest r ≡ line_then l [] r ++ cond (is_sentence r) rest []
line_then_lem l rest (gives x) = rw append-nil
line_then_lem l rest (refuses k p) = sym (append-nil _)

module _ (l : List ℕ) (k n : ℕ) where
  -- after a sentence the next ones
  lines_on : is_sentence (cap_sheet n l) ≡ true → lines_from l (suc k) n ≡ line_at l n ++ lines_from l k (n + 1)
  unfolding lines_from
  lines_on e = line_then_lem l (lines_from l k (n + 1)) (cap_sheet n l) ∙ rw e

  -- after a refusal nothing
  lines_stop : is_sentence (cap_sheet n l) ≡ false → lines_from l (suc k) n ≡ line_at l n
  unfolding lines_from
  lines_stop e = line_then_lem l (lines_from l k (n + 1)) (cap_sheet n l) ∙ rw e (append-nil (line_at l n))

-- no parts, no lines
none : (l : List ℕ) (n : ℕ) → length (lines_from l 0 n) ≤ longest * 0
unfolding lines_from
none l n = omega arith

-- the lines of k parts are as long as k sentences at most
pub lines_le : (l : List ℕ) (k n : ℕ) → length (lines_from l k n) ≤ longest * k
lines_le l zero n = none l n
lines_le l (suc k) n =
    by_test (is_sentence (cap_sheet n l))
    (λ e. rw (lines_on l k n e, length-append) (omega (arith, line_le l n, lines_le l k (n + 1))))
    (λ e. rw (lines_stop l k n e) (omega (arith, line_le l n)))

-- ---- the lines of `many` parts of l from the n-th on, written into the buffer d

-- those from the m-th on are left to write, into e from the offset at on
pub record Left (l d : List ℕ) (many n : ℕ) (e : List ℕ) (at m : ℕ) : Type 0 where
  pub text : put_text (cursor e at) (lines_from l (n + many - m) m) ≡ put_text (cursor d 0) (lines_from l many n)

pub left_first : (l d : List ℕ) (many n : ℕ) → Left l d many n d 0 n
left_first l d many n = let z : n + many - n ≡ many = omega arith in record { text = rw z }

module _ {l d : List ℕ} {many n : ℕ} {e : List ℕ} {at m : ℕ} (p : Left l d many n e at m) where
  module _ (h : m < n + many) where
    one_less : n + many - m ≡ suc (n + many - (m + 1))
    one_less = omega arith

    -- after a sentence the next part's line is the first that is left
    pub left_next : {f : List ℕ} {q : ℕ} → is_sentence (cap_sheet m l) ≡ true → Put e at (line_at l m) f q → Left l d many n f q (m + 1)
    left_next t a =
        let on = ap (λ (j : ℕ). lines_from l j m) one_less ∙ lines_on l (n + many - (m + 1)) m t in
        record { text = rw a.result (sym (put_append _ (line_at l m) _) ∙ ap (put_text (cursor e at)) (sym on) ∙ p.text) }

    -- a refusal is the last line
    pub left_stop : {f : List ℕ} {q : ℕ} → is_sentence (cap_sheet m l) ≡ false → Put e at (line_at l m) f q → Put d 0 (lines_from l many n) f q
    left_stop t a =
        let s = ap (λ (j : ℕ). lines_from l j m) one_less ∙ lines_stop l (n + many - (m + 1)) m t in
        record { result = a.result ∙ ap (put_text (cursor e at)) (sym s) ∙ p.text }

  -- none is left
  pub left_none : n + many ≤ m → Put d 0 (lines_from l many n) e at
  unfolding put_text lines_from
  left_none h = let z : 0 ≡ n + many - m = omega arith in
      record { result = ap (λ (j : ℕ). put_text (cursor e at) (lines_from l j m)) z ∙ p.text }
