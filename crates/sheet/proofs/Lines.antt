-- Lines: a text starts with a read-back exactly where it starts with the sentence of a sheet in range.
use mathlib.Core.Path.{◌≡◌, sym, ap, ◌∙◌}
use mathlib.Core.Bool.{true, false, true≢false}
use mathlib.Core.List.{List, ◌++◌}
use Prim.Native.Nat.{ℕ, ◌≤◌, ◌<◌}
use native.Mathlib.Omega.{arith}
use lib.ListN.{length, drop, length-append}
use lib.Seq.{drop-append_seam}
use Rattle.std.specs.Prelude.{Option, Some, None, unwrap_or}
use Rattle.text.specs.Logic.{by_test, and_left, and_right}
use Rattle.sheet.specs.declared.Found.{Found}
use Rattle.text.specs.Parts.{starts_with}
use Rattle.text.proofs.Parts.{starts_own}
use Rattle.sheet.specs.Sheet.{Sheet, cap, warn, in_range}
use Rattle.sheet.specs.Sentence.{cap_text, warn_text, sentence_in, sentence}
use Rattle.sheet.specs.Reading.{found_at, sheet_of, is_line, line_at}
use Rattle.sheet.specs.Answers.{line_length}
use Rattle.sheet.proofs.Leading.{starts_split}
use Rattle.sheet.proofs.ReadSentence.{sheet_of_sentence}

-- ---- the sentence of any sheet has a byte

pub sentence_some : (x : Sheet) → 0 < length (sentence x)
unfolding sentence sentence_in cap_text warn_text
sentence_some (cap f sender name) = omega arith
sentence_some (warn x) = omega arith

-- ---- the sentence of a sheet in range leads a text

module _ (x : Sheet) (rest : List ℕ) (h : in_range x ≡ true) where
  pub is_line_lem : is_line (sentence x ++ rest) ≡ true
  unfolding is_line
  is_line_lem = rw (is_line, sheet_of_sentence x rest h, h) (starts_own (sentence x) rest)

  pub line_length_lem : line_length (sentence x ++ rest) ≡ length (sentence x)
  unfolding line_length
  line_length_lem = ap (λ (y : Sheet). length (sentence y)) (sheet_of_sentence x rest h)

  pub after_line : drop (line_length (sentence x ++ rest)) (sentence x ++ rest) ≡ rest
  after_line = rw line_length_lem (drop-append_seam (sentence x) rest)

-- ---- a read-back leads a text

module _ (l : List ℕ) (e : is_line l ≡ true) where
  pub line_range : in_range (sheet_of l) ≡ true
  unfolding is_line
  line_range = and_left (in_range (sheet_of l)) (starts_with (sentence (sheet_of l)) l) e

  pub line_split : l ≡ sentence (sheet_of l) ++ drop (line_length l) l
  unfolding is_line line_length
  line_split = starts_split (sentence (sheet_of l)) l (and_right (in_range (sheet_of l)) (starts_with (sentence (sheet_of l)) l) e)

  pub line_within : line_length l ≤ length l
  unfolding line_length
  line_within = omega (arith, simp length-append at (ap length line_split))

pub line_some : (l : List ℕ) → 0 < line_length l
unfolding line_length
line_some l = sentence_some (sheet_of l)

pub line_bytes : (l : List ℕ) → is_line l ≡ true → 0 < length l
line_bytes l e = omega (arith, line_some l, line_within l e)

-- where no read-back leads a text, it does not start with the sentence of a sheet in range
pub not_line : (l : List ℕ) → is_line l ≡ false → (x : Sheet) (rest : List ℕ) → in_range x ≡ true → l ≡ sentence x ++ rest → ⊥
not_line l e x rest h q = true≢false (sym (is_line_lem x rest h) ∙ sym (ap is_line q) ∙ e)

-- ---- the reader's answer on one line

pub record IsLine (i : ℕ) (l : List ℕ) (f : Found) (n : ℕ) : Type 0 where
  pub is : is_line l ≡ true
  pub found : f ≡ found_at i l
  pub size : n ≡ line_length l

pub line_is : (i : ℕ) (l : List ℕ) (f : Found) (n : ℕ) → line_at i l ≡ Some (f, n) → IsLine i l f n
unfolding line_at line_length
line_is i l f n e =
    by_test (is_line l)
    (λ p.
    let q = rw (line_at, p) at e in
    let same = ap (λ (o : Option (Found × ℕ)). unwrap_or o (f, n)) (sym q) in
    record { is = p; found = ap (λ (x : Found × ℕ). x.0) same; size = ap (λ (x : Found × ℕ). x.1) same })
    (λ p. let q = rw (line_at, p) at e in cc)

pub line_none : (i : ℕ) (l : List ℕ) → line_at i l ≡ None → is_line l ≡ false
unfolding line_at
line_none i l e = by_test (is_line l) (λ p. let q = rw (line_at, p) at e in cc) (λ p. p)
