-- The word that a run of letters makes after a space.
use mathlib.Core.Path.{◌≡◌, refl, sym, ap, ◌∙◌}
use mathlib.Core.List.{List, []}
use Prim.Native.Nat.{ℕ, ◌+◌, ◌-◌, ◌≤◌, ◌<◌}
use Prim.Native.Char.{code}
use native.Mathlib.Numerals.{add-one}
use native.Mathlib.Omega.{arith}
use lib.ListN.{length, get_or, take, drop, drop_of_length-le}
use lib.Seq.{drop-cons, length-take-le}
use borrow.Author.Tests.{eq-eqb, ne_eqb}
use Rattle.text.specs.Parts.{part}
use Rattle.text.proofs.Runs.{run_le}
use Rattle.words.specs.Words.{dictionary}
use Rattle.words.specs.Reading.{is_letter, letters, word_at, code_of, index_in}

code_none : 40 ≡ code_of []
unfolding code_of index_in dictionary
code_none = refl

module _ (s : List ℕ) (at : ℕ) where
  -- w is the code of the word after the space at an offset, and e the offset after the word if it has a code
  abbrev pub IsWord : ℕ → ℕ → Type 0
  IsWord w e = (w ≡ code_of (word_at (drop at s))) × (w < 40 → e ≡ at + (1 + length (word_at (drop at s))))

  none : word_at (drop at s) ≡ [] → IsWord 40 at
  none q = (rw q code_none, λ h. absurd (omega arith))

  pub word_past : length s ≤ at → IsWord 40 at
  unfolding word_at
  word_past h = none (rw (drop_of_length-le s h))

  pub word_no_space : at < length s → (get_or s at 0 ≡ code " " → ⊥) → IsWord 40 at
  unfolding word_at
  word_no_space h n = none (rw (drop-cons s at 0 h, ne_eqb (get_or s at 0) (code " ") n))

  letters_word : at < length s → get_or s at 0 ≡ code " " → word_at (drop at s) ≡ take (letters (drop (at + 1) s)) (drop (at + 1) s)
  unfolding word_at
  letters_word h b = rw (drop-cons s at 0 h, eq-eqb (get_or s at 0) (code " ") b, add-one at)

  pub word_there :
      (e w : ℕ) (t : List ℕ)
      → at < length s
      → get_or s at 0 ≡ code " "
      → e ≡ at + 1 + letters (drop (at + 1) s)
      → t ≡ part s (at + 1) e
      → w ≡ code_of t
      → IsWord w e
  word_there e w t h b q p r =
      let l = drop (at + 1) s in
      let k : e - (at + 1) ≡ letters l = omega arith in
      let x = letters_word h b in
      let n = ap length x ∙ length-take-le (letters l) l (run_le is_letter l) in
      (r ∙ ap code_of (p ∙ rw k (sym x)), λ z. omega arith)
