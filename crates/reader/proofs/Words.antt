-- The words of a sentence end at a comma, or at the text's end.
use mathlib.Core.Path.{◌≡◌, refl}
use mathlib.Core.Bool.{Bool, not}
use mathlib.Core.List.{List, [], ◌∷◌}
use Prim.Native.Nat.{ℕ}
use lib.Dec.{eqb}
use native.Mathlib.Numerals.{one-add}
use lib.ListN.{length}
use lib.Seq.{length-take-le}
use Rattle.std.specs.List.{prefix_len}
use Rattle.text.specs.Bytes.{leading}
use Rattle.text.proofs.Runs.{run_le}
use Rattle.sheet.specs.Reading.{word_length, word_of}

leading_is : (p : ℕ → Bool) (l : List ℕ) → prefix_len p l ≡ leading p l
leading_is p [] = refl
leading_is p (b ∷ l) = rw (leading_is p l, one-add)

pub word_length_is : (l : List ℕ) → prefix_len (λ b. not (eqb b 44)) l ≡ word_length l
unfolding word_length
word_length_is l = leading_is (λ b. not (eqb b 44)) l

pub length_word : (l : List ℕ) → length (word_of l) ≡ word_length l
unfolding word_of word_length
length_word l = length-take-le (word_length l) l (run_le (λ b. not (eqb b 44)) l)
