-- Reading a CAP code undoes writing it: its text has no comma, and is read as the code.
use mathlib.Core.Path.{◌≡◌, ap, ◌∙◌}
use mathlib.Core.Bool.{Bool}
use Prim.Native.Nat.{ℕ, ◌≤◌}
use lib.Dec.{eqb, leb}
use lib.ListN.{length}
use borrow.Author.Tests.{eqb-true, leb-true}
use Rattle.codes.specs.Lists.{lists, is_number, small_code_of, small_text}
use Rattle.codes.proofs.Numbers.{Numbers}
use Rattle.codes.proofs.Each.{each_at, small_read}
use Rattle.sheet.specs.Reading.{word_length}

-- without a comma
is_word : ℕ → ℕ → Bool
is_word l k = eqb (word_length (small_text l k)) (length (small_text l k))

is_short : ℕ → ℕ → Bool
is_short l k = leb (length (small_text l k)) 10

-- x has the number k in the list l
module _ {A : Type 0} {l : ℕ} {at : ℕ → A} {x : A} {k : ℕ} (n : Numbers l at x k) where
  pub code_word : word_length (small_text l k) ≡ length (small_text l k)
  unfolding lists is_number small_text word_length is_word
  code_word = eqb-true (word_length (small_text l k)) (length (small_text l k)) (each_at is_word tt l k n.listed)

  pub code_le : length (small_text l k) ≤ 10
  unfolding lists is_number small_text is_short
  code_le = leb-true (length (small_text l k)) 10 (each_at is_short tt l k n.listed)

  pub code_read : at (small_code_of l (small_text l k)) ≡ x
  code_read = ap at (small_read l k n.listed) ∙ n.back
