-- What the test over the table of hashes says of a word that has a code.
use mathlib.Core.Path.{◌≡◌, sym, ap, ◌∙◌}
use mathlib.Core.Bool.{Bool, true, ◌&&◌}
use mathlib.Core.List.{List, []}
use Prim.Native.Nat.{ℕ, ◌+◌, ◌-◌, ◌*◌, ◌%◌, ◌≤◌, ◌<◌}
use native.Mathlib.Omega.{arith}
use lib.Dec.{eqb, leb, ltb}
use lib.ListN.{length, get_or}
use borrow.Author.Tests.{leb-true, ltb-true, ltb-false, eqb-true}
use Rattle.text.specs.Logic.{by_test, below_at, below_both, and_left, and_right}
use Rattle.words.specs.Words.{dictionary, word}
use Rattle.words.specs.Reading.{code_of}
use Rattle.words.proofs.Steps.{code_le, known_word, code_of_word}
use Rattle.spoken.specs.declared.dictionary.TheConstants.{HASHED}

-- ---- the table

abbrev hash_of : List ℕ → ℕ
hash_of l = (get_or l 0 0 + 4 * get_or l 1 0 + get_or l (length l - 1) 0) % 18

-- where a word's hash leads, in the row of its length
abbrev pub found_in : List ℕ → ℕ
found_in l = get_or (get_or HASHED (length l - 3) []) (hash_of l) 0

-- an entry is the code of a word
abbrev is_low : ℕ → ℕ → Bool
is_low k h = ltb (get_or (get_or HASHED k []) h 0) 40

-- a word has 3 to 9 letters, and its hash leads to its code
is_hashed : ℕ → Bool
unfolding dictionary word
is_hashed w = leb 3 (length (word w)) && leb (length (word w)) 9 && eqb (found_in (word w)) w

pub found_low : (k h : ℕ) → k < 7 → h < 18 → get_or (get_or HASHED k []) h 0 < 40
found_low k h a b = ltb-true (get_or (get_or HASHED k []) h 0) 40 (below_both 7 18 is_low tt k h a b)

-- a word that has a code is the word of that code
module _ (l : List ℕ) (h : code_of l < 40) where
  hashed_here : leb 3 (length l) && leb (length l) 9 && eqb (found_in l) (code_of l) ≡ true
  unfolding is_hashed
  hashed_here = rw (← known_word l h) at (below_at 40 is_hashed tt (code_of l) h)

  pub not_short : 3 ≤ length l
  not_short = leb-true 3 (length l) (and_left _ _ (and_left _ _ hashed_here))

  pub not_long : length l ≤ 9
  not_long = leb-true (length l) 9 (and_right (leb 3 (length l)) _ (and_left _ _ hashed_here))

  -- its hash leads to its code
  pub found_code : found_in l ≡ code_of l
  found_code = eqb-true (found_in l) (code_of l) (and_right (leb 3 (length l) && leb (length l) 9) _ hashed_here)

-- ---- the comparison with the word of the code w settles the code

module _ (l : List ℕ) (w : ℕ) where
  pub code_same : w < 40 → l ≡ word w → w ≡ code_of l
  code_same h e = sym (ap code_of e ∙ code_of_word w h)

  pub code_other : (code_of l < 40 → w ≡ code_of l) → (l ≡ word w → ⊥) → 40 ≡ code_of l
  code_other f n =
      by_test (ltb (code_of l) 40)
      (λ d.
      let k = ltb-true (code_of l) 40 d in
      absurd (n (known_word l k ∙ ap word (sym (f k)))))
      (λ d. omega (arith, code_le l, ltb-false (code_of l) 40 d))
