-- Laws of reading: the code of a word, one turn of each loop, and the bounds of what is read.
use mathlib.Core.Path.{◌≡◌, refl, sym, ap, ap₂, ◌∙◌}
use mathlib.Core.Bool.{Bool, true, false, true≢false}
use mathlib.Core.List.{List, [], ◌∷◌}
use Prim.Native.Nat.{ℕ, zero, suc, ◌+◌, ◌*◌, ◌≤◌, ◌<◌}
use native.Mathlib.Omega.{arith}
use lib.Dec.{eqb, ltb}
use lib.ListN.{length, get_or, drop, length-take, length-drop}
use borrow.Author.Tests.{ltb-true, ltb-false, eqb-true, le-ltb}
use Rattle.text.specs.Logic.{by_test, below_at, eql, eql_true}
use Rattle.words.specs.declared.Groups.{Groups}
use Rattle.words.specs.declared.Quantity.{Quantity}
use Rattle.words.specs.Words.{dictionary, word}
use Rattle.words.specs.Reading.{word_at, index_in, code_of, kept, is_number_word, step, nothing, total, number_words, number_at, unit_seconds, count_of, unit_word, count_length, counts}

-- ---- the code of a word

index_from : (ds : List (List ℕ)) (i : ℕ) (w : List ℕ) → i ≤ index_in ds i w
unfolding index_in
index_from [] i w = omega arith
index_from (d ∷ ds) i w =
    by_test (eql w d) (λ e. rw e (omega arith)) (λ e. rw e (omega (arith, index_from ds (suc i) w)))

index_le : (ds : List (List ℕ)) (i : ℕ) (w : List ℕ) → index_in ds i w ≤ i + length ds
unfolding index_in
index_le [] i w = omega arith
index_le (d ∷ ds) i w =
    by_test (eql w d) (λ e. rw e (omega arith)) (λ e. rw e (omega (arith, index_le ds (suc i) w)))

-- the word at the index that was found
index_word : (ds : List (List ℕ)) (i k : ℕ) (w : List ℕ) → k < length ds → index_in ds i w ≡ i + k → w ≡ get_or ds k []
unfolding index_in
index_word [] i k w h e = absurd (omega arith)
index_word (d ∷ ds) i zero w h e =
    by_test (eql w d) (eql_true w d) (λ t. absurd (omega (arith, index_from ds (suc i) w, rw t at e)))
index_word (d ∷ ds) i (suc k) w h e =
    by_test (eql w d)
    (λ t. absurd (omega (arith, rw t at e)))
    (λ t. index_word ds (suc i) k w (omega arith) (omega (arith, rw t at e)))

pub code_le : (w : List ℕ) → code_of w ≤ 40
unfolding code_of dictionary
code_le w = index_le dictionary 0 w

pub known_word : (w : List ℕ) → code_of w < 40 → w ≡ word (code_of w)
unfolding code_of word dictionary
known_word w h = index_word dictionary 0 (index_in dictionary 0 w) w h (omega arith)

own_code : ℕ → Bool
unfolding code_of index_in word dictionary
own_code k = eqb (code_of (word k)) k

pub code_of_word : (k : ℕ) → k < 40 → code_of (word k) ≡ k
unfolding own_code
code_of_word k h = eqb-true (code_of (word k)) k (below_at 40 own_code tt k h)

-- a word of the dictionary has a letter
pub word_letter : (w : List ℕ) → code_of w < 40 → 0 < length w
unfolding code_of index_in dictionary
word_letter [] h = absurd (omega arith)
word_letter (b ∷ w) h = omega arith

number_letter : (w : List ℕ) → is_number_word (code_of w) ≡ true → 0 < length w
number_letter w e = word_letter w (omega (arith, ltb-true (code_of w) 32 e))

-- only the words of units have seconds
pub unit_range : (u : ℕ) → eqb (unit_seconds u) 0 ≡ false → (32 ≤ u) × (u < 40)
unit_range u e = (
  by_test (ltb u 32) (λ t. absurd (true≢false (rw t at e))) (ltb-false u 32),
  by_test (ltb u 40) (ltb-true u 40) (λ t. absurd (none (ltb-false u 40 t))),
)
  where
    none : 40 ≤ u → ⊥
    none h =
        true≢false
        (rw (le-ltb u 32 (omega arith), le-ltb u 34 (omega arith), le-ltb u 36 (omega arith), le-ltb u 38 (omega arith), le-ltb u 40 h) at e)

unit_letter : (w : List ℕ) → eqb (unit_seconds (code_of w)) 0 ≡ false → 0 < length w
unit_letter w e = word_letter w (unit_range (code_of w) e).1

-- a word and its space lie within the text
pub word_within : (l : List ℕ) → 0 < length (word_at l) → 1 + length (word_at l) ≤ length l
unfolding word_at
word_within [] h = absurd (omega arith)
word_within (b ∷ l) h =
    by_test (eqb b 32)
    (λ e. rw e (simp length-take (omega arith)))
    (λ e. absurd (omega (arith, rw e at h)))

pub number_word_within : (l : List ℕ) → is_number_word (code_of (word_at l)) ≡ true → 1 + length (word_at l) ≤ length l
number_word_within l e = word_within l (number_letter (word_at l) e)

-- ---- one turn of the number loop

-- a value and the offset after it
abbrev pub quantity : ℕ → ℕ → Quantity
quantity v e = record { value = v; end = e }

-- a turn takes at least a space and a letter, so more turns than the text has bytes add nothing
pub enough : (n m i : ℕ) (l : List ℕ) (g : Groups) → length l ≤ n → length l ≤ m → number_words n i l g ≡ number_words m i l g
unfolding number_words
enough zero zero i l g p q = refl
enough zero (suc m) i l g p q =
    by_test (is_number_word (code_of (word_at l)))
    (λ e. absurd (omega (arith, number_word_within l e)))
    (λ e. rw e)
enough (suc n) zero i l g p q =
    by_test (is_number_word (code_of (word_at l)))
    (λ e. absurd (omega (arith, number_word_within l e)))
    (λ e. rw e)
enough (suc n) (suc m) i l g p q =
    let k = 1 + length (word_at l) in
    by_test (is_number_word (code_of (word_at l)))
    (λ e.
    rw e
    (enough n m (i + k) (drop k l) (step (code_of (word_at l)) g) (simp length-drop (omega arith)) (simp length-drop (omega arith))))
    (λ e. rw e)

module _ (i : ℕ) (l : List ℕ) (g : Groups) where
  pub number_on :
      is_number_word (code_of (word_at l)) ≡ true
      → number_words (length l) i l g
      ≡ number_words (length (drop (1 + length (word_at l)) l)) (i + (1 + length (word_at l))) (drop (1 + length (word_at l)) l)
      (step (code_of (word_at l)) g)
  unfolding number_words
  number_on e =
      let k = 1 + length (word_at l) in
      enough (length l) (suc (length l)) i l g (omega arith) (omega arith)
      ∙ rw e (enough (length l) (length (drop k l)) (i + k) (drop k l) (step (code_of (word_at l)) g) (simp length-drop (omega arith)) (omega arith))

  pub number_stop : is_number_word (code_of (word_at l)) ≡ false → number_words (length l) i l g ≡ record { value = total g; end = i }
  unfolding number_words
  number_stop e = enough (length l) (suc (length l)) i l g (omega arith) (omega arith) ∙ rw e

-- what is read ends within the text
pub number_within : (n i : ℕ) (l : List ℕ) (g : Groups) → (i ≤ (number_words n i l g).end) × ((number_words n i l g).end ≤ i + length l)
unfolding number_words
number_within zero i l g = omega arith
number_within (suc n) i l g =
    let k = 1 + length (word_at l) in
    by_test (is_number_word (code_of (word_at l)))
    (λ e.
    let h = number_word_within l e in
    let ih = simp length-drop at (number_within n (i + k) (drop k l) (step (code_of (word_at l)) g)) in
    rw e (omega arith))
    (λ e. rw e (omega arith))

-- the offset of the text only moves the end
pub number_shift : (n i : ℕ) (l : List ℕ) (g : Groups) → number_words n i l g ≡ quantity (number_words n 0 l g).value (i + (number_words n 0 l g).end)
unfolding number_words
number_shift zero i l g = ap (quantity (total g)) (omega arith)
number_shift (suc n) i l g =
    let k = 1 + length (word_at l) in
    let r = drop k l in
    let s = step (code_of (word_at l)) g in
    let z = number_shift n (0 + k) r s in
    by_test (is_number_word (code_of (word_at l)))
    (λ e.
    rw e
    (number_shift n (i + k) r s
    ∙ ap₂ quantity (sym (ap (λ (x : Quantity). x.value) z)) (omega (arith, ap (λ (x : Quantity). x.end) z))))
    (λ e. rw e (ap (quantity (total g)) (omega arith)))

pub number_at_shift : (i : ℕ) (l : List ℕ) → number_at i l ≡ quantity (number_at 0 l).value (i + (number_at 0 l).end)
unfolding number_at
number_at_shift i l = number_shift (length l) i l nothing

-- ---- one turn of the duration loop

-- a count and its unit lie within the text
pub count_within : (l : List ℕ) → eqb (unit_seconds (code_of (unit_word l))) 0 ≡ false → count_length l ≤ length l
unfolding number_at
count_within l e =
    let h = simp length-drop at (word_within (drop (number_at 0 l).end l) (unit_letter (unit_word l) e)) in
    omega (arith, number_within (length l) 0 l nothing)

pub counts_enough : (n m i : ℕ) (l : List ℕ) (s : ℕ) → length l ≤ n → length l ≤ m → counts n i l s ≡ counts m i l s
unfolding counts
counts_enough zero zero i l s p q = refl
counts_enough zero (suc m) i l s p q =
    by_test (eqb (unit_seconds (code_of (unit_word l))) 0) (λ e. rw e) (λ e. absurd (omega (arith, count_within l e)))
counts_enough (suc n) zero i l s p q =
    by_test (eqb (unit_seconds (code_of (unit_word l))) 0) (λ e. rw e) (λ e. absurd (omega (arith, count_within l e)))
counts_enough (suc n) (suc m) i l s p q =
    let k = count_length l in
    by_test (eqb (unit_seconds (code_of (unit_word l))) 0)
    (λ e. rw e)
    (λ e.
    rw e
    (counts_enough n m (i + k) (drop k l) (kept (s + count_of l * unit_seconds (code_of (unit_word l))))
    (simp length-drop (omega arith))
    (simp length-drop (omega arith))))

module _ (i : ℕ) (l : List ℕ) (s : ℕ) where
  pub counts_on :
      eqb (unit_seconds (code_of (unit_word l))) 0 ≡ false
      → counts (length l) i l s
      ≡ counts (length (drop (count_length l) l)) (i + count_length l) (drop (count_length l) l)
      (kept (s + count_of l * unit_seconds (code_of (unit_word l))))
  unfolding counts
  counts_on e =
      let k = count_length l in
      counts_enough (length l) (suc (length l)) i l s (omega arith) (omega arith)
      ∙ rw e
      (counts_enough (length l) (length (drop k l)) (i + k) (drop k l) (kept (s + count_of l * unit_seconds (code_of (unit_word l))))
      (simp length-drop (omega arith))
      (omega arith))

  pub counts_stop : eqb (unit_seconds (code_of (unit_word l))) 0 ≡ true → counts (length l) i l s ≡ record { value = s; end = i }
  unfolding counts
  counts_stop e = counts_enough (length l) (suc (length l)) i l s (omega arith) (omega arith) ∙ rw e
