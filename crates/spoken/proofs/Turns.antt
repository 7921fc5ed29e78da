-- One turn of each reader: the number words and the counts that are left to read at an offset of a text.
use mathlib.Core.Path.{◌≡◌, sym, ap, ap₂, ◌∙◌}
use mathlib.Core.Bool.{true, false}
use mathlib.Core.List.{List}
use Prim.Native.Nat.{ℕ, ◌+◌, ◌*◌, ◌≤◌, ◌<◌}
use native.Mathlib.Omega.{arith}
use lib.Dec.{eqb}
use lib.ListN.{length, drop, length-drop}
use lib.Seq.{drop-drop}
use borrow.Author.Tests.{lt-ltb, le-ltb, eq-eqb, ne_eqb}
use Rattle.words.specs.declared.Groups.{Groups}
use Rattle.words.specs.declared.Quantity.{Quantity}
use Rattle.words.specs.Duration.{day}
use Rattle.words.specs.Reading.{word_at, code_of, kept, is_number_word, step, total, number_words, number_at}
use Rattle.words.specs.Reading.{unit_seconds, count_of, unit_word, count_length, counts}
use Rattle.words.proofs.Steps.{number_word_within, number_on, number_stop, unit_range, count_within, counts_on, counts_stop, number_at_shift}
use Rattle.spoken.proofs.Letters.{IsWord}

-- what is read from the offset i of s on
abbrev pub number_from : List ℕ → ℕ → Groups → Quantity
number_from s i g = number_words (length (drop i s)) i (drop i s) g

abbrev pub counts_from : List ℕ → ℕ → ℕ → Quantity
counts_from s i n = counts (length (drop i s)) i (drop i s) n

-- ---- a number

number_move :
    (s : List ℕ) (i k j : ℕ) (g g' : Groups)
    → j ≡ i + k
    → g' ≡ g
    → number_words (length (drop k (drop i s))) (i + k) (drop k (drop i s)) g ≡ number_from s j g'
number_move s i k j g g' p q = rw (p, q, drop-drop k i s)

module _ (s : List ℕ) (i w e : ℕ) (q : IsWord s i w e) where
  is_number : w < 32 → is_number_word (code_of (word_at (drop i s))) ≡ true
  is_number h = lt-ltb (code_of (word_at (drop i s))) day (rw q.0 at h)

  -- one word more
  pub number_next : (g g' : Groups) → w < 32 → g' ≡ step w g → number_from s i g ≡ number_from s e g'
  number_next g g' h r =
      let l = drop i s in
      number_on i l g (is_number h)
      ∙ number_move s i (1 + length (word_at l)) e (step (code_of (word_at l)) g) g' (q.1 (omega arith)) (r ∙ ap (λ (x : ℕ). step x g) q.0)

  -- it lies within the text
  pub number_room : w < 32 → (i < e) × (e ≤ length s)
  number_room h =
      let p = q.1 (omega arith) in
      let l = simp length-drop at (number_word_within (drop i s) (is_number h)) in
      omega arith

  pub number_last : (g : Groups) → 32 ≤ w → number_from s i g ≡ record { value = total g; end = i }
  number_last g h = number_stop i (drop i s) g (le-ltb (code_of (word_at (drop i s))) day (rw q.0 at h))

-- ---- a duration

counts_move :
    (s : List ℕ) (i k j v v' : ℕ)
    → j ≡ i + k
    → v' ≡ v
    → counts (length (drop k (drop i s))) (i + k) (drop k (drop i s)) v ≡ counts_from s j v'
counts_move s i k j v v' p q = rw (p, q, drop-drop k i s)

-- h: the number that is read; w, e and u: the code of the word after it, the offset after that, and its seconds
module _ (s : List ℕ) (i : ℕ) (h : Quantity) (a : h ≡ number_at i (drop i s)) (w e u : ℕ) (q : IsWord s h.end w e) (t : u ≡ unit_seconds w) where
  shifted : h ≡ record { value = count_of (drop i s); end = i + (number_at 0 (drop i s)).end }
  shifted = a ∙ number_at_shift i (drop i s)

  unit_at : word_at (drop h.end s) ≡ unit_word (drop i s)
  unit_at =
      ap (λ (x : Quantity). word_at (drop x.end s)) shifted
      ∙ ap word_at (sym (drop-drop (number_at 0 (drop i s)).end i s))

  unit_seconds_lem : u ≡ unit_seconds (code_of (unit_word (drop i s)))
  unit_seconds_lem = t ∙ ap unit_seconds (q.0 ∙ ap code_of unit_at)

  has_unit : (u ≡ 0 → ⊥) → eqb (unit_seconds (code_of (unit_word (drop i s)))) 0 ≡ false
  has_unit z = ap (λ (x : ℕ). eqb x 0) (sym unit_seconds_lem) ∙ ne_eqb u 0 z

  count_size : (u ≡ 0 → ⊥) → e ≡ i + count_length (drop i s)
  count_size z =
      let k = (unit_range w (ap (λ (x : ℕ). eqb x 0) (sym t) ∙ ne_eqb u 0 z)).1 in
      let n = ap length unit_at in
      let f = ap (λ (x : Quantity). x.end) shifted in
      q.1 k ∙ omega arith

  -- one count more
  pub counts_next : (c v : ℕ) → (u ≡ 0 → ⊥) → v ≡ kept (c + h.value * u) → counts_from s i c ≡ counts_from s e v
  counts_next c v z r =
      let l = drop i s in
      counts_on i l c (has_unit z)
      ∙ counts_move s i (count_length l) e (kept (c + count_of l * unit_seconds (code_of (unit_word l)))) v
      (count_size z)
      (r ∙ ap₂ (λ (x y : ℕ). kept (c + x * y)) (ap (λ (x : Quantity). x.value) shifted) unit_seconds_lem)

  -- it lies within the text
  pub counts_room : (u ≡ 0 → ⊥) → (i < e) × (e ≤ length s)
  counts_room z =
      let n = count_size z in
      let l = simp length-drop at (count_within (drop i s) (has_unit z)) in
      omega arith

  pub counts_last : (c : ℕ) → u ≡ 0 → counts_from s i c ≡ record { value = c; end = i }
  counts_last c z = counts_stop i (drop i s) c (ap (λ (x : ℕ). eqb x 0) (sym unit_seconds_lem) ∙ eq-eqb u 0 z)
