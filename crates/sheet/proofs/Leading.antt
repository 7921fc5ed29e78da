-- What leads a text, and the text after it: a given text, a word up to its comma, a number, a duration.
use mathlib.Core.Path.{◌≡◌, refl, sym, ap, ap₂, ◌∙◌}
use mathlib.Core.Bool.{true, false≢true}
use mathlib.Core.List.{List, [], ◌∷◌, ◌++◌}
use Prim.Native.Nat.{ℕ, suc, ◌+◌, ◌<◌}
use Prim.Native.Char.{code}
use native.Mathlib.Nat.{suc_inj, zero-add}
use native.Mathlib.Omega.{arith}
use lib.Dec.{eqb}
use lib.ListN.{length, drop}
use lib.Seq.{take_at, drop_at, drop-append_seam}
use borrow.Author.Tests.{eqb-true}
use Rattle.text.specs.Ascii.{ascii}
use Rattle.text.specs.Logic.{by_test, and_left, and_right}
use Rattle.words.specs.declared.Quantity.{Quantity}
use Rattle.words.specs.Words.{said}
use Rattle.words.specs.Duration.{lasting}
use Rattle.words.specs.Reading.{number_at, duration_at, ends_number, ends_duration}
use Rattle.words.proofs.ReadNumber.{read_said, ends_comma}
use Rattle.words.proofs.ReadDuration.{read_duration}
use Rattle.text.specs.Parts.{starts_with}
use Rattle.sheet.specs.Reading.{word_length, word_of, after_word, number_after, rest_after, numbers_after, rest_after_all}

-- ---- a given text

pub starts_split : (p l : List ℕ) → starts_with p l ≡ true → l ≡ p ++ drop (length p) l
unfolding starts_with
starts_split [] l e = refl
starts_split (a ∷ p) [] e = absurd (false≢true e)
starts_split (a ∷ p) (b ∷ l) e =
    ap₂ (λ (x : ℕ) (t : List ℕ). x ∷ t)
    (eqb-true b a (and_left (eqb b a) (starts_with p l) e))
    (starts_split p l (and_right (eqb b a) (starts_with p l) e))

-- ---- a word: a text without a comma, and after it t, which begins with one

pub word_length_lem : (w t : List ℕ) → word_length w ≡ length w → word_length t ≡ 0 → word_length (w ++ t) ≡ length w
unfolding word_length
word_length_lem [] t h z = z
word_length_lem (b ∷ w) t h z =
    by_test (eqb b (code ","))
    (λ e. absurd (omega (arith, rw e at h)))
    (λ e. rw e (ap suc (word_length_lem w t (suc_inj (rw e at h)) z)))

-- a text that begins with the word w, the literal v and the rest t
pub word_step :
    (w v t : List ℕ) {l : List ℕ} → word_length w ≡ length w → word_length (v ++ t) ≡ 0 → l ≡ w ++ (v ++ t)
    → (word_of l ≡ w) × (after_word (length v) l ≡ t)
unfolding word_of after_word
word_step w v t h z q =
    let n = sym (word_length_lem w (v ++ t) h z) in (
      ap word_of q ∙ take_at w (v ++ t) _ n,
      ap (after_word (length v)) q ∙ ap (drop (length v)) (drop_at w (v ++ t) _ n) ∙ drop-append_seam v t,
    )

-- ---- a text that begins with the literal w, a number and the rest t

pub number_step :
    (w : List ℕ) (n : ℕ) (t : List ℕ) {l : List ℕ} → n < 4_294_967_296 → ends_number t ≡ true → l ≡ w ++ (said n ++ t)
    → (number_after (length w) l ≡ n) × (rest_after (length w) l ≡ t)
unfolding number_after rest_after
number_step w n t h e q =
    let d = ap (drop (length w)) q ∙ drop-append_seam w (said n ++ t) in
    let r = ap (number_at 0) d ∙ read_said n 0 t h e in (
      ap (λ (x : Quantity). x.value) r,
      ap₂ drop (ap (λ (x : Quantity). x.end) r) d ∙ drop_at (said n) t (0 + length (said n)) (omega arith),
    )

-- ---- numbers after their names, and after them the text r

abbrev pub named_text : List (List ℕ) → List ℕ → List ℕ → List ℕ
named_text [] ns r = r
named_text (w ∷ ws) [] r = r
named_text (w ∷ ws) (n ∷ ns) r = (ascii ", " ++ w) ++ (said n ++ named_text ws ns r)

abbrev pub AllBelow : ℕ → List ℕ → Type 0
AllBelow m [] = Unit {0}
AllBelow m (n ∷ ns) = (n < m) × AllBelow m ns

named_ends : (ws : List (List ℕ)) (ns r : List ℕ) → ends_number r ≡ true → ends_number (named_text ws ns r) ≡ true
named_ends [] ns r e = e
named_ends (w ∷ ws) [] r e = e
named_ends (w ∷ ws) (n ∷ ns) r e = ends_comma _

pub numbers_after_lem :
    (ws : List (List ℕ)) (ns r : List ℕ) → length ws ≡ length ns → AllBelow 4_294_967_296 ns → ends_number r ≡ true
    → (numbers_after ws (named_text ws ns r) ≡ ns) × (rest_after_all ws (named_text ws ns r) ≡ r)
unfolding numbers_after rest_after_all
numbers_after_lem [] [] r q h e = (refl, refl)
numbers_after_lem [] (n ∷ ns) r q h e = absurd (omega arith)
numbers_after_lem (w ∷ ws) [] r q h e = absurd (omega arith)
numbers_after_lem (w ∷ ws) (n ∷ ns) r q h e =
    let t = named_text ws ns r in
    let b = number_step (ascii ", " ++ w) n t h.0 (named_ends ws ns r e) refl in
    let i = numbers_after_lem ws ns r (suc_inj q) h.1 e in
    (ap₂ (λ (x : ℕ) (xs : List ℕ). x ∷ xs) b.0 (ap (numbers_after ws) b.1 ∙ i.0), ap (rest_after_all ws) b.1 ∙ i.1)

-- ---- a duration

module _ (s : ℕ) (t : List ℕ) (h : s < 4_294_967_296) (e : ends_duration t ≡ true) where
  pub duration_value : (duration_at 0 (lasting s ++ t)).value ≡ s
  duration_value = ap (λ (x : Quantity). x.value) (read_duration s 0 t h e)

  pub after_duration : drop (duration_at 0 (lasting s ++ t)).end (lasting s ++ t) ≡ t
  after_duration =
      drop_at (lasting s) t (duration_at 0 (lasting s ++ t)).end
      (sym (ap (λ (x : Quantity). x.end) (read_duration s 0 t h e) ∙ zero-add (length (lasting s))))
