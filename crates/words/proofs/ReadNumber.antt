-- Reading a number undoes writing it.
use mathlib.Core.Path.{◌≡◌, refl, sym, ap, ap₂, ◌∙◌}
use mathlib.Core.Bool.{Bool, true, false, not}
use mathlib.Core.List.{List, [], ◌∷◌, ◌++◌, append_assoc}
use Prim.Native.Nat.{ℕ, suc, ◌+◌, ◌<◌}
use Prim.Native.Char.{code}
use native.Mathlib.Omega.{arith}
use lib.Dec.{eqb}
use lib.ListN.{length, drop, length-append}
use lib.Seq.{take_at, drop_at}
use borrow.Author.Tests.{lt-ltb, eqb-true, not-true}
use Rattle.text.specs.Ascii.{ascii}
use Rattle.text.specs.Logic.{by_test, and_left, and_right, clash, below_at}
use Rattle.words.specs.declared.Groups.{Groups}
use Rattle.words.specs.declared.Quantity.{Quantity}
use Rattle.words.specs.Words.{dictionary, word, spaced, number_codes, said, words}
use Rattle.words.specs.Reading.{is_letter, letters, word_at, index_in, code_of, is_number_word, step, nothing, total, number_words, number_at, ends_number}
use Rattle.words.proofs.Steps.{quantity, code_of_word, number_on, number_stop}
use Rattle.words.proofs.Cases.{spaced_cons, codes_zero}
use Rattle.words.proofs.Value.{steps, total_steps, NumberCodes, number_codes_lem}

-- ---- a word in a text

-- letters, and a text that begins with none
pub letters_append : (w rest : List ℕ) → letters w ≡ length w → letters rest ≡ 0 → letters (w ++ rest) ≡ length w
letters_append [] rest e z = z
letters_append (b ∷ w) rest e z =
    by_test (is_letter b)
    (λ t. rw t (ap suc (letters_append w rest (omega (arith, rw t at e)) z)))
    (λ t. absurd (omega (arith, rw t at e)))

-- a space and a word, and a text that begins with no letter
pub word_at_lem : (w rest : List ℕ) → letters w ≡ length w → letters rest ≡ 0 → word_at (code " " ∷ (w ++ rest)) ≡ w
unfolding word_at
word_at_lem w rest e z = take_at w rest (letters (w ++ rest)) (sym (letters_append w rest e z))

all_letters : ℕ → Bool
unfolding word dictionary
all_letters k = eqb (letters (word k)) (length (word k))

pub word_letters : (k : ℕ) → k < 40 → letters (word k) ≡ length (word k)
unfolding all_letters
word_letters k h = eqb-true (letters (word k)) (length (word k)) (below_at 40 all_letters tt k h)

pub spaced_no_letter : (ws rest : List ℕ) → letters rest ≡ 0 → letters (spaced ws ++ rest) ≡ 0
unfolding spaced
spaced_no_letter [] rest z = z
spaced_no_letter (w ∷ ws) rest z = refl

-- ---- what may stand after a number

pub ends_letter : (l : List ℕ) → ends_number l ≡ true → letters l ≡ 0
unfolding ends_number
ends_letter l e = eqb-true (letters l) 0 (and_left (eqb (letters l) 0) (not (is_number_word (code_of (word_at l)))) e)

ends_word_at : (l : List ℕ) → ends_number l ≡ true → is_number_word (code_of (word_at l)) ≡ false
unfolding ends_number
ends_word_at l e = not-true (is_number_word (code_of (word_at l))) (and_right (eqb (letters l) 0) (not (is_number_word (code_of (word_at l)))) e)

-- nothing
pub ends_end : ends_number [] ≡ true
unfolding ends_number word_at code_of index_in dictionary
ends_end = refl

-- a byte that is neither a letter nor a space
pub ends_byte : (b : ℕ) (l : List ℕ) → is_letter b ≡ false → eqb b (code " ") ≡ false → ends_number (b ∷ l) ≡ true
unfolding ends_number word_at code_of index_in dictionary
ends_byte b l e s = rw (e, s)

pub ends_comma : (l : List ℕ) → ends_number (code "," ∷ l) ≡ true
ends_comma l = ends_byte (code ",") l refl refl

pub ends_stop : (l : List ℕ) → ends_number (code "." ∷ l) ≡ true
ends_stop l = ends_byte (code ".") l refl refl

-- a space and a word that is no number word; a text that begins with no letter stands after it
pub ends_word :
    (w rest : List ℕ) → letters w ≡ length w → is_number_word (code_of w) ≡ false → letters rest ≡ 0
    → ends_number (code " " ∷ (w ++ rest)) ≡ true
unfolding ends_number
ends_word w rest e n z = rw (word_at_lem w rest e z, n)

pub ends_of : (rest : List ℕ) → letters rest ≡ 0 → ends_number (ascii " of" ++ rest) ≡ true
unfolding code_of index_in dictionary
ends_of rest z = ends_word (ascii "of") rest refl refl z

-- ---- reading what is said

-- one word
number_word :
    (i w : ℕ) (rest : List ℕ) (g : Groups) → w < 32 → letters rest ≡ 0
    → number_words (length (code " " ∷ (word w ++ rest))) i (code " " ∷ (word w ++ rest)) g
    ≡ number_words (length rest) (i + (1 + length (word w))) rest (step w g)
number_word i w rest g h z =
    let l = code " " ∷ (word w ++ rest) in
    let v = word_at_lem (word w) rest (word_letters w (omega arith)) z in
    let c = code_of_word w (omega arith) in
    let d : drop (1 + length (word w)) l ≡ rest = drop_at (code " " ∷ word w) rest (1 + length (word w)) (omega arith) in
    rw (v, c, d) at (number_on i l g (rw (v, c) (lt-ltb w 32 h)))

read_spaced :
    (ws : List ℕ) (i : ℕ) (rest : List ℕ) (g : Groups) → NumberCodes ws → ends_number rest ≡ true
    → number_words (length (spaced ws ++ rest)) i (spaced ws ++ rest) g ≡ record { value = total (steps ws g); end = i + length (spaced ws) }
unfolding spaced steps
read_spaced [] i rest g p e = number_stop i rest g (ends_word_at rest e) ∙ ap (quantity (total g)) (omega arith)
read_spaced (w ∷ ws) i rest g p e =
    rw append_assoc
    (number_word i w (spaced ws ++ rest) g p.0 (spaced_no_letter ws rest (ends_letter rest e))
    ∙ read_spaced ws (i + (1 + length (word w))) rest (step w g) p.1 e
    ∙ ap (quantity (total (steps ws (step w g)))) (simp length-append (omega arith)))

pub read_said :
    (n i : ℕ) (rest : List ℕ) → n < 4_294_967_296 → ends_number rest ≡ true
    → number_at i (said n ++ rest) ≡ quantity n (i + length (said n))
unfolding number_at said
read_said n i rest h e =
    read_spaced (number_codes n) i rest nothing (number_codes_lem n h) e
    ∙ ap (λ (x : ℕ). quantity x (i + length (spaced (number_codes n)))) (total_steps n h)

-- ---- one text, one number

-- A reader that reads back what f wrote, in front of each of two rests, tells two texts apart.
pub read_once :
    (f : ℕ → List ℕ) (read : List ℕ → Quantity) (n m : ℕ) (rest rest' : List ℕ)
    → read (f n ++ rest) ≡ quantity n (0 + length (f n))
    → read (f m ++ rest') ≡ quantity m (0 + length (f m))
    → f n ++ rest ≡ f m ++ rest'
    → (n ≡ m) × (rest ≡ rest')
read_once f read n m rest rest' a b q =
    let h = sym a ∙ ap read q ∙ b in (
      ap (λ (x : Quantity). x.value) h,
      sym (drop_at (f n) rest (0 + length (f n)) (omega arith))
          ∙ ap₂ drop (ap (λ (x : Quantity). x.end) h) q
          ∙ drop_at (f m) rest' (0 + length (f m)) (omega arith),
    )

pub said_injective :
    (n m : ℕ) (rest rest' : List ℕ) → n < 4_294_967_296 → m < 4_294_967_296 → ends_number rest ≡ true → ends_number rest' ≡ true
    → said n ++ rest ≡ said m ++ rest' → (n ≡ m) × (rest ≡ rest')
said_injective n m rest rest' hn hm e e' =
    read_once said (number_at 0) n m rest rest' (read_said n 0 rest hn e) (read_said m 0 rest' hm e')

-- ---- a number has a word

no_codes : (n : ℕ) → n < 4_294_967_296 → number_codes n ≡ [] → ⊥
unfolding steps
no_codes n h e =
    let z : 0 ≡ n = rw e at (total_steps n h) in
    clash (sym (ap length e) ∙ ap length (codes_zero n (sym z)))

pub said_cons : (n : ℕ) → n < 4_294_967_296 → said n ≡ code " " ∷ words n
unfolding said words
said_cons n h = spaced_cons (number_codes n) (λ e. no_codes n h e)

pub words_injective : (n m : ℕ) → n < 4_294_967_296 → m < 4_294_967_296 → words n ≡ words m → n ≡ m
words_injective n m hn hm q =
    let s = said_cons n hn ∙ ap (λ (l : List ℕ). code " " ∷ l) q ∙ sym (said_cons m hm) in
    (said_injective n m [] [] hn hm ends_end ends_end (ap (λ (l : List ℕ). l ++ []) s)).0
