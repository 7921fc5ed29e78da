-- Reading a duration undoes writing it.
use mathlib.Core.Path.{◌≡◌, refl, sym, ap, ◌∙◌}
use mathlib.Core.Bool.{true, false, not}
use mathlib.Core.List.{List, [], ◌∷◌, ◌++◌, append_assoc}
use Prim.Native.Nat.{ℕ, ◌+◌, ◌*◌, ◌/◌, ◌%◌, ◌≤◌, ◌<◌}
use Prim.Native.Char.{code}
use native.Mathlib.Omega.{arith}
use native.Mathlib.Nat.{zero-mul}
use lib.Dec.{eqb}
use lib.ListN.{length, drop, length-append}
use lib.Seq.{drop_at}
use borrow.Author.Tests.{le-ltb, eqb-true, eqb-false, not-true}
use Rattle.text.specs.Logic.{by_test, and_left, and_right}
use Rattle.words.specs.declared.Quantity.{Quantity}
use Rattle.words.specs.Words.{dictionary, word, spaced, said}
use Rattle.words.specs.Duration.{day, days, hour, hours, minute, minutes, second, seconds, counted, duration_codes, lasting, duration}
use Rattle.words.specs.Reading.{is_letter, letters, word_at, index_in, code_of, kept, nothing, number_at, ends_number, unit_seconds, count_of, unit_word, counts, duration_at, ends_duration}
use Rattle.words.proofs.Steps.{quantity, unit_range, code_of_word, number_stop, counts_on, counts_stop}
use Rattle.words.proofs.Cases.{spaced_one, spaced_cons, spaced_append, counted_none, counted_one, counted_many}
use Rattle.words.proofs.ReadNumber.{word_at_lem, word_letters, spaced_no_letter, ends_end, ends_letter, ends_byte, ends_word, read_said, read_once}

-- ---- what may stand after a duration

-- it may stand after a number
pub ends_number_lem : (l : List ℕ) → ends_duration l ≡ true → ends_number l ≡ true
unfolding ends_duration
ends_number_lem [] e = ends_end
ends_number_lem (b ∷ l) e =
    ends_byte b l
    (not-true (is_letter b) (and_left (not (is_letter b)) (not (eqb b (code " "))) e))
    (not-true (eqb b (code " ")) (and_right (not (is_letter b)) (not (eqb b (code " "))) e))

no_word : (l : List ℕ) → ends_duration l ≡ true → word_at l ≡ []
unfolding ends_duration word_at
no_word [] e = refl
no_word (b ∷ l) e = rw (not-true (eqb b (code " ")) (and_right (not (is_letter b)) (not (eqb b (code " "))) e))

-- no count is read there
no_count : (l : List ℕ) → ends_duration l ≡ true → eqb (unit_seconds (code_of (unit_word l))) 0 ≡ true
unfolding number_at code_of index_in dictionary
no_count l e =
    let w = no_word l e in
    let n = number_stop 0 l nothing (rw w) in
    rw (n, w)

-- ---- one count and its unit

-- a turn at a text that begins with the number n, up to the offset e, and then the word w, whose code is u
count_turn :
    (i s n e u y : ℕ) (l w rest : List ℕ)
    → number_at 0 l ≡ quantity n e → word_at (drop e l) ≡ w → code_of w ≡ u → drop (e + (1 + length w)) l ≡ rest → unit_seconds u ≡ y → eqb y 0 ≡ false
    → counts (length l) i l s ≡ counts (length rest) (i + (e + (1 + length w))) rest (kept (s + n * y))
count_turn i s n e u y l w rest a b c d f z =
    let v : count_of l ≡ n = ap (λ (x : Quantity). x.value) a in
    rw (a, b, c, d, f, v) at (counts_on i l s (rw (a, b, c, f) z))

-- a number and the word of a unit
read_count :
    (n u y i s : ℕ) (rest : List ℕ) → n < 4_294_967_296 → unit_seconds u ≡ y → eqb y 0 ≡ false → letters rest ≡ 0
    → counts (length ((said n ++ spaced (u ∷ [])) ++ rest)) i ((said n ++ spaced (u ∷ [])) ++ rest) s
    ≡ counts (length rest) (i + length (said n ++ spaced (u ∷ []))) rest (kept (s + n * y))
read_count n u y i s rest h p z r =
    let w = code " " ∷ word u in
    let e = 0 + length (said n) in
    let f = unit_range u (rw p z) in
    let c = code_of_word u f.1 in
    let t = word_letters u f.1 in
    let j = append_assoc (said n) w rest in
    let a = read_said n 0 (w ++ rest) h (ends_word (word u) rest t (rw c (le-ltb u 32 f.0)) r) in
    let b = ap word_at (drop_at (said n) (w ++ rest) e (omega arith)) ∙ word_at_lem (word u) rest t r in
    let k = e + (1 + length (word u)) in
    let d = ap (drop k) (sym j) ∙ drop_at (said n ++ w) rest k (simp length-append (omega arith)) in
    rw (spaced_one u, j)
    (count_turn i s n e u y (said n ++ (w ++ rest)) (word u) rest a b c d p z
    ∙ ap (λ (m : ℕ). counts (length rest) (i + m) rest (kept (s + n * y))) (simp length-append (omega arith)))

-- a count and its unit of y seconds, or nothing where the count is 0; x: the seconds with it
module _ (one many y : ℕ) (a : unit_seconds one ≡ y) (b : unit_seconds many ≡ y) (z : eqb y 0 ≡ false) where
  read_counted :
      (n i s x : ℕ) (rest : List ℕ) → n < 4_294_967_296 → x < 4_294_967_296 → s + n * y ≡ x → letters rest ≡ 0
      → counts (length (spaced (counted n one many) ++ rest)) i (spaced (counted n one many) ++ rest) s
      ≡ counts (length rest) (i + length (spaced (counted n one many))) rest x
  read_counted n i s x rest h l e r =
      let k : kept (s + n * y) ≡ x = rw e (omega arith) in
      by_test (eqb n 0)
      (λ t.
      let q = eqb-true n 0 t in
      let o : s ≡ x = omega (arith, ap (λ (m : ℕ). m * y) q, zero-mul y) in
      rw (counted_none n one many q, o) (ap (λ (m : ℕ). counts (length rest) m rest x) (omega arith)))
      (λ t.
      by_test (eqb n 1)
      (λ o. rw (counted_one n one many (eqb-true n 1 o), ← k) (read_count n one y i s rest h a z r))
      (λ o. rw (counted_many n one many (eqb-false n 0 t) (eqb-false n 1 o), ← k) (read_count n many y i s rest h b z r)))

-- ---- reading a duration

pub read_duration :
    (s i : ℕ) (rest : List ℕ) → s < 4_294_967_296 → ends_duration rest ≡ true
    → duration_at i (lasting s ++ rest) ≡ record { value = s; end = i + length (lasting s) }
unfolding duration_at lasting duration_codes
read_duration s i rest l e =
    let nd = s / 86_400 in
    let nh = s / 3_600 % 24 in
    let nm = s / 60 % 60 in
    let ns = s % 60 in
    let d = spaced (counted nd day days) in
    let h = spaced (counted nh hour hours) in
    let m = spaced (counted nm minute minutes) in
    let x = spaced (counted ns second seconds) in
    let y = s / 3_600 * 3_600 in
    let id = i + length d in
    let ih = id + length h in
    let im = ih + length m in
    let r = ends_letter rest (ends_number_lem rest e) in
    let rx = spaced_no_letter (counted ns second seconds) rest r in
    let rm = spaced_no_letter (counted nm minute minutes) (x ++ rest) rx in
    let rh = spaced_no_letter (counted nh hour hours) (m ++ (x ++ rest)) rm in
    simp (spaced_append, append_assoc)
    (read_counted day days 86_400 refl refl refl nd i 0 (nd * 86_400) (h ++ (m ++ (x ++ rest))) (omega arith) (omega arith) (omega arith) rh
    ∙ read_counted hour hours 3_600 refl refl refl nh id (nd * 86_400) y (m ++ (x ++ rest)) (omega arith) (omega arith) (omega arith) rm
    ∙ read_counted minute minutes 60 refl refl refl nm ih y (s / 60 * 60) (x ++ rest) (omega arith) (omega arith) (omega arith) rx
    ∙ read_counted second seconds 1 refl refl refl ns im (s / 60 * 60) s rest (omega arith) (omega arith) (omega arith) r
    ∙ counts_stop (im + length x) rest s (no_count rest e)
    ∙ ap (quantity s) (simp length-append (omega arith)))

-- a lasting time
pub read_lasting :
    (s i : ℕ) (rest : List ℕ) → 1 ≤ s → s ≤ 31_536_000 → ends_duration rest ≡ true
    → duration_at i (lasting s ++ rest) ≡ record { value = s; end = i + length (lasting s) }
read_lasting s i rest a b e = read_duration s i rest (omega arith) e

-- ---- one text, one duration

pub lasting_injective :
    (s t : ℕ) (rest rest' : List ℕ) → s < 4_294_967_296 → t < 4_294_967_296 → ends_duration rest ≡ true → ends_duration rest' ≡ true
    → lasting s ++ rest ≡ lasting t ++ rest' → (s ≡ t) × (rest ≡ rest')
lasting_injective s t rest rest' hs ht e e' =
    read_once lasting (duration_at 0) s t rest rest' (read_duration s 0 rest hs e) (read_duration t 0 rest' ht e')

-- ---- a duration has a word

no_codes : (s : ℕ) → 1 ≤ s → s < 4_294_967_296 → duration_codes s ≡ [] → ⊥
unfolding lasting spaced ends_duration duration_at counts
no_codes s a l e =
    let z : 0 ≡ s = ap (λ (x : Quantity). x.value) (rw e at (read_duration s 0 [] l refl)) in
    omega arith

pub lasting_cons : (s : ℕ) → 1 ≤ s → s < 4_294_967_296 → lasting s ≡ code " " ∷ duration s
unfolding lasting duration
lasting_cons s a l = spaced_cons (duration_codes s) (λ e. no_codes s a l e)

pub duration_injective : (s t : ℕ) → 1 ≤ s → s < 4_294_967_296 → 1 ≤ t → t < 4_294_967_296 → duration s ≡ duration t → s ≡ t
unfolding ends_duration
duration_injective s t a hs b ht q =
    let c = lasting_cons s a hs ∙ ap (λ (l : List ℕ). code " " ∷ l) q ∙ sym (lasting_cons t b ht) in
    (lasting_injective s t [] [] hs ht refl refl (ap (λ (l : List ℕ). l ++ []) c)).0
