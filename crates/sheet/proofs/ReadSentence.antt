-- Reading a sentence undoes writing it, wherever it stands in a text.
use mathlib.Core.Path.{◌≡◌, refl, sym, ap, ap₂, ◌∙◌}
use mathlib.Core.Bool.{true, false}
use mathlib.Core.List.{List, [], ◌++◌, append-nil}
use Prim.Native.Nat.{ℕ, ◌+◌, ◌-◌, ◌≤◌}
use native.Mathlib.Omega.{arith}
use lib.Dec.{leb}
use lib.ListN.{length, take, drop, length-drop, drop_of_length-le}
use lib.Seq.{drop-drop}
use borrow.Author.Tests.{leb-true, leb-false}
use Rattle.text.specs.Ascii.{ascii}
use Rattle.text.specs.Logic.{by_test}
use Rattle.sheet.specs.declared.CapFacts.{CapFacts}
use Rattle.sheet.specs.declared.WarnFacts.{WarnFacts}
use Rattle.text.specs.Parts.{starts_with}
use Rattle.words.specs.Reading.{number_at, duration_at}
use Rattle.sheet.specs.Sheet.{Sheet, cap, warn, in_range}
use Rattle.sheet.specs.Sentence.{plain, cap_text, warn_text, sentence_in, sentence}
use Rattle.sheet.specs.Reading.{word_length, word_of, after_word, rest_after, rest_after_all, from_period, from_hazard, from_message, from_status, from_scope, from_sender, from_name, cap_of, warn_of, found_at, sheet_in, sheet_of}
use Rattle.sheet.proofs.Limits.{cap_range, warn_range}
use Rattle.sheet.proofs.ReadCap.{cap_read}
use Rattle.sheet.proofs.ReadWarn.{warn_read}

-- ---- where the sender and the name stand

-- the rest of a text, by its offset
pub record Rest (rest l : List ℕ) : Type 0 where
  pub from : ℕ
  pub is : rest ≡ drop from l

pub rest_drop : (k : ℕ) (rest l : List ℕ) → Rest rest l → Rest (drop k rest) l
rest_drop k rest l r = record { from = r.from + k; is = ap (drop k) r.is ∙ drop-drop k r.from l }

pub rest_le : (rest l : List ℕ) → Rest rest l → length rest ≤ length l
rest_le rest l r = omega (arith, ap length r.is ∙ length-drop r.from l)

pub rest_offset : (rest l : List ℕ) → Rest rest l → drop (length l - length rest) l ≡ rest
rest_offset rest l r =
    by_test (leb r.from (length l))
    (λ e. let k = ap length r.is ∙ length-drop r.from l in let z : length l - length rest ≡ r.from = omega (arith, leb-true r.from (length l) e) in
    rw z (sym r.is))
    (λ e.
    let h = leb-false r.from (length l) e in
    let n : rest ≡ [] = r.is ∙ drop_of_length-le l {i = r.from} (omega arith) in
    rw n (drop_of_length-le l {i = length l - 0} (omega arith)))

module _ (l : List ℕ) where
  after_rest : (k : ℕ) (a : List ℕ) → Rest a l → Rest (after_word k a) l
  unfolding after_word
  after_rest k a r = rest_drop k (drop (word_length a) a) l (rest_drop (word_length a) a l r)

  pub sender_rest : Rest (from_sender l) l
  unfolding from_status from_scope from_sender
  sender_rest = after_rest 7 (from_scope l) (after_rest 2 (from_status l) (after_rest 2 (from_message l) (record { from = 4; is = refl })))

  pub name_rest : Rest (from_name l) l
  unfolding from_name
  name_rest = after_rest 7 (from_sender l) sender_rest

  number_rest : (k : ℕ) (a : List ℕ) → Rest a l → Rest (rest_after k a) l
  unfolding rest_after
  number_rest k a r = rest_drop (number_at 0 (drop k a)).end (drop k a) l (rest_drop k a l r)

  pub hazard_rest : Rest (from_hazard l) l
  unfolding from_hazard from_period rest_after_all
  hazard_rest =
      rest_drop (duration_at 0 (from_period l)).end (from_period l) l
      (rest_drop 7 _ l (number_rest 8 _ (number_rest 8 _ (number_rest 7 l (record { from = 0; is = refl })))))

-- ---- what is found, by the kind of its sheet

module _ (i : ℕ) (t : List ℕ) where
  -- a word that stands k bytes after the offset i
  span_at_lem : (k : ℕ) (a : List ℕ) → drop k (drop i t) ≡ a → take (word_length a) (drop (i + k) t) ≡ word_of a
  unfolding word_of
  span_at_lem k a e = ap (take (word_length a)) (sym (drop-drop k i t) ∙ e)

  -- at any offset of a text
  pub found_warn : starts_with (ascii "warn") (drop i t) ≡ true → sheet_in t (found_at i (drop i t)) ≡ warn (warn_of (drop i t))
  unfolding found_at sheet_in
  found_warn e = rw e

  pub found_cap :
      starts_with (ascii "warn") (drop i t) ≡ false
      → sheet_in t (found_at i (drop i t)) ≡ cap (cap_of (drop i t)) (word_of (from_sender (drop i t))) (word_of (from_name (drop i t)))
  unfolding found_at sheet_in
  found_cap e =
      let l = drop i t in
      rw e
      (ap₂ (cap (cap_of l)) (span_at_lem (length l - length (from_sender l)) (from_sender l) (rest_offset (from_sender l) l (sender_rest l)))
      (span_at_lem (length l - length (from_name l)) (from_name l) (rest_offset (from_name l) l (name_rest l))))

-- from the start of a text
pub sheet_warn : (l : List ℕ) → starts_with (ascii "warn") l ≡ true → sheet_of l ≡ warn (warn_of l)
unfolding sheet_of
sheet_warn l e = found_warn 0 l e

pub sheet_cap : (l : List ℕ) → starts_with (ascii "warn") l ≡ false → sheet_of l ≡ cap (cap_of l) (word_of (from_sender l)) (word_of (from_name l))
unfolding sheet_of
sheet_cap l e = found_cap 0 l e

-- what stands at an offset of a text is the sheet of the text from there on
pub found_at_lem : (i : ℕ) (t : List ℕ) → sheet_in t (found_at i (drop i t)) ≡ sheet_of (drop i t)
found_at_lem i t =
    let l = drop i t in
    by_test (starts_with (ascii "warn") l)
    (λ e. found_warn i t e ∙ sym (sheet_warn l e))
    (λ e. found_cap i t e ∙ sym (sheet_cap l e))

-- ---- reading undoes writing

cap_starts : (f : CapFacts) (sender name rest : List ℕ) → starts_with (ascii "warn") (cap_text plain f sender name ++ rest) ≡ false
unfolding starts_with cap_text
cap_starts f sender name rest = refl

warn_starts : (x : WarnFacts) (rest : List ℕ) → starts_with (ascii "warn") (warn_text plain x ++ rest) ≡ true
unfolding starts_with warn_text
warn_starts x rest = refl

pub sheet_of_sentence : (x : Sheet) (rest : List ℕ) → in_range x ≡ true → sheet_of (sentence x ++ rest) ≡ x
unfolding sentence sentence_in
sheet_of_sentence (cap f sender name) rest h =
    let r = cap_read f sender name rest (cap_range f sender name h) in
    sheet_cap (cap_text plain f sender name ++ rest) (cap_starts f sender name rest)
    ∙ (λ i. cap (r.facts i) (r.from i) (r.called i))
sheet_of_sentence (warn x) rest h =
    sheet_warn (warn_text plain x ++ rest) (warn_starts x rest) ∙ ap warn (warn_read x rest (warn_range x h))

-- a sentence by itself
pub sheet_of_whole : (x : Sheet) → in_range x ≡ true → sheet_of (sentence x) ≡ x
sheet_of_whole x h = ap sheet_of (sym (append-nil (sentence x))) ∙ sheet_of_sentence x [] h
