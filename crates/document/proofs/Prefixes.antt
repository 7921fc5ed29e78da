-- Names of tags: after the document's prefix, and after their first ":", as the library's functions find them.
use Rattle.std.proofs.Common.{◌≡◌, refl, sym, ap, ◌∙◌, Bool, true, false, cond, ◌&&◌, Option, Some, None, List, [], ◌∷◌, ℕ, ◌+◌, ◌-◌, ◌<◌, ◌≤◌, Bor, length, take, drop, position, arith}
use Rattle.std.proofs.lemmas.List.{take_rest}
use Rattle.std.specs.Option.{MatchOption, unwrap_or}
use Rattle.std.specs.List.{position_or_len}
use lib.Dec.{eqb, ltb}
use mathlib.Core.Bool.{false≢true}
use lib.Pointwise.{pointwise}
use lib.ListN.{drop_of_length-le}
use lib.Seq.{drop-drop}
use native.Mathlib.Nat.{le_of_suc-le-suc}
use borrow.Author.Tests.{not-false, ltb-true, ltb-false}
use Prim.Native.Char.{code}
use Rattle.text.specs.Ascii.{ascii}
use Rattle.text.specs.Logic.{by_test}
use Rattle.text.specs.Parts.{starts_with}
use Rattle.text.proofs.Parts.{starts_append}
use Rattle.text.specs.Bytes.{leading}
use Rattle.document.specs.Tags.{after_prefix, is_before_colon, local_name}

-- ---- after a prefix

-- what std says of a prefix that is stripped
starts_same : (p l : List ℕ) → pointwise eqb (take (length p) l) p ≡ starts_with p l
unfolding starts_with
starts_same [] l = refl
starts_same (a ∷ p) [] = refl
starts_same (a ∷ p) (b ∷ l) = ap (λ (t : Bool). eqb b a && t) (starts_same p l)

-- the name after a prefix of a byte at least, and ":"
under : (p n : List ℕ) → false ≡ eqb (length p) 0 → after_prefix p n ≡ cond (starts_with p n) (cond (starts_with (ascii ":") (drop (length p) n)) (drop 1 (drop (length p) n)) []) []
under [] n h = absurd (false≢true h)
under (b ∷ p) n h =
    rw (← starts_append (b ∷ p) (ascii ":") n)
    (by_test (starts_with (b ∷ p) n) (λ e. rw (e, drop-drop 1 (length (b ∷ p)) n)) (λ e. rw e))

module _ (p n : List ℕ) (some : false ≡ eqb (length p) 0) where
  pub under_other : pointwise eqb (take (length p) n) p ≡ false → [] ≡ after_prefix p n
  under_other e = rw (under p n some, sym (starts_same p n) ∙ e)

  pub under_prefix :
      (rest : List ℕ) → pointwise eqb (take (length p) n) p ≡ true → rest ≡ drop (length p) n
      → (r : Option (Bor (List ℕ))) (d : Bor (List ℕ)) → d.now ≡ []
      → MatchOption r (pointwise eqb (take 1 rest) (ascii ":") ≡ false)
      (λ x. (pointwise eqb (take 1 rest) (ascii ":") ≡ true) × (x.now ≡ drop 1 rest) × (length x.now + 1 ≡ length rest))
      → (unwrap_or r d).now ≡ after_prefix p n
  under_prefix rest e q (Some x) d z h = rw (under p n some, sym (starts_same p n) ∙ e, ← q, sym (starts_same (ascii ":") rest) ∙ h.0) h.1
  under_prefix rest e q None d z h = rw (under p n some, sym (starts_same p n) ∙ e, ← q, sym (starts_same (ascii ":") rest) ∙ h) z

-- ---- after the first ":"

colon_leads : (l : List ℕ) → leading is_before_colon l < length l → starts_with (ascii ":") (drop (leading is_before_colon l) l) ≡ true
unfolding starts_with
colon_leads [] h = absurd (omega arith)
colon_leads (b ∷ l) h =
    by_test (is_before_colon b)
    (λ e. rw e (colon_leads l (le_of_suc-le-suc (rw e at h))))
    (λ e. rw (e, not-false (eqb b (code ":")) e))

-- as many bytes as std counts stand before the first ":"
leading_same : (l : List ℕ) → leading is_before_colon l ≡ position_or_len (λ b. eqb b 58) l
leading_same [] = refl
leading_same (b ∷ l) = by_test (eqb b 58) (λ e. rw e) (λ e. rw e (omega (arith, leading_same l)))

-- where std finds the first ":", or that it finds none
found : (l : List ℕ) (o : Option ℕ) → o ≡ position (λ b. eqb b 58) l → MatchOption o (length l ≤ leading is_before_colon l) (λ i. (i ≡ leading is_before_colon l) × (i < length l))
found l o e =
    let n = position_or_len (λ b. eqb b 58) l in
    by_test (ltb n (length l))
    (λ t. rw (e, t) (sym (leading_same l), ltb-true n (length l) t))
    (λ t. rw (e, t) (omega (arith, leading_same l, ltb-false n (length l) t)))

pub local_after : (l : List ℕ) (i : ℕ) → Some i ≡ position (λ b. eqb b 58) l → take (length l - (i + 1)) (drop (i + 1) l) ≡ local_name l
unfolding local_name
local_after l i e = let h = found l (Some i) e in rw (take_rest l (i + 1), h.0, colon_leads l (rw h.0 at h.1))

pub local_all : (l : List ℕ) → None ≡ position (λ b. eqb b 58) l → l ≡ local_name l
unfolding local_name starts_with
local_all l e = rw (drop_of_length-le l (found l None e))
