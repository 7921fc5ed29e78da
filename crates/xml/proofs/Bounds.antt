-- Where the answers lie: inside the document, and after the offset from which they were looked for.
use mathlib.Core.Path.{◌≡◌, refl, subst}
use mathlib.Core.Bool.{false}
use mathlib.Core.List.{List}
use Prim.Native.Nat.{ℕ, ◌+◌, ◌-◌, ◌≤◌, ◌<◌, zero-le}
use native.Mathlib.Omega.{arith}
use lib.Dec.{leb}
use lib.ListN.{length, drop}
use Rattle.text.specs.Ascii.{ascii}
use Rattle.text.specs.Bytes.{led_by}
use Rattle.text.specs.Parts.{starts_with}
use Rattle.text.specs.Logic.{by_test, cond_cases, clash}
use Rattle.std.specs.Prelude.{Result, Ok, Err}
use Rattle.xml.specs.declared.ContentError.{ContentError}
use Rattle.xml.specs.declared.ContentError.TheVariants as content
use Rattle.xml.specs.declared.PrologError.{PrologError}
use Rattle.xml.specs.Bytes.{is_control}
use Rattle.xml.specs.Comments as comments
use Rattle.xml.specs.Texts as texts
use Rattle.xml.specs.Opening as opening
use Rattle.text.proofs.Parts.{starts_le}
use Rattle.xml.proofs.Searches.{ends_with, ends_within, no_fault, faults_within}

-- ---- comments and texts

pub comment_within : (l : List ℕ) (at next : ℕ) → comments.comment l at ≡ Ok next → (at < next) × (next ≤ length l)
unfolding comments.comment
comment_within l at next e = go (comments.comment_text l at) refl e
  where
    go : (c : Result ℕ ContentError) → comments.comment_text l at ≡ c → comments.comment_of c ≡ Ok next → (at < next) × (next ≤ length l)
    go (Ok k) q r = let n : k + 3 ≡ next = cc in omega (arith, ends_with (ascii "-->") comments.is_fault l at k (omega arith) q)
    go (Err (content.Fault p)) q r = clash (cc)
    go (Err content.Unended) q r = clash (cc)

module _ (l : List ℕ) (at e : ℕ) where
  pub clean_within : texts.content l at ≡ Ok e → (at ≤ e) × (e < length l)
  unfolding texts.content
  clean_within q = let w = ends_within (starts_with (ascii "<")) texts.is_fault l at e q in (w.0, w.1)

  -- a text without a fault has none at any of its offsets
  pub clean_at : texts.content l at ≡ Ok e → (i : ℕ) → at ≤ i → i < e → texts.is_fault (drop i l) ≡ false
  unfolding texts.content
  clean_at q = no_fault (starts_with (ascii "<")) texts.is_fault l at e q

  pub fault_within : texts.content l at ≡ Err (content.Fault e) → (at ≤ e) × (e < length l)
  unfolding texts.content
  fault_within q = faults_within (starts_with (ascii "<")) texts.is_fault l at e q

-- ---- the opening

-- what stands before the first construct, or its fault, lies inside the document
abbrev PrologIn : List ℕ → Result ℕ PrologError → Type 0
PrologIn l (Ok p) = p ≤ length l
PrologIn l (Err e) = e.offset ≤ length l

declared_in : (l : List ℕ) (at : ℕ) → at ≤ length l → PrologIn l (opening.declaration l at)
unfolding opening.declaration
declared_in l at h = go (opening.declaration_text l (at + 6)) refl
  where
    go : (c : Result ℕ ContentError) → opening.declaration_text l (at + 6) ≡ c → PrologIn l (opening.declaration_of l at c)
    go (Ok e) q =
        cond_cases (PrologIn l) (leb (e + 2 - at) 128) _ _ (λ t. (ends_with (ascii "?>") (led_by is_control) l (at + 6) e (omega arith) q).1) (λ t. h)
    go (Err (content.Fault p)) q = h
    go (Err content.Unended) q = omega arith

bom_in : (l : List ℕ) → opening.after_bom l ≤ length l
bom_in l = by_test (starts_with opening.bom l) (λ e. rw e (starts_le opening.bom l e)) (λ e. rw e zero-le)

prolog_in : (l : List ℕ) → PrologIn l (opening.prolog l)
unfolding opening.prolog
prolog_in l =
    cond_cases (PrologIn l) (opening.declares (drop (opening.after_bom l) l)) _ _
    (λ e. declared_in l (opening.after_bom l) (bom_in l))
    (λ e. bom_in l)

pub prolog_fault : (l : List ℕ) (e : PrologError) → opening.prolog l ≡ Err e → e.offset ≤ length l
prolog_fault l e q = subst (PrologIn l) q (prolog_in l)
