-- Where the texts of a sheet stand in an accepted document: each is the one text of its class, and the sender and the identifier are names.
use mathlib.Core.Path.{◌≡◌, refl, sym, ap, subst, ◌∙◌}
use mathlib.Core.Bool.{Bool, true, false, not, ◌&&◌, ◌||◌, false≢true}
use mathlib.Core.List.{List, [], ◌∷◌}
use Prim.Native.Nat.{ℕ, zero, suc, ◌+◌, ◌-◌, ◌≤◌, ◌<◌}
use Prim.Native.Char.{code}
use native.Mathlib.Omega.{arith}
use borrow.Author.Tests.{eqb-true, eqb-false, le-leb}
use lib.Dec.{eqb}
use lib.ListN.{length, take, drop}
use lib.Seq.{drop-drop}
use Rattle.text.specs.Ascii.{ascii}
use Rattle.text.specs.Logic.{by_test, cond_cases, and_left, and_right}
use Rattle.text.specs.Parts.{starts_with, part}
use Rattle.text.specs.Answers.{gives}
use Rattle.xml.specs.Bytes.{is_control}
use Rattle.xml.specs.Texts.{is_reference, is_fault}
use Rattle.sheet.specs.declared.Span.{Span}
use Rattle.sheet.specs.Sheet.{holds_cdata_end, is_name}
use Rattle.sheet.specs.Reading.{span_in}
use Rattle.schema.specs.Classes as class
use Rattle.rules.specs.Texts.{name_rule, text_rule}
use Rattle.rules.proofs.Kept.{name_kept, identifier_rule, sender_rule}
use Rattle.document.specs.Elements.{Element, opened, text, closed, is_start, fold}
use Rattle.document.specs.Documents.{document_of}
use Rattle.document.proofs.Accepted.{Every}
use Rattle.document.proofs.Sound.{Ruled, all_ruled, Shown, all_shown, Clean, all_hold, whole_shown, whole_clean}
use Rattle.parts.specs.Elements.{within, alert_of, part_of, span_of, later, nowhere, text_span}
use Rattle.drawn.proofs.Standing.{many, alert_once}

-- ---- no "]]>" in a text without a fault

-- what leads the front of a text leads the text
starts_take : (p : List ℕ) (n : ℕ) (m : List ℕ) → starts_with p (take n m) ≡ true → starts_with p m ≡ true
unfolding starts_with
starts_take [] n m e = refl
starts_take (a ∷ p) zero m e = absurd (false≢true e)
starts_take (a ∷ p) (suc n) [] e = e
starts_take (a ∷ p) (suc n) (b ∷ m) e =
    rw (and_left (eqb b a) (starts_with p (take n m)) e) (starts_take p n m (and_right (eqb b a) (starts_with p (take n m)) e))

or_right : (a b : Bool) → a || b ≡ false → b ≡ false
or_right true b e = absurd (false≢true (sym e))
or_right false b e = e

-- "]]>" is such a fault
fault_none : (b : ℕ) (m : List ℕ) → is_fault (b ∷ m) ≡ false → starts_with (ascii "]]>") (b ∷ m) ≡ false
unfolding is_fault
fault_none b m e = or_right (is_control b || (eqb b (code "&") && not (is_reference (b ∷ m)))) (starts_with (ascii "]]>") (b ∷ m)) e

-- the front of a text, at none of whose offsets a fault stands
no_end : (n : ℕ) (m : List ℕ) → ((i : ℕ) → i < n → is_fault (drop i m) ≡ false) → holds_cdata_end (take n m) ≡ false
unfolding holds_cdata_end
no_end zero m h = refl
no_end (suc n) [] h = refl
no_end (suc n) (b ∷ m) h =
    by_test (starts_with (ascii "]]>") (b ∷ take n m))
    (λ e. absurd (false≢true (sym (fault_none b m (h 0 (omega arith))) ∙ starts_take (ascii "]]>") (suc n) (b ∷ m) e)))
    (λ e. rw e (no_end n m (λ i g. h (suc i) (omega arith))))

-- ---- texts of a class among elements

-- what holds of the offset and the bytes of each text of the class c
abbrev pub Text : ℕ → (ℕ → List ℕ → Type 0) → Element → Type 0
Text c P (opened d p) = Prim.Unit
Text c P (text d p t) = d ≡ c → P p t
Text c P (closed d) = Prim.Unit

-- what holds of every element holds of those of a part
pub within_every : (P : Element → Type 0) (k n : ℕ) (es : List Element) → Every P es → Every P (within k n es)
unfolding within
within_every P k n [] g = tt
within_every P k n (x ∷ es) g =
    cond_cases (Every P) (is_start class.info x) _ _ (λ e. within_every P (k + 1) n es g.1) λ e.
    cond_cases (Every P) (eqb k n) _ _ (λ t. (g.0, within_every P k n es g.1)) (λ t. within_every P k n es g.1)

pub every_both : {P Q R : Element → Type 0} → ((x : Element) → P x → Q x → R x) → (es : List Element) → Every P es → Every Q es → Every R es
every_both f [] g h = tt
every_both f (x ∷ es) g h = (f x g.0 h.0, every_both f es g.1 h.1)

module _ (c : ℕ) where
  -- where no text of the class stands
  none_later : (s : Span) (es : List Element) → many c es ≡ 0 → fold (later c) s es ≡ s
  unfolding fold many
  none_later s [] h = refl
  none_later s (opened d p ∷ es) h = none_later s es (omega arith)
  none_later s (text d p t ∷ es) h =
      by_test (eqb d c) (λ e. absurd (omega (arith, rw e at h))) (λ e. rw e (none_later s es (omega (arith, rw e at h))))
  none_later s (closed d ∷ es) h = none_later s es (omega arith)

  none_any : (P : ℕ → List ℕ → Type 0) (es : List Element) → many c es ≡ 0 → Every (Text c P) es
  unfolding many
  none_any P [] h = tt
  none_any P (opened d p ∷ es) h = (tt, none_any P es (omega arith))
  none_any P (text d p t ∷ es) h =
      by_test (eqb d c)
      (λ e. absurd (omega (arith, rw e at h)))
      (λ e. (λ q. absurd (eqb-false d c e q), none_any P es (omega (arith, rw e at h))))
  none_any P (closed d ∷ es) h = (tt, none_any P es (omega arith))

  -- where one stands at most, it is where the class's text is looked for
  pub one_there : (s r : Span) (es : List Element) → fold (later c) s es ≡ r → many c es ≤ 1 → Every (Text c (λ p t. r ≡ span_of p t)) es
  unfolding fold many
  one_there s r [] q h = tt
  one_there s r (opened d p ∷ es) q h = (tt, one_there s r es q (omega arith))
  one_there s r (text d p t ∷ es) q h =
      by_test (eqb d c)
      (λ e.
      let z : many c es ≡ 0 = omega (arith, rw e at h) in
      (λ g. sym (rw e at q) ∙ none_later (span_of p t) es z, none_any (λ p t. r ≡ span_of p t) es z))
      (λ e. (λ g. absurd (eqb-false d c e g), one_there s r es (rw e at q) (omega (arith, rw e at h))))
  one_there s r (closed d ∷ es) q h = (tt, one_there s r es q (omega arith))

  -- what holds of each such text holds of the last one, where there is one
  module _ (Q : Span → Type 0) where
    last_good : (s : Span) (es : List Element) → Q s → Every (Text c (λ p t. Q (span_of p t))) es → Q (fold (later c) s es)
    unfolding fold
    last_good s [] h g = h
    last_good s (opened d p ∷ es) h g = last_good s es h g.1
    last_good s (text d p t ∷ es) h g =
        last_good (later c s (text d p t)) es (cond_cases Q (eqb d c) _ _ (λ e. g.0 (eqb-true d c e)) (λ e. h)) g.1
    last_good s (closed d ∷ es) h g = last_good s es h g.1

    pub some_good : (s : Span) (es : List Element) → 1 ≤ many c es → Every (Text c (λ p t. Q (span_of p t))) es → Q (fold (later c) s es)
    unfolding fold many
    some_good s [] h g = absurd (omega arith)
    some_good s (opened d p ∷ es) h g = some_good s es (omega arith) g.1
    some_good s (text d p t ∷ es) h g =
        by_test (eqb d c)
        (λ e. rw e (last_good (span_of p t) es (g.0 (eqb-true d c e)) g.1))
        (λ e. rw e (some_good s es (omega (arith, rw e at h)) g.1))
    some_good s (closed d ∷ es) h g = some_good s es (omega arith) g.1

-- ---- the text of a class in the n-th part of an accepted document

-- a text stands in the document where its offset and length say
shown_text_lem : (l : List ℕ) (p : ℕ) (t : List ℕ) → t ≡ part l p (p + length t) → span_in l (span_of p t) ≡ t
shown_text_lem l p t e = let w : p + length t - p ≡ length t = omega arith in sym (rw w at e)

module _ (l : List ℕ) (es : List Element) (d : document_of l ≡ gives es) (n c : ℕ) where
  abbrev pub said : List ℕ
  said = span_in l (text_span (part_of n es) c)

  -- what holds of the text that is looked for holds of the text that stands there
  pub said_is : many c (part_of n es) ≤ 1 → (P : List ℕ → Type 0) → P said → Every (Text c (λ p t. P t)) (part_of n es)
  said_is m P h =
      every_both is (part_of n es) (one_there c nowhere (text_span (part_of n es) c) (part_of n es) refl m) (within_every (Shown l) 0 n es (all_shown l es d))
    where
      is : (x : Element) → Text c (λ p t. text_span (part_of n es) c ≡ span_of p t) x → Shown l x → Text c (λ p t. P t) x
      is (opened b p) g s = tt
      is (text b p t) g s = λ q. subst P (ap (span_in l) (g q) ∙ shown_text_lem l p t s.0) h
      is (closed b) g s = tt

  -- it keeps to its rule, where there is one
  pub said_ruled : 1 ≤ many c (part_of n es) → text_rule c said ≡ 0
  said_ruled m =
      some_good c (λ (s : Span). text_rule c (span_in l s) ≡ 0) nowhere (part_of n es) m
      (every_both is (part_of n es) (within_every Ruled 0 n es (all_ruled l es d)) (within_every (Shown l) 0 n es (all_shown l es d)))
    where
      is : (x : Element) → Ruled x → Shown l x → Text c (λ p t. text_rule c (span_in l (span_of p t)) ≡ 0) x
      is (opened b p) r s = tt
      is (text b p t) r s = λ q. ap (text_rule c) (shown_text_lem l p t s.0) ∙ rw q at r
      is (closed b) r s = tt

  -- where there is none, it is empty
  pub said_none : many c (part_of n es) ≡ 0 → said ≡ []
  said_none m = rw (none_later c nowhere (part_of n es) m)

-- ---- where a name stands

-- a part of the document that is a name
pub record NameIn (l : List ℕ) (s : Span) : Type 0 where
  pub inside : s.start + s.len ≤ length l
  pub right : is_name (span_in l s) ≡ true

module _ (l : List ℕ) (es : List Element) (doc : document_of l ≡ gives es) (c : ℕ) (rule : (t : List ℕ) → text_rule c t ≡ name_rule t) where
  -- a text that keeps its rule, stands in the document and has no fault is one
  text_good : (d p : ℕ) (t : List ℕ) → Ruled (text d p t) → Shown l (text d p t) → Clean l (text d p t) → d ≡ c → NameIn l (span_of p t)
  unfolding is_name
  text_good d p t r s f e =
      let k = name_kept t (sym (rule t) ∙ rw e at r) in
      let z = shown_text_lem l p t s.0 in
      let g : holds_cdata_end (span_in l (span_of p t)) ≡ false =
      no_end (length t) (drop p l) (λ i h. ap is_fault (drop-drop i p l) ∙ f (p + i) (omega arith) (omega arith)) in
      record {
        inside = s.1;
        right = rw (g, z, le-leb 1 (length t) k.0, le-leb (length t) 128 k.1.0, k.1.1);
      }

  name_there : many c (alert_of es) ≡ 1 → NameIn l (text_span (alert_of es) c)
  name_there m =
      some_good c (NameIn l) nowhere (alert_of es) (omega arith)
      (within_every (Text c (λ p t. NameIn l (span_of p t))) 0 0 es
      (all_hold l (Text c (λ p t. NameIn l (span_of p t))) (λ d p h. tt)
      (λ d from until w. text_good d from (part l from until) w.rule (whole_shown l d from until w) (whole_clean l d from until w)) (λ d. tt)
      es doc))

module _ (l : List ℕ) (es : List Element) (d : document_of l ≡ gives es) where
  -- the identifier
  pub name_in : NameIn l (text_span (alert_of es) class.identifier)
  name_in = name_there l es d class.identifier identifier_rule (alert_once l es d).identifier

  -- the sender
  pub sender_in_lem : NameIn l (text_span (alert_of es) class.sender)
  sender_in_lem = name_there l es d class.sender sender_rule (alert_once l es d).sender
