-- The numbers with which a sheet and the answers about a place are refused: the document's own, then 21 and 7, or 21 and 6; none is 0.
use mathlib.Core.Path.{◌≡◌, refl, subst}
use mathlib.Core.Bool.{cond, ◌&&◌, ◌||◌}
use mathlib.Core.List.{List, ◌∷◌}
use mathlib.Core.Logic.{inl, inr}
use Prim.Native.Nat.{ℕ}
use lib.Dec.{eqb, leb}
use types.Run.{OneOf}
use lib.IntN.{ℤ, nat_abs, ◌-ℤ◌}
use Rattle.std.specs.Prelude.{Some}
use Rattle.text.specs.Answers.{Answer, gives, refuses, answer_and_then, giving}
use Rattle.text.specs.Logic.{cond_cases}
use Rattle.time.specs.Time.{time_of}
use Rattle.sheet.specs.declared.Span.{Span}
use Rattle.sheet.specs.Reading.{span_in}
use Rattle.coordinates.specs.declared.Place.{Place}
use Rattle.coordinates.specs.Place.{in_range}
use Rattle.schema.specs.Classes as class
use Rattle.document.specs.Elements.{Element, total}
use Rattle.document.specs.Documents.{document_of}
use Rattle.document.proofs.Numbers.{document_numbers}
use Rattle.document.proofs.Accepted.{refusal_numbers}
use Rattle.parts.specs.Elements.{alert_of, part_of, look_up, text_span}
use Rattle.parts.specs.Sheets.{start_of, between, lasts_from, lasts_of, sheet_with, parts_of, sheet_of_part, cap_sheet}
use Rattle.parts.specs.Areas.{areas_of}
use Rattle.parts.specs.Places.{side_of, any_shape, any_holds, asked_about, cap_place}
use Rattle.parts.specs.Reasons.{reason_in, cap_why}

-- the number is in the list, where an answer is refused
abbrev Refused : {A : Type 0} → List ℕ → Answer A → Type 0
Refused ks (gives x) = Prim.Unit
Refused ks (refuses k q) = OneOf ks k

-- "Drawing a sheet, after its packet's or document's own: 21, 7"
abbrev pub sheet_numbers : List ℕ
sheet_numbers = 21 ∷ 7 ∷ document_numbers

-- "Asking about a place, likewise: 21, 6"
abbrev pub place_numbers : List ℕ
place_numbers = 21 ∷ 6 ∷ document_numbers

giving_refused : {A B : Type 0} (ks : List ℕ) (f : A → B) (r : Answer A) → Refused ks r → Refused ks (giving f r)
giving_refused ks f (gives x) h = tt
giving_refused ks f (refuses k q) h = h

then_refused : {A B : Type 0} (ks : List ℕ) (r : Answer A) (f : A → Answer B) → Refused ks r → ((x : A) → Refused ks (f x)) → Refused ks (answer_and_then r f)
then_refused ks (gives x) f h g = g x
then_refused ks (refuses k q) f h g = h

-- a document's refusal, then what its elements lead to
document_refused :
    {B : Type 0} (ks : List ℕ) → ((k : ℕ) → OneOf document_numbers k → OneOf ks k) → (l : List ℕ) (f : List Element → Answer B)
    → ((es : List Element) → Refused ks (f es)) → Refused ks (answer_and_then (document_of l) f)
document_refused ks own l f = then_refused ks (document_of l) f (go (document_of l) refl)
  where
    go : (v : Answer (List Element)) → document_of l ≡ v → Refused ks v
    go (gives es) e = tt
    go (refuses k q) e = own k (refusal_numbers l k q e)

lookup_refused : (ks : List ℕ) → OneOf ks 21 → (n t : ℕ) → Refused ks (look_up n t)
unfolding look_up
lookup_refused ks h n t =
    cond_cases (Refused ks) ((eqb n 0 && eqb t 0) || (leb 1 n && leb n t)) (gives n) (refuses 21 0) (λ e. tt) (λ e. h)

lasts_refused : (start expires : Answer ℤ) → Refused sheet_numbers (lasts_from start expires)
lasts_refused start (refuses n p) = tt
lasts_refused (refuses n p) (gives e) = inr (inl refl)
lasts_refused (gives s) (gives e) =
    cond_cases (Refused sheet_numbers) (between (e -ℤ s)) (gives (Some (nat_abs (e -ℤ s)))) (refuses 7 0) (λ b. tt) (λ b. inr (inl refl))

parts_refused : (l : List ℕ) (t : ℕ) (alert part : ℕ → Span) (k : ℕ) → Refused sheet_numbers (parts_of l t alert part k)
unfolding lasts_of
parts_refused l t alert part k =
    cond_cases (Refused sheet_numbers) (eqb k 0) _ _ (λ e. tt)
    (λ e.
    giving_refused sheet_numbers _ (lasts_of l alert part)
    (lasts_refused (start_of (time_of (span_in l (part class.effective))) (time_of (span_in l (alert class.sent)))) (time_of (span_in l (part class.expires)))))

-- ---- the answers

module _ (n : ℕ) (l : List ℕ) where
  pub sheet_numbers_lem : (k q : ℕ) → cap_sheet n l ≡ refuses k q → OneOf sheet_numbers k
  unfolding cap_sheet
  sheet_numbers_lem k q e =
      subst (Refused sheet_numbers) e
      (document_refused sheet_numbers (λ k t. inr (inr t)) l
      (λ es. sheet_of_part l n (total es) (text_span (alert_of es)) (text_span (part_of n es))) part)
    where
      part : (es : List Element) → Refused sheet_numbers (sheet_of_part l n (total es) (text_span (alert_of es)) (text_span (part_of n es)))
      part es =
          let ps = parts_of l (total es) (text_span (alert_of es)) (text_span (part_of n es)) in
          giving_refused sheet_numbers (sheet_with l (text_span (alert_of es))) (answer_and_then (look_up n (total es)) ps)
          (then_refused sheet_numbers (look_up n (total es)) ps (lookup_refused sheet_numbers (inl refl) n (total es))
          (parts_refused l (total es) (text_span (alert_of es)) (text_span (part_of n es))))

  -- whatever is asked about a place
  asked_numbers :
      {A : Type 0} (p : Place) (f : List Element → A) (k q : ℕ)
      → answer_and_then (document_of l) (λ es. asked_about p n (total es) (f es)) ≡ refuses k q → OneOf place_numbers k
  asked_numbers p f k q e =
      subst (Refused place_numbers) e (document_refused place_numbers (λ k t. inr (inr t)) l (λ es. asked_about p n (total es) (f es)) part)
    where
      part : (es : List Element) → Refused place_numbers (asked_about p n (total es) (f es))
      part es =
          then_refused place_numbers (look_up n (total es)) (λ (k : ℕ). cond (in_range p) (gives (f es)) (refuses 6 0))
          (lookup_refused place_numbers (inl refl) n (total es))
          (λ k. cond_cases (Refused place_numbers) (in_range p) (gives (f es)) (refuses 6 0) (λ b. tt) (λ b. inr (inl refl)))

  pub place_numbers_lem : (p : Place) (k q : ℕ) → cap_place n p l ≡ refuses k q → OneOf place_numbers k
  unfolding cap_place
  place_numbers_lem p = asked_numbers p (λ es. side_of (any_holds p (part_of n es)) (any_shape (part_of n es)))

  pub why_numbers_lem : (p : Place) (k q : ℕ) → cap_why n p l ≡ refuses k q → OneOf place_numbers k
  unfolding cap_why
  why_numbers_lem p = asked_numbers p (λ es. reason_in p (areas_of (part_of n es)))
