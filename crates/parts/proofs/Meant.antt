-- The sheet drawn from what was kept is that of the definitions, and so is the reason for a place; and the answer for a place is what the reason says.
use mathlib.Core.Path.{◌≡◌, refl, ap, ◌∙◌}
use mathlib.Core.Bool.{cond}
use mathlib.Core.List.{List}
use Prim.Native.Nat.{ℕ, ◌+◌, ◌-◌, ◌≤◌, ◌<◌}
use native.Mathlib.Omega.{arith}
use borrow.Author.Tests.{eqb-true, eqb-false, lt-ltb, ne_eqb}
use lib.Dec.{eqb, ltb}
use Rattle.std.specs.Prelude.{Option, Some, None, is_some, Result}
use Rattle.text.specs.Logic.{by_test}
use Rattle.text.specs.Answers.{Answer, gives, refuses, answer_and_then, giving}
use Rattle.coordinates.specs.declared.Place.{Place}
use Rattle.coordinates.specs.Place.{in_range}
use Rattle.sheet.specs.declared.Part.{Part}
use Rattle.sheet.specs.declared.Span.{Span}
use Rattle.sheet.specs.declared.Found.{Found}
use Rattle.schema.specs.Classes as class
use Rattle.document.specs.Elements.{Element, total, fold, gather, answer}
use Rattle.document.specs.Tags.{max_infos}
use Rattle.document.specs.Documents.{document_of}
use Rattle.document.proofs.Schema.{parts_limit}
use Rattle.parts.specs.declared.texts.Facts.{Facts}
use Rattle.parts.specs.declared.areas.Shapes.{Shapes}
use Rattle.parts.specs.declared.ShapeAt.{ShapeAt}
use Rattle.parts.specs.declared.Side as code
use Rattle.parts.specs.declared.Why.{Why}
use Rattle.parts.specs.declared.PlaceError.{PlaceError}
use Rattle.parts.specs.Elements.{alert_of, part_of, look_up, text_span}
use Rattle.parts.specs.Sheets.{lasts_of, part_facts, sheet_with, parts_of, sheet_of_part, cap_sheet}
use Rattle.parts.specs.Areas.{areas_of}
use Rattle.parts.specs.Places.{side_of, any_shape, any_holds, asked_about, cap_place, place_answer, place_answer_by, error_number, error_offset}
use Rattle.parts.specs.Reasons.{Reason, side_by, reason_of, reason_in, cap_why, why_answer, why_answer_by}
use Rattle.parts.specs.Gathering.{kept, alert_span, part_span, noted, no_facts, reading_of, looked, seen, no_shapes, view_of}
use Rattle.parts.proofs.AreaOrder.{between_areas, Placed, part_placed}
use Rattle.parts.proofs.Keeping.{alert_kept, part_kept, seen_part}
use Rattle.parts.proofs.KeptShapes.{kept_first, kept_count, any_counted, any_named}

-- ---- sheets

giving_same : {A B : Type 0} (f g : A → B) → ((x : A) → f x ≡ g x) → (r : Answer A) → giving f r ≡ giving g r
giving_same f g h (gives x) = ap gives (h x)
giving_same f g h (refuses k p) = refl

-- a sheet is drawn from the spans of some classes only
module _ (l : List ℕ) (t : ℕ) (alert part alert' part' : ℕ → Span)
    (alert-is : (c : ℕ) → class.identifier ≤ c → c - class.identifier < kept → alert c ≡ alert' c)
    (part-is : (c : ℕ) → class.urgency ≤ c → c - class.urgency < kept → part c ≡ part' c) where
  lasts_same : lasts_of l alert part ≡ lasts_of l alert' part'
  unfolding lasts_of
  lasts_same =
      rw (
        part-is class.effective (omega arith) (omega arith),
        alert-is class.sent (omega arith) (omega arith),
        part-is class.expires (omega arith) (omega arith),
      )

  part_same : (n : ℕ) (d : Option ℕ) → part_facts l n t part d ≡ part_facts l n t part' d
  part_same n d =
      rw (
        part-is class.urgency (omega arith) (omega arith),
        part-is class.severity (omega arith) (omega arith),
        part-is class.certainty (omega arith) (omega arith),
      )

  with_same : (ps : Option Part) → sheet_with l alert ps ≡ sheet_with l alert' ps
  with_same ps =
      rw (
        alert-is class.msg_type (omega arith) (omega arith),
        alert-is class.status (omega arith) (omega arith),
        alert-is class.scope (omega arith) (omega arith),
        alert-is class.sender (omega arith) (omega arith),
        alert-is class.identifier (omega arith) (omega arith),
      )

  parts_same : (n : ℕ) → parts_of l t alert part n ≡ parts_of l t alert' part' n
  parts_same n =
      by_test (eqb n 0) (λ e. rw e) λ e.
      rw e (giving_same _ _ (λ d. ap Some (part_same n d)) (lasts_of l alert part) ∙ ap (giving _) lasts_same)

  sheet_same : (n : ℕ) → sheet_of_part l n t alert part ≡ sheet_of_part l n t alert' part'
  sheet_same n = go (look_up n t)
    where
      go : (r : Answer ℕ) → giving (sheet_with l alert) (answer_and_then r (parts_of l t alert part)) ≡ giving (sheet_with l alert') (answer_and_then r (parts_of l t alert' part'))
      go (gives k) = giving_same _ _ with_same (parts_of l t alert part k) ∙ ap (giving (sheet_with l alert')) (parts_same k)
      go (refuses k p) = refl

-- the sheet of a part that is there, by how long it lasts
pub sheet_drawn :
    (l : List ℕ) (n t k : ℕ) (alert part : ℕ → Span) (d : Option ℕ) → gives k ≡ look_up n t → (k ≡ 0 → ⊥) → gives d ≡ lasts_of l alert part
    → gives (sheet_with l alert (Some (part_facts l k t part d))) ≡ sheet_of_part l n t alert part
sheet_drawn l n t k alert part d q h e = rw (← q, ne_eqb k 0 h, ← e)

-- what a reading of part n of the document l means for its sheet x
abbrev pub SheetBy : List ℕ → ℕ → Answer Found → Answer (ℕ × Facts) → Type 0
SheetBy l n x (gives r) = (r.0 ≤ max_infos) × (sheet_of_part l n r.0 (alert_span r.1) (part_span r.1) ≡ x)
SheetBy l n x (refuses k p) = refuses k p ≡ x

pub reading_sheet : (n : ℕ) (l : List ℕ) → SheetBy l n (cap_sheet n l) (reading_of n l)
unfolding reading_of cap_sheet
reading_sheet n l = go (document_of l) refl
  where
    drawn_from : Answer (List Element) → Answer Found
    drawn_from v = answer_and_then v (λ es. sheet_of_part l n (total es) (text_span (alert_of es)) (text_span (part_of n es)))

    go : (v : Answer (List Element)) → document_of l ≡ v → SheetBy l n (drawn_from v) (answer (λ t f. gives (t, f)) refuses (noted n) 0 no_facts v)
    go (gives es) d =
        let z : 0 + total es ≡ total es = omega arith in
        let f = gather (noted n) 0 no_facts es in (
          omega (arith, parts_limit l es d),
          rw z
              (sheet_same l (total es) (alert_span f) (part_span f) (text_span (alert_of es)) (text_span (part_of n es)) (alert_kept n es) (part_kept n es) n),
        )
    go (refuses k p) d = refl

-- ---- places

-- what a reading of part n means for the reason x
abbrev pub WhyBy : Place → ℕ → Answer Reason → Answer (ℕ × Shapes) → Type 0
WhyBy p n x (gives r) = asked_about p n r.0 (reason_of r.1.first r.1.count) ≡ x
WhyBy p n x (refuses k q) = refuses k q ≡ x

view_why_by : (n : ℕ) (p : Place) (l : List ℕ) → WhyBy p n (cap_why n p l) (view_of n p l)
unfolding view_of cap_why
view_why_by n p l = go (document_of l) refl
  where
    why_from : Answer (List Element) → Answer Reason
    why_from v = answer_and_then v (λ es. asked_about p n (total es) (reason_in p (areas_of (part_of n es))))

    go : (d : Answer (List Element)) → document_of l ≡ d → WhyBy p n (why_from d) (answer (λ t f. gives (t, f)) refuses (seen n p) 0 no_shapes d)
    go (gives es) d =
        let z : 0 + total es ≡ total es = omega arith in
        let placed = part_placed l es d n in
        rw (z, seen_part p n es, kept_first p (part_of n es) placed, kept_count p (part_of n es) placed)
    go (refuses k q) d = refl

module _ (n : ℕ) (l : List ℕ) where
  -- by the answer of the reading, where t parts were read and f gathered
  pub reading_limit : (t : ℕ) (f : Facts) → gives (t, f) ≡ reading_of n l → t ≤ max_infos
  reading_limit t f e = (rw (← e) at (reading_sheet n l)).0

  pub reading_drawn : (t : ℕ) (f : Facts) → gives (t, f) ≡ reading_of n l → sheet_of_part l n t (alert_span f) (part_span f) ≡ cap_sheet n l
  reading_drawn t f e = (rw (← e) at (reading_sheet n l)).1

  pub reading_refused : (k q : ℕ) → refuses k q ≡ reading_of n l → refuses k q ≡ cap_sheet n l
  reading_refused k q e = rw (← e) at (reading_sheet n l)

  pub view_why : (p : Place) (t : ℕ) (f : Shapes) → gives (t, f) ≡ view_of n p l → asked_about p n t (reason_of f.first f.count) ≡ cap_why n p l
  view_why p t f e = rw (← e) at (view_why_by n p l)

  pub view_refused : (p : Place) (k q : ℕ) → refuses k q ≡ view_of n p l → refuses k q ≡ cap_why n p l
  view_refused p k q e = rw (← e) at (view_why_by n p l)

-- ---- the answer for a place is what the reason says

side_by_lem : (o : Option ShapeAt) (n : ℕ) → side_by (reason_of o n) ≡ side_of (is_some o) (ltb 0 n)
side_by_lem (Some s) n = refl
side_by_lem None n =
    by_test (eqb n 0) (λ e. rw (eqb-true n 0 e)) (λ e. rw (e, lt-ltb 0 n (omega (arith, eqb-false n 0 e))))

module _ {A B : Type 0} (g : A → B) (p : Place) (n t : ℕ) (x : A) where
  asked_giving : giving g (asked_about p n t x) ≡ asked_about p n t (g x)
  asked_giving = go (look_up n t)
    where
      go :
          (r : Answer ℕ)
          → giving g (answer_and_then r (λ k. cond (in_range p) (gives x) (refuses 6 0))) ≡ answer_and_then r (λ k. cond (in_range p) (gives (g x)) (refuses 6 0))
      go (gives k) = by_test (in_range p) (λ e. rw e) (λ e. rw e)
      go (refuses k q) = refl

-- what a reason says, where the refusals are those of a place
pub side_said :
    (w : Result Why PlaceError) (s : Result code.Side PlaceError)
    → ((n q : PlaceError → ℕ) → place_answer_by n q s ≡ giving side_by (why_answer_by n q w))
    → place_answer s ≡ giving side_by (why_answer w)
side_said w s h = h error_number error_offset

pub why_place : (n : ℕ) (p : Place) (l : List ℕ) → giving side_by (cap_why n p l) ≡ cap_place n p l
unfolding cap_why cap_place
why_place n p l = go (document_of l) refl
  where
    side : (es : List Element) → Placed between_areas es → side_by (reason_in p (areas_of es)) ≡ side_of (any_holds p es) (any_shape es)
    side es k = rw (← kept_first p es k, ← kept_count p es k, ← any_named p es, ← any_counted p es) (side_by_lem (fold (looked p) no_shapes es).first (fold (looked p) no_shapes es).count)

    go :
        (d : Answer (List Element)) → document_of l ≡ d
        → giving side_by (answer_and_then d (λ es. asked_about p n (total es) (reason_in p (areas_of (part_of n es)))))
        ≡ answer_and_then d (λ es. asked_about p n (total es) (side_of (any_holds p (part_of n es)) (any_shape (part_of n es))))
    go (gives es) d = asked_giving side_by p n (total es) _ ∙ ap (asked_about p n (total es)) (side (part_of n es) (part_placed l es d n))
    go (refuses k q) d = refl
