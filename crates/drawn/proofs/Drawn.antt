-- What holds of every sheet that is drawn, by how it is drawn: with no part, or with the facts of a part that is there and lasts some time.
use mathlib.Core.Path.{◌≡◌, refl}
use mathlib.Core.List.{List}
use Prim.Native.Nat.{ℕ, ◌≤◌}
use borrow.Author.Tests.{eqb-true, eqb-false}
use lib.Dec.{eqb}
use Rattle.std.specs.Prelude.{Option, Some, None}
use Rattle.text.specs.Answers.{Answer, gives, refuses, answer_and_then, giving, IfGiven}
use Rattle.text.specs.Logic.{by_test}
use Rattle.sheet.specs.declared.Found.{Found}
use Rattle.document.specs.Elements.{Element, total}
use Rattle.document.specs.Documents.{document_of}
use Rattle.parts.specs.Elements.{alert_of, part_of, look_up, text_span}
use Rattle.parts.specs.Sheets.{lasts_of, part_facts, sheet_with, parts_of, sheet_of_part, cap_sheet}
use Rattle.parts.proofs.Lookups.{there_part, there_within, there_none}

module _ (l : List ℕ) (n : ℕ) (P : Found → Type 0)
    (none : (es : List Element) → document_of l ≡ gives es → n ≡ 0 → total es ≡ 0 → P (sheet_with l (text_span (alert_of es)) None))
    (some : (es : List Element) → document_of l ≡ gives es → 1 ≤ n → n ≤ total es
    → (d : Option ℕ) → lasts_of l (text_span (alert_of es)) (text_span (part_of n es)) ≡ gives d
    → P (sheet_with l (text_span (alert_of es)) (Some (part_facts l n (total es) (text_span (part_of n es)) d)))) where
  module _ (es : List Element) (doc : document_of l ≡ gives es) where
    lasting_holds :
        1 ≤ n → n ≤ total es → (r : Answer (Option ℕ)) → lasts_of l (text_span (alert_of es)) (text_span (part_of n es)) ≡ r
        → IfGiven P
        (giving (sheet_with l (text_span (alert_of es))) (giving (λ d. Some (part_facts l n (total es) (text_span (part_of n es)) d)) r))
    lasting_holds g h (gives d) e = some es doc g h d e
    lasting_holds g h (refuses k p) e = tt

    part_holds :
        (r : Answer ℕ) → look_up n (total es) ≡ r
        → IfGiven P
        (giving (sheet_with l (text_span (alert_of es))) (answer_and_then r (parts_of l (total es) (text_span (alert_of es)) (text_span (part_of n es)))))
    part_holds (gives k) h =
        by_test (eqb k 0)
        (λ z. let w = there_none n (total es) k h (eqb-true k 0 z) in rw z (none es doc w.0 w.1))
        λ z.
        let w = there_within n (total es) k h (eqb-false k 0 z) in
        rw (z, ← there_part n (total es) k h) (lasting_holds w.0 w.1 (lasts_of l (text_span (alert_of es)) (text_span (part_of n es))) refl)
    part_holds (refuses k p) h = tt

  pub drawn_holds : IfGiven P (cap_sheet n l)
  unfolding cap_sheet
  drawn_holds = go (document_of l) refl
    where
      go :
          (v : Answer (List Element)) → document_of l ≡ v
          → IfGiven P (answer_and_then v (λ es. sheet_of_part l n (total es) (text_span (alert_of es)) (text_span (part_of n es))))
      go (gives es) doc = part_holds es doc (look_up n (total es)) refl
      go (refuses k p) doc = tt
