-- Every sheet drawn from an accepted document keeps to the ranges, so that it can be written; its sender and name lie in the document.
use mathlib.Core.Path.{◌≡◌, refl, subst}
use mathlib.Core.Bool.{true, cond}
use mathlib.Core.List.{List}
use Prim.Native.Nat.{ℕ, ◌+◌, ◌≤◌}
use borrow.Author.Tests.{le-leb}
use lib.IntN.{ℤ, pos, negsuc, nat_abs, ◌-ℤ◌}
use lib.ListN.{length}
use Rattle.std.specs.Prelude.{Some}
use Rattle.text.specs.Logic.{cond_cases}
use Rattle.text.specs.Answers.{Answer, gives, refuses, IfGiven}
use Rattle.words.specs.Duration.{is_lasting}
use Rattle.time.specs.Time.{time_of}
use Rattle.sheet.specs.declared.CapFacts.{CapFacts}
use Rattle.sheet.specs.declared.Span.{Span}
use Rattle.sheet.specs.declared.Found.{Found}
use Rattle.sheet.specs.declared.Found.TheVariants as found
use Rattle.sheet.specs.Sheet.{is_lasting_time, is_parts, in_range}
use Rattle.sheet.specs.Reading.{span_in, sheet_in}
use Rattle.schema.specs.Classes as class
use Rattle.document.specs.Elements.{total}
use Rattle.document.proofs.Schema.{parts_limit}
use Rattle.parts.specs.Elements.{alert_of, part_of, text_span}
use Rattle.parts.specs.Sheets.{start_of, between, lasts_from, lasts_of, cap_sheet}
use Rattle.drawn.proofs.Drawn.{drawn_holds}
use Rattle.drawn.proofs.Spans.{NameIn, name_in, sender_in_lem}

-- ---- the lasting time

-- a difference of instants that is stated is a lasting time
seconds_right : (z : ℤ) → IfGiven (λ d. is_lasting_time d ≡ true) (cond (between z) (gives (Some (nat_abs z))) (refuses 7 0))
seconds_right (pos n) = cond_cases (IfGiven (λ d. is_lasting_time d ≡ true)) (is_lasting n) _ _ (λ e. e) (λ e. tt)
seconds_right (negsuc n) = tt

-- so is any lasting time that is stated
lasting_right : (start expires : Answer ℤ) → IfGiven (λ d. is_lasting_time d ≡ true) (lasts_from start expires)
lasting_right start (refuses n p) = refl
lasting_right (refuses n p) (gives e) = tt
lasting_right (gives s) (gives e) = seconds_right (e -ℤ s)

lasts_right : (l : List ℕ) (alert part : ℕ → Span) → IfGiven (λ d. is_lasting_time d ≡ true) (lasts_of l alert part)
unfolding lasts_of
lasts_right l alert part =
    lasting_right (start_of (time_of (span_in l (part class.effective))) (time_of (span_in l (alert class.sent)))) (time_of (span_in l (part class.expires)))

-- ---- the sheet

-- a part in range, and a sender and a name that stand in the document
abbrev Right : List ℕ → Found → Type 0
Right l (found.Cap f a b) = (is_parts f.parts ≡ true) × NameIn l a × NameIn l b
Right l (found.Warn w) = ⊥

module _ (l : List ℕ) (n : ℕ) where
  drawn_right : IfGiven (Right l) (cap_sheet n l)
  unfolding is_parts
  drawn_right =
      drawn_holds l n (Right l)
      (λ es doc z t. (refl, sender_in_lem l es doc, name_in l es doc))
      (λ es doc g h d e.
      let t = subst (IfGiven (λ d. is_lasting_time d ≡ true)) e (lasts_right l (text_span (alert_of es)) (text_span (part_of n es))) in (
        rw (le-leb 1 n g, le-leb n (total es) h, le-leb (total es) 16 (parts_limit l es doc), t),
        sender_in_lem l es doc,
        name_in l es doc,
      ))

  -- "Every sheet drawn from an accepted alert keeps to them": the ranges
  pub drawn_in_range : (x : Found) → cap_sheet n l ≡ gives x → in_range (sheet_in l x) ≡ true
  unfolding in_range sheet_in
  drawn_in_range (found.Cap f a b) q = let r = subst (IfGiven (Right l)) q drawn_right in rw (r.0, r.1.right, r.2.right)
  drawn_in_range (found.Warn w) q = absurd (subst (IfGiven (Right l)) q drawn_right)

  -- the sender and the name of a sheet lie in the document
  pub drawn_there : (f : CapFacts) (a b : Span) → cap_sheet n l ≡ gives (found.Cap f a b) → (a.start + a.len ≤ length l) × (b.start + b.len ≤ length l)
  drawn_there f a b q = let r = subst (IfGiven (Right l)) q drawn_right in (r.1.inside, r.2.inside)
