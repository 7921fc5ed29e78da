-- What the sheet of a part says is what stands in the accepted document: for each class that is asked for, the one text there; and no stated time
-- exactly where the part has no expires.
use mathlib.Core.Path.{◌≡◌, refl, sym, ap, subst, ◌∙◌}
use mathlib.Core.List.{List, []}
use Prim.Native.Nat.{ℕ, ◌≤◌}
use native.Mathlib.Omega.{arith}
use borrow.Author.Tests.{eqb-true, eqb-false}
use lib.Dec.{eqb}
use lib.IntN.{ℤ, nat_abs, ◌-ℤ◌}
use Rattle.std.specs.Prelude.{Option, Some, None}
use Rattle.text.specs.Answers.{Answer, gives, refuses, IfGiven}
use Rattle.text.specs.Logic.{by_test, cond_cases, clash}
use Rattle.time.specs.Time.{has_form, stamp_time, time_of}
use Rattle.codes.specs.Lists.{small}
use Rattle.codes.specs.Values.{message_text, status_text, scope_text, urgency_text, severity_text, certainty_text}
use Rattle.sheet.specs.declared.Part.{Part}
use Rattle.sheet.specs.declared.CapFacts.{CapFacts}
use Rattle.sheet.specs.declared.Span.{Span}
use Rattle.sheet.specs.declared.Found.{Found}
use Rattle.sheet.specs.declared.Found.TheVariants as found
use Rattle.sheet.specs.Reading.{span_in}
use Rattle.schema.specs.Classes as class
use Rattle.rules.specs.Codes.{code_of}
use Rattle.rules.specs.Texts.{code_rule, time_rule, text_rule}
use Rattle.rules.proofs.Kept.{code_kept, time_kept}
use Rattle.document.specs.Elements.{Element, opened, text, closed, total}
use Rattle.document.specs.Documents.{document_of}
use Rattle.document.proofs.Accepted.{Every}
use Rattle.document.proofs.Sound.{Ruled, all_ruled}
use Rattle.parts.specs.Elements.{alert_of, part_of, text_span}
use Rattle.parts.specs.Codes.{message_of, status_of, scope_of, urgency_of, severity_of, certainty_of}
use Rattle.parts.specs.Sheets.{start_of, between, lasts_from, lasts_of, part_facts, facts_of, sheet_with, cap_sheet}
use Rattle.drawn.proofs.Standing.{many, alert_once, part_once}
use Rattle.drawn.proofs.Spans.{Text, every_both, said, said_is, said_ruled, said_none}
use Rattle.drawn.proofs.Coded.{message_said, status_said, scope_said, urgency_said, severity_said, certainty_said}
use Rattle.drawn.proofs.Drawn.{drawn_holds}

-- ---- the statement

-- "codes in small letters"; "A fact sheet's sender and name are shown as parts of the lent document"
pub record AlertSays (l : List ℕ) (es : List Element) (f : CapFacts) (from to : Span) : Type 0 where
  pub message : Every (Text class.msg_type (λ p t. message_text f.message ≡ small t)) (alert_of es)
  pub status : Every (Text class.status (λ p t. status_text f.status ≡ small t)) (alert_of es)
  pub scope : Every (Text class.scope (λ p t. scope_text f.scope ≡ small t)) (alert_of es)
  pub sender : Every (Text class.sender (λ p t. span_in l from ≡ t)) (alert_of es)
  pub name : Every (Text class.identifier (λ p t. span_in l to ≡ t)) (alert_of es)

-- "or without expires "lasts no stated time""
pub record PartSays (n : ℕ) (es : List Element) (x : Part) : Type 0 where
  pub number : x.number ≡ n
  pub count : x.total ≡ total es
  pub urgency : Every (Text class.urgency (λ p t. urgency_text x.urgency ≡ small t)) (part_of n es)
  pub severity : Every (Text class.severity (λ p t. severity_text x.severity ≡ small t)) (part_of n es)
  pub certainty : Every (Text class.certainty (λ p t. certainty_text x.certainty ≡ small t)) (part_of n es)
  pub unstated : many class.expires (part_of n es) ≡ 0 → x.lasting ≡ None
  pub stated : x.lasting ≡ None → many class.expires (part_of n es) ≡ 0

abbrev pub PartsSay : ℕ → List Element → Option Part → Type 0
PartsSay n es None = (n ≡ 0) × (total es ≡ 0)
PartsSay n es (Some x) = PartSays n es x

abbrev pub Says : List ℕ → ℕ → List Element → Found → Type 0
Says l n es (found.Cap f sender name) = AlertSays l es f sender name × PartsSay n es f.parts
Says l n es (found.Warn w) = ⊥

-- a text that says a time
abbrev pub Instant : List ℕ → Type 0
Instant t = (i : ℤ) × (time_of t ≡ gives i)

-- every time in a document
pub record TimesSay (es : List Element) : Type 0 where
  pub sent : Every (Text class.sent (λ p t. Instant t)) es
  pub effective : Every (Text class.effective (λ p t. Instant t)) es
  pub onset : Every (Text class.onset (λ p t. Instant t)) es
  pub expires : Every (Text class.expires (λ p t. Instant t)) es

-- ---- times

module _ (l : List ℕ) (es : List Element) (d : document_of l ≡ gives es) where
  time_says : (c : ℕ) → ((t : List ℕ) → text_rule c t ≡ time_rule t) → Every (Text c (λ p t. Instant t)) es
  time_says c rule = every_both is es (all_ruled l es d) (all_ruled l es d)
    where
      is : (x : Element) → Ruled x → Ruled x → Text c (λ p t. Instant t) x
      is (opened b p) r s = tt
      is (text b p t) r s = λ q. time_kept t (sym (rule t) ∙ rw q at r)
      is (closed b) r s = tt

  pub times_say : TimesSay es
  unfolding text_rule
  times_say = record {
    sent = time_says class.sent (λ t. refl);
    effective = time_says class.effective (λ t. refl);
    onset = time_says class.onset (λ t. refl);
    expires = time_says class.expires (λ t. refl);
  }

-- ---- no stated time

empty_time : time_of [] ≡ refuses 18 0
unfolding time_of stamp_time has_form
empty_time = refl

-- what lasts to an instant has a stated time
stated_from : (start : Answer ℤ) (e : ℤ) (d : Option ℕ) → lasts_from start (gives e) ≡ gives d → d ≡ None → ⊥
stated_from (refuses n p) e d = λ q u. clash (cc)
stated_from (gives s) e d =
    cond_cases (λ (r : Answer (Option ℕ)). r ≡ gives d → d ≡ None → ⊥) (between (e -ℤ s)) (gives (Some (nat_abs (e -ℤ s)))) (refuses 7 0)
    (λ b q u. clash (cc)) (λ b q u. clash (cc))

module _ (l : List ℕ) (es : List Element) (doc : document_of l ≡ gives es) (n : ℕ) (d : Option ℕ)
    (lasts : lasts_of l (text_span (alert_of es)) (text_span (part_of n es)) ≡ gives d) where
  abbrev start : Answer ℤ
  start = start_of (time_of (said l es doc n class.effective)) (time_of (said l es doc 0 class.sent))

  no_expires : many class.expires (part_of n es) ≡ 0 → d ≡ None
  unfolding lasts_of
  no_expires m =
      let e : time_of (said l es doc n class.expires) ≡ refuses 18 0 = ap time_of (said_none l es doc n class.expires m) ∙ empty_time in
      let q : lasts_from start (refuses 18 0) ≡ gives d = sym (ap (lasts_from start) e) ∙ lasts in
      cc

  some_expires : 1 ≤ many class.expires (part_of n es) → d ≡ None → ⊥
  unfolding lasts_of text_rule
  some_expires m =
      let k = time_kept (said l es doc n class.expires) (said_ruled l es doc n class.expires m) in
      stated_from start k.0 d (sym (ap (lasts_from start) k.1) ∙ lasts)

  is_stated : d ≡ None → many class.expires (part_of n es) ≡ 0
  is_stated u =
      by_test (eqb (many class.expires (part_of n es)) 0) (λ e. eqb-true _ _ e)
      (λ e. absurd (some_expires (omega (arith, eqb-false (many class.expires (part_of n es)) 0 e)) u))

-- ---- the sheet

module _ (l : List ℕ) (es : List Element) (d : document_of l ≡ gives es) (n : ℕ) where
  -- a code's text, for any class with codes
  code_says :
      (c : ℕ) (say : List ℕ → List ℕ) → ((t : List ℕ) → text_rule c t ≡ code_rule c t) → ((t : List ℕ) → (code_of c t ≡ 0 → ⊥) → say t ≡ small t)
      → many c (part_of n es) ≡ 1 → Every (Text c (λ p t. say (said l es d n c) ≡ small t)) (part_of n es)
  code_says c say rule law m =
      let r = code_kept c (said l es d n c) (sym (rule (said l es d n c)) ∙ said_ruled l es d n c (omega arith)) in
      said_is l es d n c (omega arith) (λ t. say (said l es d n c) ≡ small t) (law (said l es d n c) r)

module _ (l : List ℕ) (es : List Element) (d : document_of l ≡ gives es) where
  alert_says : (ps : Option Part) → AlertSays l es (facts_of l (text_span (alert_of es)) ps) (text_span (alert_of es) class.sender) (text_span (alert_of es) class.identifier)
  unfolding text_rule
  alert_says ps =
      let o = alert_once l es d in record {
        message = code_says l es d 0 class.msg_type (λ t. message_text (message_of t)) (λ t. refl) message_said o.msg_type;
        status = code_says l es d 0 class.status (λ t. status_text (status_of t)) (λ t. refl) status_said o.status;
        scope = code_says l es d 0 class.scope (λ t. scope_text (scope_of t)) (λ t. refl) scope_said o.scope;
        sender = said_is l es d 0 class.sender (omega (arith, o.sender)) (λ t. said l es d 0 class.sender ≡ t) refl;
        name = said_is l es d 0 class.identifier (omega (arith, o.identifier)) (λ t. said l es d 0 class.identifier ≡ t) refl;
      }

  part_says :
      (n : ℕ) → 1 ≤ n → n ≤ total es → (x : Option ℕ) → lasts_of l (text_span (alert_of es)) (text_span (part_of n es)) ≡ gives x
      → PartSays n es (part_facts l n (total es) (text_span (part_of n es)) x)
  unfolding text_rule
  part_says n g h x e =
      let o = part_once l es d n g h in record {
        number = refl;
        count = refl;
        urgency = code_says l es d n class.urgency (λ t. urgency_text (urgency_of t)) (λ t. refl) urgency_said o.urgency;
        severity = code_says l es d n class.severity (λ t. severity_text (severity_of t)) (λ t. refl) severity_said o.severity;
        certainty = code_says l es d n class.certainty (λ t. certainty_text (certainty_of t)) (λ t. refl) certainty_said o.certainty;
        unstated = no_expires l es d n x e;
        stated = is_stated l es d n x e;
      }

pub sheet_says : (l : List ℕ) (n : ℕ) (x : Found) → cap_sheet n l ≡ gives x → (es : List Element) → document_of l ≡ gives es → Says l n es x
sheet_says l n x q =
    subst (IfGiven (λ (x : Found). (es : List Element) → document_of l ≡ gives es → Says l n es x)) q
    (drawn_holds l n (λ (x : Found). (es : List Element) → document_of l ≡ gives es → Says l n es x)
    (λ es d z t. other (sheet_with l (text_span (alert_of es)) None) es d (alert_says l es d None, (z, t)))
    (λ es d g h x e.
    let ps = Some (part_facts l n (total es) (text_span (part_of n es)) x) in
    other (sheet_with l (text_span (alert_of es)) ps) es d (alert_says l es d ps, part_says l es d n g h x e)))
  where
    -- a document has one list of elements
    other : (y : Found) (es : List Element) → document_of l ≡ gives es → Says l n es y → (fs : List Element) → document_of l ≡ gives fs → Says l n fs y
    other y es d s fs e = let z : es ≡ fs = cc in subst (λ (r : List Element). Says l n r y) z s
