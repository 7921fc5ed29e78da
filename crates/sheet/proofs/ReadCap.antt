-- Reading a CAP sentence undoes writing it.
use mathlib.Core.Path.{◌≡◌, refl, sym, ap, ◌∙◌}
use mathlib.Core.Bool.{true, false}
use mathlib.Core.List.{List, [], ◌++◌, append_assoc}
use Prim.Native.Nat.{ℕ, ◌%◌, ◌≤◌, ◌<◌}
use native.Mathlib.Omega.{arith}
use lib.ListN.{drop}
use Rattle.std.specs.Prelude.{Option, Some, None}
use Rattle.text.specs.Ascii.{ascii}
use Rattle.text.specs.Logic.{by_test}
use Rattle.codes.proofs.Numbers.{message_numbers, status_numbers, scope_numbers, urgency_numbers, severity_numbers, certainty_numbers}
use Rattle.words.specs.declared.Quantity.{Quantity}
use Rattle.words.specs.Words.{dictionary, number_codes, said}
use Rattle.words.specs.Duration.{lasting}
use Rattle.words.specs.Reading.{word_at, index_in, code_of, nothing, number_at, duration_at, ends_number, ends_duration}
use Rattle.words.proofs.Steps.{number_stop, counts_stop}
use Rattle.words.proofs.ReadNumber.{spaced_no_letter, ends_comma, ends_of}
use Rattle.sheet.specs.declared.Part.{Part}
use Rattle.sheet.specs.declared.CapFacts.{CapFacts}
use Rattle.codes.specs.Values.{message_text, status_text, scope_text, urgency_text, severity_text, certainty_text}
use Rattle.text.specs.Parts.{starts_with}
use Rattle.sheet.specs.Sheet.{is_lasting_time, is_parts}
use Rattle.sheet.specs.Sentence.{plain, lasting_text, part_text, parts_text, cap_text}
use Rattle.sheet.specs.Reading.{word_length, word_of, from_status, from_scope, from_sender, from_name, from_parts, from_total, from_urgency, from_severity, from_certainty, from_lasting, message_of, status_of, scope_of, urgency_of, severity_of, certainty_of, lasting_of, part_of, parts_of, cap_of}
use Rattle.sheet.proofs.Leading.{starts_split, word_step, number_step, duration_value}
use Rattle.sheet.proofs.Limits.{lasting_range, part_range, CapRange}
use Rattle.sheet.proofs.ReadCode.{code_word, code_read}

-- ---- how long a part lasts

-- after " no " no duration is read
no_duration : (l : List ℕ) → (duration_at 0 (ascii " no " ++ l)).value ≡ 0
unfolding duration_at number_at word_at code_of index_in dictionary
no_duration l =
    let t = ascii " no " ++ l in
    let n = number_stop 0 t nothing refl in
    ap (λ (x : Quantity). x.value) (counts_stop 0 t 0 (rw n))

no_lasting : (s : ℕ) (t : List ℕ) → 1 ≤ s → s < 4_294_967_296 → ends_duration t ≡ true → starts_with (ascii " no ") (lasting s ++ t) ≡ false
no_lasting s t h g e =
    by_test (starts_with (ascii " no ") (lasting s ++ t))
    (λ p.
    let q = ap (λ (l : List ℕ). (duration_at 0 l).value) (starts_split (ascii " no ") (lasting s ++ t) p) in
    absurd (omega (arith, sym (duration_value s t g e) ∙ q ∙ no_duration (drop 4 (lasting s ++ t)))))
    (λ p. p)

pub lasting_read : (x : Option ℕ) (t : List ℕ) → is_lasting_time x ≡ true → ends_duration t ≡ true → lasting_of (lasting_text plain x ++ t) ≡ x
unfolding lasting_of lasting_text starts_with
lasting_read None t h e = refl
lasting_read (Some s) t h e =
    let r = lasting_range s h in
    let g : s < 4_294_967_296 = omega arith in
    rw (no_lasting s t r.0 g e) (ap Some (duration_value s t g e))

-- ---- a part

-- numbers of a part are far below 256
part_byte : (n m : ℕ) → n ≡ m → m ≤ 16 → n % 0x100 ≡ m
part_byte n m e h = omega arith

ends_total : (k : ℕ) (t : List ℕ) → ends_number (ascii " of" ++ (said k ++ (ascii ", " ++ t))) ≡ true
unfolding said
ends_total k t = ends_of (said k ++ (ascii ", " ++ t)) (spaced_no_letter (number_codes k) (ascii ", " ++ t) refl)

part_read : (p : Part) (t : List ℕ) → is_parts (Some p) ≡ true → ends_duration t ≡ true → part_of (part_text plain p ++ t) ≡ p
unfolding part_text part_of from_total from_urgency from_severity from_certainty from_lasting word_length
part_read p t h e =
    let r = part_range p h in
    let c = certainty_text p.certainty ++ (ascii ", lasts" ++ (lasting_text plain p.lasting ++ t)) in
    let s = severity_text p.severity ++ (ascii ", " ++ c) in
    let u = urgency_text p.urgency ++ (ascii ", " ++ s) in
    let k = ascii " of" ++ (said p.total ++ (ascii ", " ++ u)) in
    let q : part_text plain p ++ t ≡ ascii ", part" ++ (said p.number ++ k) = simp append_assoc in
    let n₁ = number_step (ascii ", part") p.number k (omega arith) (ends_total p.total u) q in
    let n₂ = number_step (ascii " of") p.total (ascii ", " ++ u) (omega arith) (ends_comma _) n₁.1 in
    let w₁ = word_step (urgency_text p.urgency) (ascii ", ") s (code_word (urgency_numbers p.urgency)) refl (ap (drop 2) n₂.1) in
    let w₂ = word_step (severity_text p.severity) (ascii ", ") c (code_word (severity_numbers p.severity)) refl w₁.1 in
    let w₃ = word_step (certainty_text p.certainty) (ascii ", lasts") _ (code_word (certainty_numbers p.certainty)) refl w₂.1 in
    λ i. record {
      number = part_byte _ p.number n₁.0 r.number i;
      total = part_byte _ p.total n₂.0 r.total i;
      urgency = (ap urgency_of w₁.0 ∙ code_read (urgency_numbers p.urgency)) i;
      severity = (ap severity_of w₂.0 ∙ code_read (severity_numbers p.severity)) i;
      certainty = (ap certainty_of w₃.0 ∙ code_read (certainty_numbers p.certainty)) i;
      lasting = (ap lasting_of w₃.1 ∙ lasting_read p.lasting t r.lasting e) i;
    }

starts_part : (p : Part) (t : List ℕ) → starts_with (ascii ", part") (part_text plain p ++ t) ≡ true
unfolding starts_with part_text
starts_part p t = refl

pub parts_read : (p : Option Part) (t : List ℕ) → is_parts p ≡ true → ends_duration t ≡ true → parts_of (parts_text plain p ++ t) ≡ p
unfolding parts_of parts_text starts_with
parts_read None t h e = refl
parts_read (Some p) t h e = rw (starts_part p t) (ap Some (part_read p t h e))

-- ---- the whole sentence

-- ", part" or ", no parts"
parts_comma : (p : Option Part) (t : List ℕ) → word_length (parts_text plain p ++ t) ≡ 0
unfolding word_length parts_text part_text
parts_comma None t = refl
parts_comma (Some p) t = refl

pub record CapRead (f : CapFacts) (sender name l : List ℕ) : Type 0 where
  pub facts : cap_of l ≡ f
  pub from : word_of (from_sender l) ≡ sender
  pub called : word_of (from_name l) ≡ name

pub cap_read : (f : CapFacts) (sender name t : List ℕ) → CapRange f sender name → CapRead f sender name (cap_text plain f sender name ++ t)
unfolding cap_text cap_of from_status from_scope from_sender from_name from_parts word_length ends_duration
cap_read f sender name t h =
    let r = parts_text plain f.parts ++ (ascii ".\n" ++ t) in
    let a = sender ++ (ascii ", name " ++ (name ++ r)) in
    let c = scope_text f.scope ++ (ascii ", from " ++ a) in
    let s = status_text f.status ++ (ascii ", " ++ c) in
    let q : cap_text plain f sender name ++ t ≡ ascii "cap " ++ (message_text f.message ++ (ascii ", " ++ s)) = simp append_assoc in
    let w₁ = word_step (message_text f.message) (ascii ", ") s (code_word (message_numbers f.message)) refl (ap (drop 4) q) in
    let w₂ = word_step (status_text f.status) (ascii ", ") c (code_word (status_numbers f.status)) refl w₁.1 in
    let w₃ = word_step (scope_text f.scope) (ascii ", from ") a (code_word (scope_numbers f.scope)) refl w₂.1 in
    let w₄ = word_step sender (ascii ", name ") (name ++ r) h.from.whole refl w₃.1 in
    let w₅ = word_step name [] r h.called.whole (parts_comma f.parts (ascii ".\n" ++ t)) w₄.1 in
    record {
      facts = λ i. record {
        message = (ap message_of w₁.0 ∙ code_read (message_numbers f.message)) i;
        status = (ap status_of w₂.0 ∙ code_read (status_numbers f.status)) i;
        scope = (ap scope_of w₃.0 ∙ code_read (scope_numbers f.scope)) i;
        parts = (ap parts_of w₅.1 ∙ parts_read f.parts (ascii ".\n" ++ t) h.part refl) i;
      };
      from = w₄.0;
      called = w₅.0;
    }
