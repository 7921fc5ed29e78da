-- Sheets as 15 numbers, as include/warnbox.h lays them out. The first is the kind: 1 CAP, 2 WARN.
--   CAP:  message type, status, scope, part, total, urgency, severity, certainty, whether a lasting time is stated, the lasting time,
--         start and length of the sender in a text, start and length of the name in it
--   WARN: the flags urgent, update, cancel, test, then event, number, origin, lasting time, hazard, kind, urgency, severity, certainty, response
-- CAP codes are numbered from 1 in the order of the schema's lists; a fact that is or isn't so is 1 or 0.
-- Each sheet has one form: the numbers that stand for it are its numbers (proofs/OneForm.antt).
use Rattle.std.specs.Prelude.{Option, Some, None, Bool, true, false, cond, ◌&&◌, ◌||◌, List, [], ◌∷◌, ℕ, eqb, leb, ltb, get_or}
use Rattle.text.specs.Answers.{Answer, gives, refuses}
use Rattle.sheet.specs.declared.Part.{Part}
use Rattle.sheet.specs.declared.CapFacts.{CapFacts}
use Rattle.sheet.specs.declared.WarnFacts.{WarnFacts}
use Rattle.sheet.specs.declared.Span.{Span}
use Rattle.sheet.specs.declared.Found.{Found}
use Rattle.sheet.specs.declared.Found.TheVariants as found
use Rattle.codes.specs.Lists as list
use Rattle.codes.specs.Lists.{is_number}
use Rattle.codes.specs.Values.{message_at, status_at, scope_at, urgency_at, severity_at, certainty_at}
use Rattle.codes.specs.Values.{message_number, status_number, scope_number, urgency_number, severity_number, certainty_number}

-- the number at an index
abbrev pub at : List ℕ → ℕ → ℕ
at n i = get_or n i 0

-- ---- what numbers say

abbrev pub is_flag : ℕ → Bool
is_flag k = leb k 1

-- "A sheet holds the facts its sentence says and no others": part 0 of 0 has no urgency, severity, certainty and lasting time
abbrev pub has_no_part : List ℕ → Bool
has_no_part n =
    eqb (at n 4) 0 && eqb (at n 5) 0 && eqb (at n 6) 0 && eqb (at n 7) 0 && eqb (at n 8) 0 && eqb (at n 9) 0 && eqb (at n 10) 0

-- a lasting time is stated and fits 32 bits, or isn't stated and is 0
abbrev pub are_lasting : ℕ → ℕ → Bool
are_lasting stated seconds = (eqb stated 1 && ltb seconds 0x1_0000_0000) || (eqb stated 0 && eqb seconds 0)

-- numbers that stand for a part, in range or not: a part 0 of 0 with facts of a part is out of range
unfoldable pub are_part : List ℕ → Bool
are_part n =
    ltb (at n 4) 0x100 && ltb (at n 5) 0x100 && is_number list.urgency (at n 6) && is_number list.severity (at n 7)
    && is_number list.certainty (at n 8) && are_lasting (at n 9) (at n 10)

-- numbers that stand for a CAP sheet, in range or not
unfoldable pub are_cap : List ℕ → Bool
are_cap n =
    eqb (at n 0) 1 && is_number list.msg_type (at n 1) && is_number list.status (at n 2) && is_number list.scope (at n 3) && (has_no_part n || are_part n)

abbrev pub lasting_from : ℕ → ℕ → Option ℕ
lasting_from stated seconds = cond (eqb stated 1) (Some seconds) None

unfoldable pub part_from : List ℕ → Part
part_from n = record {
  number = at n 4;
  total = at n 5;
  urgency = urgency_at (at n 6);
  severity = severity_at (at n 7);
  certainty = certainty_at (at n 8);
  lasting = lasting_from (at n 9) (at n 10);
}

abbrev pub parts_from : List ℕ → Option Part
parts_from n = cond (has_no_part n) None (Some (part_from n))

unfoldable pub cap_from : List ℕ → CapFacts
cap_from n = record {
  message = message_at (at n 1);
  status = status_at (at n 2);
  scope = scope_at (at n 3);
  parts = parts_from n;
}

abbrev pub sender_from : List ℕ → Span
sender_from n = record { start = at n 11; len = at n 12 }

abbrev pub name_from : List ℕ → Span
name_from n = record { start = at n 13; len = at n 14 }

-- numbers that stand for a WARN sheet, in range or not: each fits its field in the packet, and the lasting time 32 bits
unfoldable pub are_warn : List ℕ → Bool
are_warn n =
    eqb (at n 0) 2 && is_flag (at n 1) && is_flag (at n 2) && is_flag (at n 3) && is_flag (at n 4)
    && ltb (at n 5) 0x1_0000_0000 && ltb (at n 6) 0x1_0000 && ltb (at n 7) 0x1_0000_0000 && ltb (at n 8) 0x1_0000_0000
    && ltb (at n 9) 0x100 && ltb (at n 10) 0x100 && ltb (at n 11) 0x100 && ltb (at n 12) 0x100 && ltb (at n 13) 0x100 && ltb (at n 14) 0x100

unfoldable pub warn_from : List ℕ → WarnFacts
warn_from n = record {
  urgent = eqb (at n 1) 1;
  update = eqb (at n 2) 1;
  cancel = eqb (at n 3) 1;
  test = eqb (at n 4) 1;
  event = at n 5;
  number = at n 6;
  origin = at n 7;
  lasting = at n 8;
  hazard = at n 9;
  kind = at n 10;
  urgency = at n 11;
  severity = at n 12;
  certainty = at n 13;
  response = at n 14;
}

-- the sheet that numbers stand for; 23: "a sheet handed in has a fact out of range"
unfoldable pub numbers_sheet : List ℕ → Answer Found
numbers_sheet n =
    cond (are_cap n) (gives (found.Cap (cap_from n) (sender_from n) (name_from n)))
    (cond (are_warn n) (gives (found.Warn (warn_from n)))
    (refuses 23 0))

-- document 01's answer for each case
abbrev pub sheet_answer : Option Found → Answer Found
sheet_answer (Some x) = gives x
sheet_answer None = refuses 23 0

-- ---- the numbers of a sheet that was found in a text

abbrev pub of_flag : Bool → ℕ
of_flag true = 1
of_flag false = 0

abbrev pub stated_of : Option ℕ → ℕ
stated_of None = 0
stated_of (Some s) = 1

abbrev pub seconds_of : Option ℕ → ℕ
seconds_of None = 0
seconds_of (Some s) = s

unfoldable pub numbers_of_none : (message status scope : ℕ) (sender name : Span) → List ℕ
numbers_of_none m t c sender name =
    1 ∷ m ∷ t ∷ c ∷ 0 ∷ 0 ∷ 0 ∷ 0 ∷ 0 ∷ 0 ∷ 0 ∷ sender.start ∷ sender.len ∷ name.start ∷ name.len ∷ []

unfoldable pub numbers_of_part : (message status scope : ℕ) (sender name : Span) → Part → List ℕ
numbers_of_part m t c sender name p =
    1 ∷ m ∷ t ∷ c ∷ p.number ∷ p.total
    ∷ urgency_number p.urgency ∷ severity_number p.severity ∷ certainty_number p.certainty ∷ stated_of p.lasting ∷ seconds_of p.lasting
    ∷ sender.start ∷ sender.len ∷ name.start ∷ name.len ∷ []

-- the fifth to the eleventh
abbrev pub part_numbers : Option Part → List ℕ
part_numbers None = 0 ∷ 0 ∷ 0 ∷ 0 ∷ 0 ∷ 0 ∷ 0 ∷ []
part_numbers (Some p) =
    p.number ∷ p.total
    ∷ urgency_number p.urgency ∷ severity_number p.severity ∷ certainty_number p.certainty ∷ stated_of p.lasting ∷ seconds_of p.lasting ∷ []

abbrev pub with_parts : (message status scope : ℕ) (sender name : Span) → Option Part → List ℕ
with_parts m t c sender name None = numbers_of_none m t c sender name
with_parts m t c sender name (Some p) = numbers_of_part m t c sender name p

abbrev pub cap_numbers : CapFacts → Span → Span → List ℕ
cap_numbers f sender name = with_parts (message_number f.message) (status_number f.status) (scope_number f.scope) sender name f.parts

unfoldable pub warn_numbers : WarnFacts → List ℕ
warn_numbers w =
    2 ∷ of_flag w.urgent ∷ of_flag w.update ∷ of_flag w.cancel ∷ of_flag w.test ∷ w.event ∷ w.number ∷ w.origin ∷ w.lasting
    ∷ w.hazard ∷ w.kind ∷ w.urgency ∷ w.severity ∷ w.certainty ∷ w.response ∷ []

unfoldable pub numbers_of : Found → List ℕ
numbers_of (found.Cap f sender name) = cap_numbers f sender name
numbers_of (found.Warn w) = warn_numbers w
