-- The sheet of a part: "Drawing a sheet, after its packet's or document's own: 21, 7".
use Rattle.std.specs.Prelude.{Bool, false, cond, List, ℕ, eqb, ℤ, pos, negsuc, nat_abs, ◌-ℤ◌, Option, Some, None, Result, Ok, Err}
use Rattle.text.specs.Answers.{Answer, gives, refuses, answer_and_then, giving}
use Rattle.words.specs.Duration.{is_lasting}
use Rattle.time.specs.Time.{time_of}
use Rattle.sheet.specs.declared.Part.{Part}
use Rattle.sheet.specs.declared.CapFacts.{CapFacts}
use Rattle.sheet.specs.declared.Span.{Span}
use Rattle.sheet.specs.declared.Found.{Found}
use Rattle.sheet.specs.declared.Found.TheVariants as found
use Rattle.sheet.specs.Reading.{span_in}
use Rattle.schema.specs.Classes as class
use Rattle.rules.specs.Faults.{fault_number}
use Rattle.document.specs.Elements.{total}
use Rattle.document.specs.Documents.{document_of}
use Rattle.parts.specs.declared.CapSheet.{CapSheet}
use Rattle.parts.specs.declared.SheetError.{SheetError}
use Rattle.parts.specs.declared.SheetError.TheVariants as error
use Rattle.parts.specs.Elements.{alert_of, part_of, look_up, text_span}
use Rattle.parts.specs.Codes.{message_of, status_of, scope_of, urgency_of, severity_of, certainty_of}

-- ---- "A CAP part lasts from effective (else sent) to expires, or without expires "lasts no stated time""

-- the time from which a part lasts. A text that says no time is one that doesn't stand there (drawn/proofs/Says.antt: times-say, sheet-says)
abbrev pub start_of : (effective sent : Answer ℤ) → Answer ℤ
start_of (gives i) sent = gives i
start_of (refuses n p) sent = sent

-- 7: "lasting time not 1 to 31,536,000 seconds"
abbrev pub between : ℤ → Bool
between (pos n) = is_lasting n
between (negsuc n) = false

abbrev pub lasts_from : (start expires : Answer ℤ) → Answer (Option ℕ)
lasts_from start (refuses n p) = gives None
lasts_from (refuses n p) (gives e) = refuses 7 0
lasts_from (gives s) (gives e) = cond (between (e -ℤ s)) (gives (Some (nat_abs (e -ℤ s)))) (refuses 7 0)

abbrev pub lasts_answer : Option (Option ℕ) → Answer (Option ℕ)
lasts_answer (Some d) = gives d
lasts_answer None = refuses 7 0

-- alert c and part c: where the text of a class c stands, of the alert itself and of the part; l the document
unfoldable pub lasts_of : List ℕ → (alert part : ℕ → Span) → Answer (Option ℕ)
lasts_of l alert part =
    lasts_from
    (start_of (time_of (span_in l (part class.effective))) (time_of (span_in l (alert class.sent))))
    (time_of (span_in l (part class.expires)))

-- ---- "for CAP message type, status, scope, sender, identifier, part and total, urgency, severity, certainty (codes in
-- small letters) and the lasting time or its absence"

abbrev pub part_facts : List ℕ → (number total : ℕ) → (part : ℕ → Span) → (lasting : Option ℕ) → Part
part_facts l number total part d = record {
  number = number;
  total = total;
  urgency = urgency_of (span_in l (part class.urgency));
  severity = severity_of (span_in l (part class.severity));
  certainty = certainty_of (span_in l (part class.certainty));
  lasting = d;
}

abbrev pub facts_of : List ℕ → (alert : ℕ → Span) → Option Part → CapFacts
facts_of l alert ps = record {
  message = message_of (span_in l (alert class.msg_type));
  status = status_of (span_in l (alert class.status));
  scope = scope_of (span_in l (alert class.scope));
  parts = ps;
}

-- "A fact sheet's sender and name are shown as parts of the lent document"
abbrev pub sheet_with : List ℕ → (alert : ℕ → Span) → Option Part → Found
sheet_with l alert ps = found.Cap (facts_of l alert ps) (alert class.sender) (alert class.identifier)

-- part 0 has no facts of its own
abbrev pub parts_of : List ℕ → (total : ℕ) → (alert part : ℕ → Span) → (number : ℕ) → Answer (Option Part)
parts_of l total alert part n =
    cond (eqb n 0) (gives None) (giving (λ d. Some (part_facts l n total part d)) (lasts_of l alert part))

abbrev pub sheet_of_part : List ℕ → (number total : ℕ) → (alert part : ℕ → Span) → Answer Found
sheet_of_part l n total alert part = giving (sheet_with l alert) (answer_and_then (look_up n total) (parts_of l total alert part))

-- the sheet of the n-th part of the document l
unfoldable pub cap_sheet : ℕ → List ℕ → Answer Found
cap_sheet n l = answer_and_then (document_of l) (λ es. sheet_of_part l n (total es) (text_span (alert_of es)) (text_span (part_of n es)))

-- the sheet that was drawn, as it is found in the document
abbrev pub found_of : CapSheet → Found
found_of x = found.Cap x.facts x.sender x.name

abbrev pub sheet_answer : Result CapSheet SheetError → Answer Found
sheet_answer (Ok x) = gives (found_of x)
sheet_answer (Err error.NotThere) = refuses 21 0
sheet_answer (Err error.OutOfRange) = refuses 7 0
sheet_answer (Err (error.Document r)) = refuses (fault_number r.fault) r.offset
