-- Reading a sentence. It is read loosely first: literals are passed over by their length, and nothing is checked. The text is a read-back exactly
-- where it starts with the sentence of what was read, and that is in range; proofs/ has the laws that make this reading exact.
use Rattle.std.specs.Prelude.{Option, Some, None, Bool, cond, ◌&&◌, not, List, [], ◌∷◌, ◌++◌, ℕ, ◌+◌, ◌-◌, ◌%◌, eqb, length, take, drop, get_or}
use Prim.Native.Char.{code}
use Rattle.text.specs.Bytes.{leading}
use Rattle.text.specs.Ascii.{ascii}
use Rattle.codes.specs.Lists as list
use Rattle.codes.specs.Lists.{small_code_of}
use Rattle.codes.specs.Values.{message_at, status_at, scope_at, urgency_at, severity_at, certainty_at}
use Rattle.words.specs.Reading.{number_at, duration_at}
use Rattle.codes.specs.declared.MessageType.{MessageType}
use Rattle.codes.specs.declared.Status.{Status}
use Rattle.codes.specs.declared.Scope.{Scope}
use Rattle.codes.specs.declared.Urgency.{Urgency}
use Rattle.codes.specs.declared.Severity.{Severity}
use Rattle.codes.specs.declared.Certainty.{Certainty}
use Rattle.sheet.specs.declared.Part.{Part}
use Rattle.sheet.specs.declared.CapFacts.{CapFacts}
use Rattle.sheet.specs.declared.WarnFacts.{WarnFacts}
use Rattle.sheet.specs.declared.Span.{Span}
use Rattle.sheet.specs.declared.Found.{Found}
use Rattle.sheet.specs.declared.Found.TheVariants as found
use Rattle.text.specs.Parts.{starts_with}
use Rattle.sheet.specs.Sheet.{Sheet, cap, warn, in_range}
use Rattle.sheet.specs.Sentence.{sentence}

-- ---- a word: the bytes to the next comma

unfoldable pub word_length : List ℕ → ℕ
word_length l = leading (λ b. not (eqb b (code ","))) l

unfoldable pub word_of : List ℕ → List ℕ
word_of l = take (word_length l) l

-- the text after the word and k bytes more
unfoldable pub after_word : ℕ → List ℕ → List ℕ
after_word k l = drop k (drop (word_length l) l)

-- ---- numbers

-- the number after a literal of k bytes, and the text after that number
unfoldable pub number_after : ℕ → List ℕ → ℕ
number_after k l = (number_at 0 (drop k l)).value

unfoldable pub rest_after : ℕ → List ℕ → List ℕ
rest_after k l = drop (number_at 0 (drop k l)).end (drop k l)

abbrev pub byte_of : ℕ → ℕ
byte_of n = n % 0x100

-- the numbers after names, ", event seven, number two", and the text after them all
unfoldable pub numbers_after : List (List ℕ) → List ℕ → List ℕ
numbers_after [] l = []
numbers_after (w ∷ ws) l = number_after (length (ascii ", " ++ w)) l ∷ numbers_after ws (rest_after (length (ascii ", " ++ w)) l)

unfoldable pub rest_after_all : List (List ℕ) → List ℕ → List ℕ
rest_after_all [] l = l
rest_after_all (w ∷ ws) l = rest_after_all ws (rest_after (length (ascii ", " ++ w)) l)

-- ---- codes: any other word is read as the last of its list

abbrev pub message_of : List ℕ → MessageType
message_of w = message_at (small_code_of list.msg_type w)

abbrev pub status_of : List ℕ → Status
status_of w = status_at (small_code_of list.status w)

abbrev pub scope_of : List ℕ → Scope
scope_of w = scope_at (small_code_of list.scope w)

abbrev pub urgency_of : List ℕ → Urgency
urgency_of w = urgency_at (small_code_of list.urgency w)

abbrev pub severity_of : List ℕ → Severity
severity_of w = severity_at (small_code_of list.severity w)

abbrev pub certainty_of : List ℕ → Certainty
certainty_of w = certainty_at (small_code_of list.certainty w)

-- ---- a CAP sentence, from its start

-- the texts from the message type, the status, the scope, the sender, the name and what follows it on
abbrev pub from_message : List ℕ → List ℕ
from_message l = drop (length (ascii "cap ")) l

unfoldable pub from_status : List ℕ → List ℕ
from_status l = after_word (length (ascii ", ")) (from_message l)

unfoldable pub from_scope : List ℕ → List ℕ
from_scope l = after_word (length (ascii ", ")) (from_status l)

unfoldable pub from_sender : List ℕ → List ℕ
from_sender l = after_word (length (ascii ", from ")) (from_scope l)

unfoldable pub from_name : List ℕ → List ℕ
from_name l = after_word (length (ascii ", name ")) (from_sender l)

unfoldable pub from_parts : List ℕ → List ℕ
from_parts l = after_word 0 (from_name l)

-- a part, from ", part" on: from " of", the urgency, the severity, the certainty and what says how long it lasts on
unfoldable pub from_total : List ℕ → List ℕ
from_total l = rest_after (length (ascii ", part")) l

unfoldable pub from_urgency : List ℕ → List ℕ
from_urgency l = drop (length (ascii ", ")) (rest_after (length (ascii " of")) (from_total l))

unfoldable pub from_severity : List ℕ → List ℕ
from_severity l = after_word (length (ascii ", ")) (from_urgency l)

unfoldable pub from_certainty : List ℕ → List ℕ
from_certainty l = after_word (length (ascii ", ")) (from_severity l)

unfoldable pub from_lasting : List ℕ → List ℕ
from_lasting l = after_word (length (ascii ", lasts")) (from_certainty l)

unfoldable pub lasting_of : List ℕ → Option ℕ
lasting_of l = cond (starts_with (ascii " no ") l) None (Some (duration_at 0 l).value)

unfoldable pub part_of : List ℕ → Part
part_of l = record {
  number = byte_of (number_after (length (ascii ", part")) l);
  total = byte_of (number_after (length (ascii " of")) (from_total l));
  urgency = urgency_of (word_of (from_urgency l));
  severity = severity_of (word_of (from_severity l));
  certainty = certainty_of (word_of (from_certainty l));
  lasting = lasting_of (from_lasting l);
}

unfoldable pub parts_of : List ℕ → Option Part
parts_of l = cond (starts_with (ascii ", part") l) (Some (part_of l)) None

unfoldable pub cap_of : List ℕ → CapFacts
cap_of l = record {
  message = message_of (word_of (from_message l));
  status = status_of (word_of (from_status l));
  scope = scope_of (word_of (from_scope l));
  parts = parts_of (from_parts l);
}

-- ---- a WARN sentence, from its start

-- a flag's word is passed over where it stands
abbrev pub after_flag : List ℕ → List ℕ → List ℕ
after_flag w l = cond (starts_with w l) (drop (length w) l) l

abbrev pub from_urgent : List ℕ → List ℕ
from_urgent l = drop (length (ascii "warn alert")) l

unfoldable pub from_update : List ℕ → List ℕ
from_update l = after_flag (ascii " urgent") (from_urgent l)

unfoldable pub from_cancel : List ℕ → List ℕ
from_cancel l = after_flag (ascii " update") (from_update l)

unfoldable pub from_test : List ℕ → List ℕ
from_test l = after_flag (ascii " cancel") (from_cancel l)

unfoldable pub after_flags : List ℕ → List ℕ
after_flags l = after_flag (ascii " test") (from_test l)

-- from ", event" on
abbrev pub origin_names : List (List ℕ)
origin_names = ascii "event" ∷ ascii "number" ∷ ascii "origin" ∷ []

abbrev pub origin_number : ℕ → List ℕ → ℕ
origin_number i l = get_or (numbers_after origin_names l) i 0

-- from after ", lasts" on
unfoldable pub from_period : List ℕ → List ℕ
from_period l = drop (length (ascii ", lasts")) (rest_after_all origin_names l)

unfoldable pub from_hazard : List ℕ → List ℕ
from_hazard l = drop (duration_at 0 (from_period l)).end (from_period l)

-- from ", hazard" on
abbrev pub hazard_names : List (List ℕ)
hazard_names = ascii "hazard" ∷ ascii "kind" ∷ ascii "urgency" ∷ ascii "severity" ∷ ascii "certainty" ∷ ascii "response" ∷ []

abbrev pub hazard_byte : ℕ → List ℕ → ℕ
hazard_byte i l = byte_of (get_or (numbers_after hazard_names l) i 0)

unfoldable pub warn_of : List ℕ → WarnFacts
warn_of l = record {
  urgent = starts_with (ascii " urgent") (from_urgent l);
  update = starts_with (ascii " update") (from_update l);
  cancel = starts_with (ascii " cancel") (from_cancel l);
  test = starts_with (ascii " test") (from_test l);
  event = origin_number 0 (after_flags l);
  number = origin_number 1 (after_flags l) % 0x1_0000;
  origin = origin_number 2 (after_flags l);
  lasting = (duration_at 0 (from_period (after_flags l))).value;
  hazard = hazard_byte 0 (from_hazard (after_flags l));
  kind = hazard_byte 1 (from_hazard (after_flags l));
  urgency = hazard_byte 2 (from_hazard (after_flags l));
  severity = hazard_byte 3 (from_hazard (after_flags l));
  certainty = hazard_byte 4 (from_hazard (after_flags l));
  response = hazard_byte 5 (from_hazard (after_flags l));
}

-- ---- a line

-- the word that leads the rest of a text, which stands at offset i: the rest reaches to the text's end
abbrev pub span_at : ℕ → List ℕ → List ℕ → Span
span_at i l rest = record { start = i + (length l - length rest); len = word_length rest }

-- what a text that stands at offset i says, as far as it can be read
unfoldable pub found_at : ℕ → List ℕ → Found
found_at i l =
    cond (starts_with (ascii "warn") l)
    (found.Warn (warn_of l))
    (found.Cap (cap_of l) (span_at i l (from_sender l)) (span_at i l (from_name l)))

abbrev pub span_in : List ℕ → Span → List ℕ
span_in t s = take s.len (drop s.start t)

-- the sheet that was found in the text t
unfoldable pub sheet_in : List ℕ → Found → Sheet
sheet_in t (found.Cap f sender name) = cap f (span_in t sender) (span_in t name)
sheet_in t (found.Warn x) = warn x

unfoldable pub sheet_of : List ℕ → Sheet
sheet_of l = sheet_in l (found_at 0 l)

-- the text starts with a read-back: the sentence of a sheet in range
unfoldable pub is_line : List ℕ → Bool
is_line l = in_range (sheet_of l) && starts_with (sentence (sheet_of l)) l

-- the sheet of the read-back that a text starts with, and its length
unfoldable pub line_at : ℕ → List ℕ → Option (Found × ℕ)
line_at i l = cond (is_line l) (Some (found_at i l, length (sentence (sheet_of l)))) None
