-- The whole document, "strictly left to right".
use Rattle.std.specs.Prelude.{cond, None, Result, Ok, Err, List, [], ◌∷◌, ℕ, zero, suc, ltb, length}
use Rattle.text.specs.Parts.{part}
use Rattle.text.specs.Answers.{Answer, gives, refuses, giving}
use Rattle.xml.specs.declared.PrologError.{PrologError}
use Rattle.xml.specs.Opening as opening
use Rattle.schema.specs.Sequences.{before}
use Rattle.rules.specs.Faults.{fault_number}
use Rattle.document.specs.declared.Mode.{Mode}
use Rattle.document.specs.declared.Event.{Event}
use Rattle.document.specs.declared.Event.TheVariants.{Silent, Opened, Text, Closed}
use Rattle.document.specs.Steps.{Step, Next, Done, Refused}
use Rattle.document.specs.declared.Refusal.{Refusal}
use Rattle.document.specs.Elements.{Element, opened, text, closed, given, total}
use Rattle.document.specs.Constructs.{step_of}

-- the element that an event tells of
abbrev pub elements_of : List ℕ → Event → List Element
elements_of l Silent = []
elements_of l (Opened c p) = opened c p ∷ []
elements_of l (Text c from until) = text c from (part l from until) ∷ []
elements_of l (Closed c) = closed c ∷ []

-- before the first construct
abbrev pub begin : ℕ → Mode
begin at = record { at = at; state = before; leaf = None; infos = 0; prefix_start = 0; prefix_end = 0 }

-- what stands before the first construct
abbrev pub prolog_step : Result ℕ PrologError → Step
prolog_step (Ok at) = Next (begin at) Silent
prolog_step (Err e) = Refused 15 e.offset

-- 14: "CAP document over 65,536 bytes"
abbrev pub max_length : ℕ
max_length = 65_536

unfoldable pub first_step : List ℕ → Step
first_step l = cond (ltb max_length (length l)) (Refused 14 0) (prolog_step (opening.prolog l))

-- a step, and the rest of the document by what comes after it
abbrev pub after : List ℕ → (Mode → Answer (List Element)) → Step → Answer (List Element)
after l rest (Next m e) = given (elements_of l e) (rest m)
after l rest Done = gives []
after l rest (Refused n p) = refuses n p

-- the constructs from a mode on, at most n
unfoldable pub run : ℕ → List ℕ → Mode → Answer (List Element)
run zero l m = refuses 15 (length l)
run (suc n) l m = after l (run n l) (step_of l m)

-- each construct takes a byte at least, so one more than there are bytes is enough
abbrev pub read_from : List ℕ → Mode → Answer (List Element)
read_from l m = run (suc (length l)) l m

-- "14 for length first, then strictly left to right"
unfoldable pub document_of : List ℕ → Answer (List Element)
document_of l = after l (read_from l) (first_step l)

-- the answer to checking a document: its number of parts, or the refusal
unfoldable pub check_of : List ℕ → Answer ℕ
check_of l = giving total (document_of l)

abbrev pub check_answer : Result ℕ Refusal → Answer ℕ
check_answer (Ok n) = gives n
check_answer (Err r) = refuses (fault_number r.fault) r.offset
