-- A construct may be read without testing the rule of its text, so that whoever reads the text for something else too can test it then.
use Rattle.std.specs.Prelude.{cond, Result, Ok, Err, List, ℕ, eqb}
use Rattle.text.specs.Parts.{part}
use Rattle.rules.specs.Texts.{text_rule}
use Rattle.rules.specs.Faults.{fault_number}
use Rattle.document.specs.declared.Mode.{Mode}
use Rattle.document.specs.declared.Event.{Event}
use Rattle.document.specs.declared.Event.TheVariants.{Silent, Opened, Text, Closed}
use Rattle.document.specs.declared.Refusal.{Refusal}
use Rattle.document.specs.Steps.{Step, Next, Done, Refused}

-- the number that the rule of an event's text gives; 0 for a text that keeps to it, and for an event without one
abbrev pub event_rule : List ℕ → Event → ℕ
event_rule l Silent = 0
event_rule l (Opened c p) = 0
event_rule l (Text c from until) = text_rule c (part l from until)
event_rule l (Closed c) = 0

-- where the text of an event starts; 0 for an event without one
abbrev pub text_start : Event → ℕ
text_start Silent = 0
text_start (Opened c p) = 0
text_start (Text c from until) = from
text_start (Closed c) = 0

-- the step that was read, with the rule of its text tested: "for a text's content, the byte after its start tag"
abbrev pub tested : List ℕ → Step → Step
tested l (Next m e) = cond (eqb (event_rule l e) 0) (Next m e) (Refused (event_rule l e) (text_start e))
tested l Done = Done
tested l (Refused n p) = Refused n p

-- the answer to testing the text of a step's event
abbrev pub test_answer : Mode → Event → Result Unit Refusal → Step
test_answer m e (Ok u) = Next m e
test_answer m e (Err r) = Refused (fault_number r.fault) r.offset
