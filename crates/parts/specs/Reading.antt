-- What one reading of a document answers.
use Rattle.std.specs.Prelude.{cond, List, ℕ, ◌+◌, eqb, Result, Ok, Err}
use Rattle.text.specs.Answers.{Answer, gives, refuses}
use Rattle.rules.specs.Faults.{fault_number}
use Rattle.document.specs.declared.Event.{Event}
use Rattle.document.specs.declared.Refusal.{Refusal}
use Rattle.document.specs.Elements.{Element, answer}
use Rattle.document.specs.Documents.{max_length, document_of}
use Rattle.document.specs.Tested.{event_rule, text_start}

-- what the code answers of a document, or its refusal
abbrev pub answer_of : {A : Type 0} → Result A Refusal → Answer A
answer_of (Ok x) = gives x
answer_of (Err r) = refuses (fault_number r.fault) r.offset

-- an answer about a text that starts at an offset, by the number that its rule gives
abbrev pub by_rule : {A : Type 0} → (number from : ℕ) → A → Answer A
by_rule number from x = cond (eqb number 0) (gives x) (refuses number from)

-- testing the rule of an event's text
abbrev pub event_answer : List ℕ → Event → Answer (Unit {0})
event_answer l e = by_rule (event_rule l e) (text_start e) tt

-- the number of parts of a document that is read to its end, and the facts with what its elements add
abbrev pub gathered : {F : Type 0} → (ℕ → F → Element → F) → F → List ℕ → Answer (ℕ × F)
gathered note f l = answer (λ n g. gives (n, g)) refuses note 0 f (document_of l)

-- each construct counts once at most, and takes a byte
abbrev pub most : ℕ
most = max_length + 1
