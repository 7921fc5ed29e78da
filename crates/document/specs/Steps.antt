-- What one construct gives.
use Rattle.std.specs.Prelude.{Option, Some, None, Result, Ok, Err, ℕ}
use Rattle.rules.specs.Faults.{fault_number}
use Rattle.document.specs.declared.Mode.{Mode}
use Rattle.document.specs.declared.Event.{Event}
use Rattle.document.specs.declared.Refusal.{Refusal}

-- the mode after it and what it tells; the document's end; or a refusal, with its number and its place
pub data Step : Type 0 where
  Next : (m : Mode) (e : Event) → Step
  Done : Step
  Refused : (number place : ℕ) → Step

-- what a function answers that reads a tag or a comment, and what one answers that may come to the document's end
abbrev pub taken_answer : Result (Mode × Event) Refusal → Step
taken_answer (Ok (m, e)) = Next m e
taken_answer (Err r) = Refused (fault_number r.fault) r.offset

abbrev pub step_answer : Result (Option (Mode × Event)) Refusal → Step
step_answer (Ok (Some (m, e))) = Next m e
step_answer (Ok None) = Done
step_answer (Err r) = Refused (fault_number r.fault) r.offset
