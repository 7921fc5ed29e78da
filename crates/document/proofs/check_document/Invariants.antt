-- What is still to be answered is the document's answer; each construct leads on.
use Rattle.std.specs.Prelude.{Ok}
use Rattle.document.specs.Steps.{step_answer}
use Rattle.document.proofs.Loops.{left, Checks}
use Rattle.document.proofs.check_document.Given as goal

abbrev pub invariant-loop-step : goal.invariant-loop-step
invariant-loop-step l = Checks l.s (step_answer (Ok l.step)) l.infos

abbrev pub decreases-loop-step : goal.decreases-loop-step
decreases-loop-step l = left l.s (step_answer (Ok l.step))
