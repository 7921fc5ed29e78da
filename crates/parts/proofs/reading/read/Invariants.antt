-- What is still to be answered is the document's answer; each construct, once its text is tested, leads on. No count passes the number of bytes.
use Rattle.std.specs.Prelude.{Ok}
use Rattle.text.specs.Answers.{gives, refuses}
use Rattle.document.specs.Steps.{step_answer}
use Rattle.document.specs.Tested.{tested}
use Rattle.document.proofs.Loops.{left, Reads}
use Rattle.parts.specs.Reading.{gathered}
use Rattle.parts.proofs.Loop.{Bounded}
use Rattle.parts.proofs.reading.read.Given as goal

abbrev pub invariant-loop-step : goal.invariant-loop-step
invariant-loop-step g l =
    let noted = g.Q.Question.noted l.question in
    let step = tested l.s (step_answer (Ok l.step)) in
    Reads (λ n f. gives (n, f)) refuses noted l.s (gathered noted l.fn.facts l.s) step l.infos l.facts
    × Bounded g.Q.Question.within (left l.s step) l.facts

abbrev pub decreases-loop-step : goal.decreases-loop-step
decreases-loop-step g l = left l.s (tested l.s (step_answer (Ok l.step)))
