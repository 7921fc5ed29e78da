use mathlib.Core.Path.{sym, ap, ◌∙◌, refl}
use Rattle.std.specs.Prelude.{Ok}
use Rattle.text.specs.Answers.{gives, refuses}
use Rattle.document.specs.Steps.{step_answer}
use Rattle.document.specs.Tested.{tested}
use Rattle.document.specs.Documents.{first_step}
use Rattle.document.proofs.Tested.{first_tested}
use Rattle.document.proofs.Loops.{Reads, left_less, reads_first, reads_next, reads_done, reads_refused}
use Rattle.parts.specs.Reading.{answer_of, gathered}
use Rattle.parts.proofs.Results.{err_is}
use Rattle.parts.proofs.Loop.{step_on, bounded_first, bounded_next}
use Rattle.parts.proofs.reading.read.Goals as goal

pub returns-in_err-step : goal.returns-in_err-step
returns-in_err-step g c =
    let l = c.args.s.now in
    let noted = g.Q.Question.noted c.args.question.now in
    let r : Reads (λ n f. gives (n, f)) refuses noted l (gathered noted c.args.facts l) (first_step l) 0 c.args.facts = reads_first l _ _ refl in
    ap answer_of (err_is _ _ c.from_residual.ensures) ∙ reads_refused r _ _ (sym c.in_err-step.ensures)

pub loop-step-init : goal.loop-step-init
loop-step-init g c =
    let l = c.args.s.now in
    let e = ap (tested l) c.in_ok-step.ensures ∙ first_tested l in
    let q = g.met.Q.Question in
    let noted = g.Q.Question.noted c.args.question.now in
    (reads_first l _ _ e, rw e (bounded_first noted g.Q.Question.within (q.within_more c.args.question.now) q.within_wider l _ c.requires))

pub returns-in_err-step-2 : goal.returns-in_err-step-2
returns-in_err-step-2 g c =
    let l = c.args.s.now in
    let n = c.in-Some in
    let t = c.in_ok-note.ensures in
    let r = reads_next c.loop-step.invariant.0 n.m n.event _ _ (step_on l n.m n.event _ n.is t.tested) c.in_err-step-2.ensures t.added in
    ap answer_of (err_is _ _ c.from_residual-in_err-step-2.ensures) ∙ reads_refused r _ _ refl

pub loop-step-smaller : goal.loop-step-smaller
loop-step-smaller g c =
    let l = c.args.s.now in
    let n = c.in-Some in
    left_less l n.m n.event _ _ (step_on l n.m n.event _ n.is c.in_ok-note.ensures.tested) c.in_ok-step-2.ensures

pub loop-step-preserved : goal.loop-step-preserved
loop-step-preserved g c =
    let l = c.args.s.now in
    let n = c.in-Some in
    let t = c.in_ok-note.ensures in
    let q = g.met.Q.Question in
    let i = c.loop-step.invariant in
    let noted = g.Q.Question.noted c.args.question.now in
    let on = step_on l n.m n.event _ n.is t.tested in (
      reads_next i.0 _ _ _ _ on c.in_ok-step-2.ensures t.added,
      bounded_next noted g.Q.Question.within (q.within_more c.args.question.now) q.within_wider n.m.infos l n.event _ _ _ _ i.1
          (left_less l n.m n.event _ _ on c.in_ok-step-2.ensures) t.added,
    )

pub returns : goal.returns
returns g c = reads_done c.loop-step.invariant.0 (ap (λ o. tested c.args.s.now (step_answer (Ok o))) c.in_default.is)
