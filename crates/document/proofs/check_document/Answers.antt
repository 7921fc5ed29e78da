use mathlib.Core.Path.{◌≡◌, refl}
use Rattle.std.specs.Prelude.{Err}
use Rattle.std.proofs.Common.{rules}
use Rattle.document.specs.Documents.{check_of, check_answer}
use Rattle.document.proofs.Loops.{took, left_less, checks_first, reads_next, reads_done, reads_refused}
use Rattle.document.proofs.check_document.Goals as goal

pub returns-in_err-step : goal.returns-in_err-step
returns-in_err-step c =
    let h : check_answer (Err c.in_err-step.field-0.0) ≡ check_of c.args.s.now = reads_refused (checks_first _ _ c.in_err-step.ensures) _ _ refl in
    search rules

pub loop-step-init : goal.loop-step-init
loop-step-init c = checks_first _ _ c.in_ok-step.ensures

pub loop-step-smaller : goal.loop-step-smaller
loop-step-smaller c = left_less _ _ _ _ _ (took c.in-Some.is) c.in_ok-step-2.ensures

pub loop-step-preserved : goal.loop-step-preserved
loop-step-preserved c = reads_next c.loop-step.invariant _ _ _ tt (took c.in-Some.is) c.in_ok-step-2.ensures refl

pub returns-in_err-step-2 : goal.returns-in_err-step-2
returns-in_err-step-2 c =
    let r = reads_next c.loop-step.invariant _ _ _ tt (took c.in-Some.is) c.in_err-step-2.ensures refl in
    let h : check_answer (Err c.in_err-step-2.field-0.0) ≡ check_of c.args.s.now = reads_refused r _ _ refl in
    search rules

pub returns : goal.returns
returns c = reads_done (rw c.in_default.is at c.loop-step.invariant) refl
