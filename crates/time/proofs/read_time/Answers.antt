-- Each branch gives what the definition gives: too few bytes, the form's bytes with white space after, or something else after.
use Rattle.std.proofs.Common.{◌∙◌, ap}
use Rattle.time.specs.Time.{stamp_time}
use Rattle.time.proofs.Answer.{time_short, time_whole, time_stray}
use Rattle.time.proofs.read_time.Goals as goal

pub returns-in_err-time : goal.returns-in_err-time
returns-in_err-time c = rw c.from_residual.ensures (time_short _ _ _ c.skip_space-start.ensures c.skip.ensures c.in_err-time.ensures.cases)

pub returns-then-skip_space-rest : goal.returns-then-skip_space-rest
returns-then-skip_space-rest c =
    time_stray _ _ _ c.skip_space-start.ensures c.skip.ensures _ c.in_ok-time.ensures.cases.1 (rw c.skip_space.ensures at c.if-skip_space-rest.true)

pub returns : goal.returns
returns c =
    let whole = time_whole _ _ _ c.skip_space-start.ensures c.skip.ensures _ c.in_ok-time.ensures.cases.1 (rw c.skip_space.ensures at c.if-skip_space-rest.false) in
    c.stamp_time.ensures ∙ ap stamp_time c.in_ok-time.ensures.cases.0 ∙ whole
