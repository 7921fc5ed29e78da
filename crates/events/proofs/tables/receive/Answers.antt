-- By what the checks come to, the table's own answer or the refusal.
use Rattle.std.proofs.Common.{◌∙◌, ap}
use Rattle.std.proofs.lemmas.Result.{err_from_is_err_and}
use Rattle.events.specs.Table.{answered, received}
use Rattle.events.proofs.Outcomes.{answer_and_entries}
use Rattle.events.proofs.tables.receive.Goals as goal

pub returns-in_err-new : goal.returns-in_err-new
unfolding received
returns-in_err-new c = let p = err_from_is_err_and c.from_residual.result c.from_residual.ensures.1 in
    rw (p.1, p.2) (answer_and_entries (ap (answered c.args.entries.now) c.in_err-new.ensures))

pub returns : goal.returns
unfolding received
returns c = let e = answer_and_entries (ap (answered c.args.entries.now) c.in_ok-new.ensures) in
    (c.accept.ensures.0 ∙ e.0, c.accept.ensures.1 ∙ e.1)
