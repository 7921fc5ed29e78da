-- The decision is carried out; where it stores, its index is one of the entries.
use Rattle.std.proofs.Common.{◌<◌, ◌∙◌, sym, rules, length}
use Rattle.std.proofs.lemmas.Result.{err_from_is_err_and}
use Rattle.events.proofs.Outcomes.{answer_and_entries, stored_is, refused_is, store_within}
use Rattle.events.proofs.tables.accept.Goals as goal

pub returns-in_err-at : goal.returns-in_err-at
returns-in_err-at c = let p = err_from_is_err_and c.from_residual.result c.from_residual.ensures.1 in
    rw (p.1, p.2) (answer_and_entries (refused_is _ _ _ (sym c.decide.ensures ∙ c.in_err-at.was)))

pub offset_bounds-entries-at : goal.offset_bounds-entries-at
offset_bounds-entries-at c = let within : c.in_ok-at.at < length c.args.entries.now = store_within _ c.args.new _ _ (sym c.decide.ensures ∙ c.in_ok-at.was) in
    search rules

pub bounds-entries-at : goal.bounds-entries-at
bounds-entries-at c = store_within _ c.args.new _ _ (sym c.decide.ensures ∙ c.in_ok-at.was)

pub returns : goal.returns
returns c = answer_and_entries (stored_is _ _ _ _ (sym c.decide.ensures ∙ c.in_ok-at.was))
