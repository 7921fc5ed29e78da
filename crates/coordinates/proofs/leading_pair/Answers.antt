-- `leading_pair` meets its contract: each way through it is one law of `leadingPair`.
use mathlib.Core.Path.{sym, ◌∙◌}
use borrow.Author.Rules.{rules}
use Rattle.coordinates.proofs.Readers.{no_latitude, no_comma, no_longitude, both}
use Rattle.coordinates.proofs.leading_pair.Goals as goal

pub returns-in_err-lat : goal.returns-in_err-lat
returns-in_err-lat c = rw c.from_residual.ensures (no_latitude _ _ (sym c.coordinate_at.ensures ∙ c.in_err-lat.was))

pub returns-then-not-leads : goal.returns-then-not-leads
returns-then-not-leads c = no_comma _ _ _ _ (sym c.coordinate_at.ensures ∙ c.in_ok-lat.was) (sym c.leads.ensures.value ∙ c.if-not-leads.true)

pub returns : goal.returns
returns c = both _ _ _ _ (sym c.coordinate_at.ensures ∙ c.in_ok-lat.was) (sym c.leads.ensures.value ∙ c.if-not-leads.false)
    _ _ (sym c.coordinate_at-2.ensures ∙ c.in_ok-lon.was) (search rules)
    (search rules)

pub returns-in_err-lon : goal.returns-in_err-lon
returns-in_err-lon c = rw c.from_residual-in_err-lon.ensures (no_longitude _ _ _ _ (sym c.coordinate_at.ensures ∙ c.in_ok-lat.was)
    (sym c.leads.ensures.value ∙ c.if-not-leads.false)
    (sym c.coordinate_at-2.ensures ∙ c.in_err-lon.was))
