-- `decimal_at` meets its contract: each way through it is one law of `decimal_at`, over the runs that `digits_at` read.
use mathlib.Core.Path.{sym, ◌∙◌}
use native.Mathlib.Nat.{sub-le, le_trans}
use Rattle.coordinates.proofs.Runs.{ran_lt, ran_start, ran_few}
use Rattle.coordinates.proofs.Decimals.{too_long, no_digits, no_point, part_too_long, part_no_digits, with_part}
use Rattle.coordinates.proofs.scan.decimal_at.Goals as goal

pub returns-in_err-units : goal.returns-in_err-units
returns-in_err-units c = rw c.from_residual.ensures (too_long _ _ _ _ (sym c.digits_at.ensures ∙ c.in_err-units.was))

pub returns-then-point-at : goal.returns-then-point-at
returns-then-point-at c = no_digits _ _ _ _ _ _ (sym c.digits_at.ensures ∙ c.in_ok-units.was) c.if-point-at.true

pub scale-value-requires : goal.scale-value-requires
scale-value-requires c = let p = c.requires in
    (ran_lt _ _ _ _ _ (sym c.digits_at.ensures ∙ c.in_ok-units.was) p.0, p.1)

pub returns-then-not-leads : goal.returns-then-not-leads
returns-then-not-leads c = no_point _ _ _ _ _ _ (sym c.digits_at.ensures ∙ c.in_ok-units.was)
    c.if-point-at.false _ c.scale-value.ensures.0 (sym c.leads.ensures.value ∙ c.if-not-leads.true)

pub returns-in_err-parts : goal.returns-in_err-parts
returns-in_err-parts c = rw c.from_residual-in_err-parts.ensures (part_too_long _ _ _ _ _ _ (sym c.digits_at.ensures ∙ c.in_ok-units.was) c.if-point-at.false _
    c.scale-value.ensures.0 (sym c.leads.ensures.value ∙ c.if-not-leads.false)
    (sym c.digits_at-2.ensures ∙ c.in_err-parts.was))

pub returns-then-end-start : goal.returns-then-end-start
returns-then-end-start c = part_no_digits _ _ _ _ _ _ (sym c.digits_at.ensures ∙ c.in_ok-units.was) c.if-point-at.false _
    c.scale-value.ensures.0 (sym c.leads.ensures.value ∙ c.if-not-leads.false)
    _ _ (sym c.digits_at-2.ensures ∙ c.in_ok-parts.was) c.if-end-start.true

pub overflow_sub-end : goal.overflow_sub-end
overflow_sub-end c = ran_start _ _ _ _ _ (sym c.digits_at-2.ensures ∙ c.in_ok-parts.was)

pub overflow_sub-places : goal.overflow_sub-places
overflow_sub-places c = ran_few _ _ _ _ _ (sym c.digits_at-2.ensures ∙ c.in_ok-parts.was)

pub scale-requires : goal.scale-requires
scale-requires c = let p = c.requires in (
  ran_lt _ _ _ _ _ (sym c.digits_at-2.ensures ∙ c.in_ok-parts.was) p.1,
  le_trans (sub-le _ _) p.1,
)

pub returns : goal.returns
returns c = with_part _ _ _ _ _ _ (sym c.digits_at.ensures ∙ c.in_ok-units.was) c.if-point-at.false _
    c.scale-value.ensures.0 (sym c.leads.ensures.value ∙ c.if-not-leads.false)
    _ _ (sym c.digits_at-2.ensures ∙ c.in_ok-parts.was) c.if-end-start.false
    _ c.scale.ensures.0
