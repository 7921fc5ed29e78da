-- `coordinate_at` meets its contract: each way through it is one law of `coordinate_at`.
use mathlib.Core.Path.{sym, ◌∙◌}
use borrow.Author.Rules.{rules}
use Rattle.coordinates.proofs.Coordinates.{no_decimal, beyond, within_limit}
use Rattle.coordinates.proofs.scan.coordinate_at.Goals as goal

pub returns-in_err-magnitude : goal.returns-in_err-magnitude
returns-in_err-magnitude c = rw c.from_residual.ensures (no_decimal _ _ _ _ c.after_sign.ensures (sym c.decimal_at.ensures ∙ c.in_err-magnitude.was))

pub returns-then-limit-magnitude : goal.returns-then-limit-magnitude
returns-then-limit-magnitude c = beyond _ _ _ _ c.after_sign.ensures _ _
    (sym c.decimal_at.ensures ∙ c.in_ok-magnitude.was) c.if-limit-magnitude.true

pub returns : goal.returns
returns c = within_limit _ _ _ _ c.after_sign.ensures _ _
    (sym c.decimal_at.ensures ∙ c.in_ok-magnitude.was) c.if-limit-magnitude.false
    _ c.leads-minus.ensures.value _ c.with_sign.ensures (search rules)
