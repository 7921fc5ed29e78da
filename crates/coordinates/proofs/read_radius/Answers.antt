-- The decimal that leads the text is the whole of it or not, and within the limit or not.
use Rattle.std.proofs.Common.{sym, ◌∙◌}
use Rattle.coordinates.specs.Decimal.{radius_of}
use Rattle.coordinates.proofs.Decimals.{no_decimal_read, radius_part, radius_beyond, radius_whole}
use Rattle.coordinates.proofs.read_radius.Goals.{then-after-text-via-then-after-text, then-after-text-via-else-after-text+then-metres-gt-RADIUS_LIMIT}
use Rattle.coordinates.proofs.read_radius.Goals as goal

pub returns-in_err-metres : goal.returns-in_err-metres
unfolding radius_of
returns-in_err-metres c = rw (c.from_residual.ensures, no_decimal_read 5 3 0 _ (sym c.decimal_at.ensures ∙ c.in_err-metres.was))

pub returns-then-after-text : goal.returns-then-after-text
returns-then-after-text c =
    let read = sym c.decimal_at.ensures ∙ c.in_ok-metres.was in
    elim c.then-after-text.branch [
      | then-after-text-via-then-after-text w ↦ radius_part c.args.text.now _ _ read w.if-after-text.true
      | then-after-text-via-else-after-text+then-metres-gt-RADIUS_LIMIT w ↦ radius_beyond c.args.text.now _ _ read w.if-after-text.false w.if-metres-gt-RADIUS_LIMIT.true
    ]

pub returns : goal.returns
returns c =
    radius_whole c.args.text.now _ _ (sym c.decimal_at.ensures ∙ c.in_ok-metres.was) c.if-after-text.false c.if-metres-gt-RADIUS_LIMIT.false
