-- The pair that leads the text is the whole of it or not.
use mathlib.Core.Path.{sym, ◌∙◌}
use Rattle.coordinates.proofs.Readers.{no_pair, pair_part, pair_whole}
use Rattle.coordinates.proofs.read_pair.Goals as goal

pub returns-in_err-place : goal.returns-in_err-place
returns-in_err-place c = rw c.from_residual.ensures (no_pair c.args.text.now (sym c.leading_pair.ensures ∙ c.in_err-place.was))

pub returns-then-next-text : goal.returns-then-next-text
returns-then-next-text c = pair_part c.args.text.now _ _
    (sym c.leading_pair.ensures ∙ c.in_ok-place.was) c.if-next-text.true

pub returns : goal.returns
returns c = pair_whole c.args.text.now _ _
    (sym c.leading_pair.ensures ∙ c.in_ok-place.was) c.if-next-text.false
