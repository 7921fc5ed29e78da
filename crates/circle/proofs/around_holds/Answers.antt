-- By the radius, and by whether the place is near.
use Rattle.circle.proofs.Near.{too_wide, is_side}
use Rattle.circle.proofs.around_holds.Goals as goal

pub returns-then-metres-gt-MOST_METRES : goal.returns-then-metres-gt-MOST_METRES
returns-then-metres-gt-MOST_METRES c = too_wide c.args.centre _ c.args.place c.if-metres-gt-MOST_METRES.true

pub returns : goal.returns
returns c = is_side c.args.centre _ c.args.place c.if-metres-gt-MOST_METRES.false _ c.units_of.ensures.0 _ c.is_near.ensures
