-- The circle that was read, if any, is asked.
use Rattle.std.proofs.Common.{◌∙◌}
use Rattle.circle.specs.Circle.{circle_holds}
use Rattle.circle.proofs.circle_holds.Goals as goal

pub returns-in_err-circle : goal.returns-in_err-circle
unfolding circle_holds
returns-in_err-circle c = rw (c.from_residual.ensures, ← c.read_circle.ensures, c.in_err-circle.was)

pub returns : goal.returns
unfolding circle_holds
returns c = c.around_holds.ensures ∙ rw (← c.read_circle.ensures, c.in_ok-circle.was)
