-- The walk whose step adds an edge.
use Rattle.std.proofs.Common.{rules}
use Rattle.polygon.proofs.Rings.{adding, walk_holds}
use Rattle.polygon.proofs.polygon_holds.Goals as goal

pub returns-in_err-sum : goal.returns-in_err-sum
returns-in_err-sum c =
    rw (c.from_residual.ensures, ← walk_holds c.args.text.now c.args.place _ (c.walk.ensures (adding c.args.place) (λ t a b r e. search rules)))
    (rw c.in_err-sum.was)

pub returns : goal.returns
returns c =
    rw (← walk_holds c.args.text.now c.args.place _ (c.walk.ensures (adding c.args.place) (λ t a b r e. search rules)))
    (rw c.in_ok-sum.was)
