-- Where x or y is above u, its square alone is above the square of u.
use Rattle.std.proofs.Common.{arith}
use borrow.Author.Tests.{lt-leb}
use Rattle.circle.proofs.Near.{squares_wide, squares_high}
use Rattle.circle.proofs.within_squares.Goals.{then-x-u, else-x-u}
use Rattle.circle.proofs.within_squares.Goals as goal

pub returns-else-y-u : goal.returns-else-y-u
returns-else-y-u c =
    let x = c.args.x in
    let y = c.args.y in
    let u = c.args.u in
    elim c.if-x-u.branch [
      | then-x-u w ↦ rw (w.t-5-is, lt-leb y u (omega arith)) (squares_high x y u (omega arith))
      | else-x-u w ↦ rw (w.t-5-is, lt-leb x u (omega arith)) (squares_wide x y u (omega arith))
    ]
