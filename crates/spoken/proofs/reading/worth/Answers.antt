-- Each branch is the definition's.
use borrow.Author.Tests.{lt-ltb, le-ltb}
use Rattle.spoken.proofs.reading.worth.Goals as goal

pub returns-then-w-lt20 : goal.returns-then-w-lt20
returns-then-w-lt20 c = rw (lt-ltb c.args.w 20 c.if-w-lt20.true)

pub returns : goal.returns
returns c = rw (le-ltb c.args.w 20 c.if-w-lt20.false)
