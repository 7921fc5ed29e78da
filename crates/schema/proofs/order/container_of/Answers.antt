-- The table of containers passes its test, computed here.
use borrow.Author.Rules.{rules}
use Rattle.schema.specs.Sequences.{container_of}
use Rattle.schema.proofs.Table.{owner_is, no_owner}
use Rattle.schema.proofs.order.container_of.Goals as goal

pub returns-then-state-lt-STATES : goal.returns-then-state-lt-STATES
unfolding container_of
returns-then-state-lt-STATES c = search (rules, owner_is)

pub returns-else-state-lt-STATES : goal.returns-else-state-lt-STATES
unfolding container_of
returns-else-state-lt-STATES c = no_owner _ c.if-state-lt-STATES.false
