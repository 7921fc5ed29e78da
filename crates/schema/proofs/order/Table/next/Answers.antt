-- The entry read is the next state.
use Rattle.schema.proofs.Table.{column_below, entry_is}
use Rattle.schema.proofs.order.Table.next.Goals as goal

pub bounds-self-self : goal.bounds-self-self
bounds-self-self g c = column_below c.requires.right c.requires.from c.requires.below c.requires.class

pub returns : goal.returns
returns g c = entry_is c.requires.right c.requires.from c.requires.below c.requires.class
