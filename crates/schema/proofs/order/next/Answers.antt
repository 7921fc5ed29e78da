-- Outside the tables nothing may follow.
use native.Mathlib.Omega.{arith}
use Rattle.schema.proofs.Table.{zero_state, no_state, no_class}
use Rattle.schema.proofs.order.next.Goals as goal

pub returns-then-class-ge-CLASSES : goal.returns-then-class-ge-CLASSES
returns-then-class-ge-CLASSES c = no_class _ _ c.if-class-ge-CLASSES.true

pub returns-in-0 : goal.returns-in-0
returns-in-0 c = zero_state _ _ (omega arith)

pub returns-in_default : goal.returns-in_default
returns-in_default c = no_state _ _ (omega arith)
