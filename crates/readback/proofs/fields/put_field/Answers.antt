-- The text, and the field in the part after it.
use native.Mathlib.Nat.{le_of_lt}
use native.Mathlib.Omega.{arith}
use Rattle.buffer.proofs.Chain.{put_past, two}
use Rattle.buffer.proofs.Lent.{lent, lent_within}
use Rattle.readback.proofs.fields.put_field.Goals as goal

pub returns-then-dst-a : goal.returns-then-dst-a
returns-then-dst-a g c = two c.put-a.ensures (put_past _ _ _ (le_of_lt c.if-dst-a.true))

pub returns : goal.returns
returns g c = two c.put-a.ensures (lent _ _ c.if-dst-a.false c.put.ensures)

pub overflow_add-result : goal.overflow_add-result
overflow_add-result g c = omega (arith, lent_within _ c.put-a.new.dst c.if-dst-a.false c.put.ensures)
