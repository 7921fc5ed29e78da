-- What ends the tag says what is given.
use native.Mathlib.Omega.{arith}
use Rattle.xml_tags.proofs.Value.{value_within}
use Rattle.xml_tags.proofs.attributes.read_value.Goals as goal

pub overflow_add-at : goal.overflow_add-at
overflow_add-at c = let a = c.args in
    omega (arith, value_within a.s.now a.at c.starts_at.ensures c.starts_at-2.ensures c.if-not-is_value.false)
