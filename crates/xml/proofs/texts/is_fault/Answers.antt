-- The tests are the definition's; past the end is no fault.
use Rattle.xml.proofs.Contents.{fault_is, fault_past}
use Rattle.xml.proofs.texts.is_fault.Goals as goal

pub returns-then-s-at : goal.returns-then-s-at
returns-then-s-at c = fault_past _ _ c.if-s-at.true

pub returns : goal.returns
returns c = fault_is _ _ c.if-s-at.false c.is_control.ensures
    c.is_reference.ensures c.starts_at.ensures
