-- The test of a control byte is the definition's, and so are the others.
use Rattle.xml.proofs.bytes.is_plain.Goals as goal

pub returns : goal.returns
returns c = rw c.is_control.ensures
