-- The five tests are the definition's.
use Rattle.xml.proofs.Contents.{reference_is}
use Rattle.xml.proofs.texts.is_reference.Goals as goal

pub returns : goal.returns
returns c = reference_is _ c.starts_at.ensures
    c.starts_at-2.ensures c.starts_at-3.ensures
    c.starts_at-4.ensures c.starts_at-5.ensures
