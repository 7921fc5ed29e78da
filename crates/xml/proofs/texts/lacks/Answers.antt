use Rattle.xml.proofs.Contents.{block_start, block_on, block_end}
use Rattle.xml.proofs.texts.lacks.Goals as goal

pub loop-i-init : goal.loop-i-init
loop-i-init c = block_start _ _ _

pub loop-i-preserved : goal.loop-i-preserved
loop-i-preserved c = block_on _ _ _ c.requires c.loop-i-test.true c.loop-i.invariant c.is_other-free.ensures

pub returns : goal.returns
returns c = block_end _ _ _ c.loop-i-test.false c.loop-i.invariant
