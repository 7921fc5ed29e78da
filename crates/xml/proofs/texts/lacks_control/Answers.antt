use mathlib.Core.Path.{ap}
use mathlib.Core.Bool.{not}
use Rattle.xml.proofs.Contents.{block_start, block_on, block_end}
use Rattle.xml.proofs.texts.lacks_control.Goals as goal

pub loop-k-init : goal.loop-k-init
loop-k-init c = block_start _ _ _

pub loop-k-preserved : goal.loop-k-preserved
loop-k-preserved c = block_on _ _ _ c.requires c.loop-k-test.true c.loop-k.invariant (ap not c.is_control.ensures)

pub returns : goal.returns
returns c = block_end _ _ _ c.loop-k-test.false c.loop-k.invariant
