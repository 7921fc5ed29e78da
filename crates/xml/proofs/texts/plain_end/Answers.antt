use Rattle.text.proofs.Runs.{run_on, run_stop, run_end}
use Rattle.xml.proofs.texts.plain_end.Goals as goal

pub loop-i-init : goal.loop-i-init
loop-i-init c = c.skip_blocks-i.ensures

pub loop-i-preserved : goal.loop-i-preserved
loop-i-preserved c = run_on _ _ _ _ c.loop-i.invariant c.loop-i-test.true c.is_plain.ensures c.if-is_plain.true

pub returns-else-is_plain : goal.returns-else-is_plain
returns-else-is_plain c = run_stop _ _ _ _ c.loop-i.invariant c.loop-i-test.true c.is_plain.ensures c.if-is_plain.false

pub returns : goal.returns
returns c = run_end _ _ _ _ c.loop-i.invariant c.loop-i-test.false
