use Rattle.text.proofs.Runs.{run_on, run_stop, run_end}
use Rattle.xml_tags.proofs.ends.name_end.Goals as goal

pub loop-i-preserved : goal.loop-i-preserved
loop-i-preserved c = run_on _ _ _ _ c.loop-i.invariant c.loop-i-test.true c.is_tag_byte.ensures c.if-is_tag_byte.true

pub returns-else-is_tag_byte : goal.returns-else-is_tag_byte
returns-else-is_tag_byte c = run_stop _ _ _ _ c.loop-i.invariant c.loop-i-test.true c.is_tag_byte.ensures c.if-is_tag_byte.false

pub returns : goal.returns
returns c = run_end _ _ _ _ c.loop-i.invariant c.loop-i-test.false
