use Rattle.text.specs.Parts.{starts_with}
use Rattle.xml.proofs.Searches.{holds_on, holds_here, holds_none}
use Rattle.xml.proofs.faults.holds.Goals as goal

pub returns-then-starts_at : goal.returns-then-starts_at
returns-then-starts_at c = holds_here (starts_with c.args.p.now) _ _ _ c.loop-i.invariant c.loop-i-test.true c.starts_at.ensures c.if-starts_at.true

pub loop-i-preserved : goal.loop-i-preserved
loop-i-preserved c = holds_on (starts_with c.args.p.now) _ _ _ c.loop-i.invariant c.loop-i-test.true c.starts_at.ensures c.if-starts_at.false

pub returns : goal.returns
returns c = holds_none (starts_with c.args.p.now) _ _ _ c.loop-i.invariant c.loop-i-test.false
