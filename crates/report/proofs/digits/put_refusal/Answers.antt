-- The two numbers, each after its text, and the newline.
use Rattle.buffer.proofs.Chain.{all_then}
use Rattle.report.specs.Lines.{refusal_line}
use Rattle.report.proofs.digits.put_refusal.Goals as goal

pub returns : goal.returns
unfolding refusal_line
returns c = all_then c.put_numbered-a.ensures (all_then c.put_numbered-b.ensures c.put.ensures)
