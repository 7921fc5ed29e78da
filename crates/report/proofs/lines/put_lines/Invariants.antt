-- Before each turn the lines of the parts that are left, written from the next start on, make the whole.
use Rattle.report.proofs.Following.{Left}
use Rattle.report.proofs.lines.put_lines.Given as goal

abbrev pub invariant-loop-part : goal.invariant-loop-part
invariant-loop-part l = Left l.s l.initial.dst l.many l.first l.dst l.at l.part
