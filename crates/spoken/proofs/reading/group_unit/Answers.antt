-- Each branch is the definition's.
use borrow.Author.Tests.{eq-eqb, ne_eqb}
use Rattle.spoken.proofs.reading.group_unit.Goals as goal

pub returns-then-w-eq-THOUSAND : goal.returns-then-w-eq-THOUSAND
returns-then-w-eq-THOUSAND c = rw (eq-eqb c.args.w 29 c.if-w-eq-THOUSAND.true)

pub returns-then-w-eq-MILLION : goal.returns-then-w-eq-MILLION
returns-then-w-eq-MILLION c = rw (ne_eqb c.args.w 29 c.if-w-eq-THOUSAND.false, eq-eqb c.args.w 30 c.if-w-eq-MILLION.true)

pub returns : goal.returns
returns c = rw (ne_eqb c.args.w 29 c.if-w-eq-THOUSAND.false, ne_eqb c.args.w 30 c.if-w-eq-MILLION.false)
