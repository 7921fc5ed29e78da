-- The byte at the offset leads the rest, and past the end nothing does.
use Rattle.std.proofs.Common.{sym, rules, tests}
use Rattle.coordinates.proofs.Leading.{leads_at, leads_none}
use Rattle.coordinates.proofs.scan.leads.Goals as goal

pub returns-in-Some-clause-value : goal.returns-in-Some-clause-value
returns-in-Some-clause-value c =
    let (within, is) = c.in-Some.ensures.lookup.3 in
    rw (leads_at c.args.s.now c.args.at c.args.b _ within (is 0)) (search (rules, tests))

pub returns-in_default-clause-value : goal.returns-in_default-clause-value
returns-in_default-clause-value c =
    let (within, is) = c.in-Some.ensures.lookup.3 in
    rw (leads_at c.args.s.now c.args.at c.args.b _ within (is 0)) (search (rules, tests))

pub returns-in_default-2-clause-value : goal.returns-in_default-2-clause-value
returns-in_default-2-clause-value c = sym (leads_none _ _ _ (rw c.in_default.is at c.get.ensures.lookup.3))
