-- The day is 0, or an earlier test fails.
use Rattle.std.proofs.Common.{rules, tests}
use Rattle.time.proofs.limits.is_date.Goals as goal

pub returns-else-d-ge1 : goal.returns-else-d-ge1
returns-else-d-ge1 c = search (rules, tests)
