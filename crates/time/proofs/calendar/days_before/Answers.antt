-- The table of months passes its test, computed here. The sum of what the callees gave; the date is within the limits, so it is small.
use native.Mathlib.Omega.{arith}
use borrow.Author.Rules.{rules}
use Rattle.time.specs.Calendar.{days_of_months}
use Rattle.time.proofs.Bounds.{days_below}
use Rattle.time.proofs.calendar.days_before.Goals as goal

pub days_before_year-requires : goal.days_before_year-requires
unfolding days_of_months
days_before_year-requires c = search rules

pub days_before_month-requires : goal.days_before_month-requires
unfolding days_of_months
days_before_month-requires c = search rules

pub overflow_add-result : goal.overflow_add-result
unfolding days_of_months
overflow_add-result c = omega (arith, days_below c.requires)

pub overflow_add-result-2 : goal.overflow_add-result-2
unfolding days_of_months
overflow_add-result-2 c = omega (arith, days_below c.requires)

pub returns : goal.returns
unfolding days_of_months
returns c = (search rules, omega (arith, days_below c.requires))
