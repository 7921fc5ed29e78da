-- The table with the leap day is the sum of the months before, by `months_table`.
use Rattle.std.proofs.Common.{rules, tests, ◌≡◌, ◌-◌, ltb, ◌&&◌, arith}
use Rattle.time.specs.Calendar.{is_leap}
use Rattle.time.proofs.Days.{months_table, months_le}
use Rattle.time.proofs.calendar.days_before_month.Goals.{then-m-gt2, else-m-gt2}
use Rattle.time.proofs.calendar.days_before_month.Goals as goal

leap_day : (c : goal.After-from) → c.if-m-gt2.from ≡ (ltb 2 c.args.m && is_leap c.args.y)
leap_day c = elim c.if-m-gt2.branch [ then-m-gt2 w ↦ search (rules, tests) | else-m-gt2 w ↦ search (rules, tests) ]

pub overflow_add-result : goal.overflow_add-result
overflow_add-result c = omega (arith, months_table c.requires c.args.y _ (leap_day c), months_le c.args.y (c.args.m - 1))

pub returns : goal.returns
returns c = rw c.from.ensures (months_table c.requires c.args.y _ (leap_day c))
