-- The closed form is the sum of the years before, by `years_closed`.
use Rattle.time.proofs.Days.{years_closed}
use Rattle.time.proofs.calendar.days_before_year.Goals as goal

pub returns : goal.returns
returns c = years_closed _
