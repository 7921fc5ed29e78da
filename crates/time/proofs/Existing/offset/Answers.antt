-- The stamp's limits keep the seconds to 50,400, so they fit an i64 with either sign.
use Rattle.time.proofs.Seconds.{ahead_fits, west_fits, west_is, east_is}
use Rattle.time.proofs.Existing.offset.Goals as goal

pub overflow_cast-seconds : goal.overflow_cast-seconds
overflow_cast-seconds c = ahead_fits _ c.args.self.within

pub overflow_sub-result : goal.overflow_sub-result
overflow_sub-result c = west_fits _ c.args.self.within

pub returns-then-t : goal.returns-then-t
returns-then-t c = west_is c.args.self.stamp c.args.self.within c.if-t.true

pub returns-else-t : goal.returns-else-t
returns-else-t c = east_is c.args.self.stamp c.args.self.within c.if-t.false
