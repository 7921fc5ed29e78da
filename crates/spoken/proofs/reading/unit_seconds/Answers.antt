-- Each branch is the definition's.
use Rattle.spoken.proofs.Units.{below_day, in_day, in_hour, in_minute, in_second, no_unit}
use Rattle.spoken.proofs.reading.unit_seconds.Goals as goal

pub returns-then-w-lt-DAY : goal.returns-then-w-lt-DAY
returns-then-w-lt-DAY c = below_day _ c.if-w-lt-DAY.true

pub returns-then-w-lt-HOUR : goal.returns-then-w-lt-HOUR
returns-then-w-lt-HOUR c = in_day _ c.if-w-lt-DAY.false c.if-w-lt-HOUR.true

pub returns-then-w-lt-MINUTE : goal.returns-then-w-lt-MINUTE
returns-then-w-lt-MINUTE c = in_hour _ c.if-w-lt-HOUR.false c.if-w-lt-MINUTE.true

pub returns-then-w-lt-SECOND : goal.returns-then-w-lt-SECOND
returns-then-w-lt-SECOND c = in_minute _ c.if-w-lt-MINUTE.false c.if-w-lt-SECOND.true

pub returns-then-w-lt-UNKNOWN : goal.returns-then-w-lt-UNKNOWN
returns-then-w-lt-UNKNOWN c = in_second _ c.if-w-lt-SECOND.false c.if-w-lt-UNKNOWN.true

pub returns : goal.returns
returns c = no_unit _ c.if-w-lt-UNKNOWN.false
