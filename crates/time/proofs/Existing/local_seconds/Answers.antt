-- The days come from the callee, and the stamp's limits keep the sum small.
use Rattle.time.specs.Time.{local_seconds}
use Rattle.time.proofs.Existing.local_seconds.Goals as goal

pub returns : goal.returns
unfolding local_seconds
returns c = rw c.days_before.ensures.0
