-- Both differences fit an i64, by the bounds on local seconds and offset.
use Rattle.time.proofs.Seconds.{local_fits, since_fits, instant_fits, instant_is}
use Rattle.time.proofs.Existing.instant.Goals as goal

pub overflow_cast-result : goal.overflow_cast-result
overflow_cast-result c = local_fits c.args.self.stamp c.args.self.within _ c.local_seconds.ensures

pub overflow_sub-result : goal.overflow_sub-result
overflow_sub-result c = since_fits c.args.self.stamp c.args.self.within _ c.local_seconds.ensures

pub overflow_sub-result-2 : goal.overflow_sub-result-2
overflow_sub-result-2 c = instant_fits c.args.self.stamp c.args.self.within _ c.local_seconds.ensures _ c.offset.ensures c.offset.type_inv

pub returns : goal.returns
returns c = instant_is c.args.self.stamp c.args.self.within _ c.local_seconds.ensures _ c.offset.ensures c.offset.type_inv
