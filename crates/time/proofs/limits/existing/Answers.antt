use Rattle.std.proofs.Common.{sym, ◌∙◌}
use Rattle.time.proofs.Bounds.{stamped}
use Rattle.time.proofs.limits.existing.Goals as goal

pub invariant_of-result : goal.invariant_of-result
invariant_of-result c = record { within = stamped c.args.t (sym c.is_stamp.ensures ∙ c.if-is_stamp.true) }
