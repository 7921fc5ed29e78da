-- The table holds the names in their order, computed here.
use Rattle.refusals.specs.Names.{names, name_of}
use Rattle.refusals.proofs.name_of.Goals as goal

pub returns : goal.returns
unfolding names name_of
returns c = c.entry.ensures
