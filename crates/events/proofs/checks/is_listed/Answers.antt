-- The key is looked for by the library's search.
use Rattle.std.proofs.Common.{◌∙◌}
use Rattle.events.proofs.Search.{listed_any}
use Rattle.events.proofs.checks.is_listed.Goals as goal

pub returns : goal.returns
returns c = c.contains.ensures.value ∙ listed_any c.args.keys.now c.args.key
