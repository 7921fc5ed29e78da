-- The table is the definition's.
use Rattle.std.proofs.Common.{◌∙◌, ap, arith}
use Rattle.std.specs.Option.{unwrap_or}
use Rattle.circle.specs.Cosine.{cosines}
use Rattle.circle.proofs.cosine.Goals as goal

pub returns : goal.returns
unfolding cosines
returns c = c.unwrap_or.ensures ∙ ap (λ o. unwrap_or o 0) c.copied.ensures ∙ c.get.ensures.lookup.4 (omega arith) 0
