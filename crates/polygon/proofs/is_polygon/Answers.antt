-- The walk whose step makes nothing of an edge.
use Rattle.std.proofs.Common.{rules, ◌∙◌}
use Rattle.polygon.proofs.Rings.{answer_given, walk_given}
use Rattle.polygon.proofs.is_polygon.Goals as goal

pub returns : goal.returns
returns c =
    c.is_some.ensures ∙ walk_given c.walk.result ∙ answer_given c.args.text.now _ (c.walk.ensures (λ t a b. tt) (λ t a b r e. search rules))
