-- By the byte at the offset; past the end nothing goes on.
use Rattle.std.proofs.Common.{rules, ap, ◌∙◌}
use Rattle.text.specs.Bytes.{is_space}
use Rattle.polygon.proofs.Tokens.{on_at, on_past}
use Rattle.polygon.proofs.pairs.on_token.Goals as goal

pub returns-in-Some : goal.returns-in-Some
returns-in-Some c =
    let (within, is) = c.in-Some.ensures.lookup.3 in
    let spaced = c.is_space.ensures ∙ ap is_space (is 0) in
    search (rules, on_at _ _ within spaced)

pub returns-in_default : goal.returns-in_default
returns-in_default c =
    let (within, is) = c.in-Some.ensures.lookup.3 in
    let spaced = c.is_space.ensures ∙ ap is_space (is 0) in
    search (rules, on_at _ _ within spaced)

pub returns-in_default-2 : goal.returns-in_default-2
returns-in_default-2 c = on_past _ _ (rw c.in_default.is at c.get.ensures.lookup.3)
