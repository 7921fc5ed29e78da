-- The pair that leads the text after white space, if any, is the pair of the token there exactly where that token ends after it.
use Rattle.std.proofs.Common.{sym, ◌∙◌}
use Rattle.polygon.proofs.Tokens.{read_end, read_none, read_part, read_whole}
use Rattle.polygon.proofs.pairs.next_pair.Goals as goal

pub returns-then-s-start : goal.returns-then-s-start
returns-then-s-start c = read_end _ _ _ c.skip_space-start.ensures c.if-s-start.true

pub returns-in_default : goal.returns-in_default
returns-in_default c = read_none _ _ _ c.skip_space-start.ensures c.if-s-start.false (sym c.leading_pair.ensures ∙ c.in_default.is)

pub returns-then-on_token : goal.returns-then-on_token
returns-then-on_token c = let h = c.in-Some in
    read_part _ _ _ c.skip_space-start.ensures c.if-s-start.false _ _ (sym c.leading_pair.ensures ∙ c.in-Some.is) (sym c.on_token.ensures ∙ c.if-on_token.true)

pub returns : goal.returns
returns c = read_whole _ _ _ c.skip_space-start.ensures c.if-s-start.false _ _ (sym c.leading_pair.ensures ∙ c.in-Some.is) (sym c.on_token.ensures ∙ c.if-on_token.false)
