use mathlib.Core.Path.{sym, ap, ◌∙◌}
use Rattle.codes.proofs.Search.{numbered, found}
use Rattle.codes.proofs.texts.number_of.Goals as goal

pub returns-in-Some : goal.returns-in-Some
returns-in-Some c = sym (found _ _ ∙ ap numbered (sym c.index_of.ensures ∙ c.in-Some.is))

pub returns-in-None : goal.returns-in-None
returns-in-None c = sym (found _ _ ∙ ap numbered (sym c.index_of.ensures ∙ c.in-None.is))
