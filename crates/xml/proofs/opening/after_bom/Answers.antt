-- The definition's two cases.
use mathlib.Core.Path.{sym, ◌∙◌}
use Rattle.xml.proofs.opening.after_bom.Goals as goal

pub returns-then-starts_at : goal.returns-then-starts_at
returns-then-starts_at c = rw (sym c.starts_at.ensures ∙ c.if-starts_at.true)

pub returns : goal.returns
returns c = rw (sym c.starts_at.ensures ∙ c.if-starts_at.false)
