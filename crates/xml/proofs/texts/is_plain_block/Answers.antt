-- All are plain where none is one of the three bytes, nor a control byte.
use mathlib.Core.Path.{sym, ◌∙◌}
use Rattle.xml.proofs.Contents.{plain_block}
use Rattle.xml.proofs.texts.is_plain_block.Goals as goal

pub returns-then-not-lacks : goal.returns-then-not-lacks
returns-then-not-lacks c = rw (plain_block, sym c.lacks.ensures ∙ c.if-not-lacks.true)

pub returns-then-not-lacks-2 : goal.returns-then-not-lacks-2
returns-then-not-lacks-2 c = rw (plain_block, sym c.lacks.ensures ∙ c.if-not-lacks.false, sym c.lacks-2.ensures ∙ c.if-not-lacks-2.true)

pub returns-then-not-lacks-3 : goal.returns-then-not-lacks-3
returns-then-not-lacks-3 c = let e = sym c.lacks-3.ensures ∙ c.if-not-lacks-3.true in
    rw (plain_block, sym c.lacks.ensures ∙ c.if-not-lacks.false, sym c.lacks-2.ensures ∙ c.if-not-lacks-2.false, e)

pub returns : goal.returns
returns c = let e = sym c.lacks-3.ensures ∙ c.if-not-lacks-3.false in
    rw (plain_block, sym c.lacks.ensures ∙ c.if-not-lacks.false, sym c.lacks-2.ensures ∙ c.if-not-lacks-2.false, e)
    c.lacks_control.ensures
