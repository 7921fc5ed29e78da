use mathlib.Core.Path.{sym, ◌∙◌}
use borrow.Author.Tests.{leb-true}
use Rattle.text.proofs.Runs.{run_part}
use Rattle.xml.specs.Bytes.{is_plain}
use Rattle.xml.proofs.texts.skip_blocks.Goals as goal

pub returns-then-not-is_plain_block : goal.returns-then-not-is_plain_block
returns-then-not-is_plain_block c = c.loop-i.invariant

pub loop-i-preserved : goal.loop-i-preserved
loop-i-preserved c = sym (run_part is_plain _ _ 16 (leb-true 16 _ (sym c.is_plain_block.ensures ∙ c.if-not-is_plain_block.false)))
    ∙ c.loop-i.invariant

pub returns : goal.returns
returns c = c.loop-i.invariant
