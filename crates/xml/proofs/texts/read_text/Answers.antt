use mathlib.Core.Path.{◌∙◌}
use borrow.Author.Tests.{eq-eqb, ne_eqb}
use Rattle.xml.specs.Texts.{content}
use Rattle.xml.proofs.Searches.{up_on, up_stop, up_fault, up_none}
use Rattle.xml.proofs.Contents.{end_is, content_run}
use Rattle.text.specs.Ascii.{ascii}
use Rattle.text.specs.Parts.{starts_with}
use Rattle.xml.specs.Texts.{is_fault}
use Rattle.xml.proofs.texts.read_text.Goals as goal

pub loop-i-init : goal.loop-i-init
loop-i-init c = content_run _ _ _ c.plain_end-i.ensures

pub returns-then-s-i-eq60 : goal.returns-then-s-i-eq60
unfolding content
returns-then-s-i-eq60 c = up_stop (starts_with (ascii "<")) is_fault _ _ _ c.loop-i.invariant c.loop-i-test.true (end_is _ _ c.loop-i-test.true) (eq-eqb _ _ c.if-s-i-eq60.true)

pub returns-then-is_fault : goal.returns-then-is_fault
unfolding content
returns-then-is_fault c = let h = c.loop-i-test.true in
    up_fault (starts_with (ascii "<")) is_fault _ _ _ c.loop-i.invariant h (end_is _ _ h) (ne_eqb _ _ c.if-s-i-eq60.false)
    c.is_fault.ensures c.if-is_fault.true c.faulty.ensures

pub loop-i-preserved : goal.loop-i-preserved
unfolding content
loop-i-preserved c = let h = c.loop-i-test.true in
    content_run _ _ _ c.plain_end-i-in-loop-i.ensures
    ∙ up_on (starts_with (ascii "<")) is_fault _ _ _ c.loop-i.invariant h (end_is _ _ h) (ne_eqb _ _ c.if-s-i-eq60.false)
    c.is_fault.ensures c.if-is_fault.false

pub returns : goal.returns
unfolding content
returns c = up_none (starts_with (ascii "<")) is_fault _ _ _ c.loop-i.invariant c.loop-i-test.false
