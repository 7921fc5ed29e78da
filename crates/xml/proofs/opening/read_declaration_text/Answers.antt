use Rattle.text.proofs.Runs.{led_is}
use Rattle.xml.specs.Bytes.{is_control}
use Rattle.xml.proofs.Searches.{up_on, up_stop, up_fault, up_none}
use Rattle.text.specs.Ascii.{ascii}
use Rattle.text.specs.Parts.{starts_with}
use Rattle.text.specs.Bytes.{led_by}
use Rattle.xml.proofs.opening.read_declaration_text.Goals as goal

pub returns-then-starts_at : goal.returns-then-starts_at
returns-then-starts_at c = up_stop (starts_with (ascii "?>")) (led_by is_control) _ _ _ c.loop-i.invariant c.loop-i-test.true c.starts_at.ensures c.if-starts_at.true

pub returns-then-is_control : goal.returns-then-is_control
returns-then-is_control c = let h = c.loop-i-test.true in
    up_fault (starts_with (ascii "?>")) (led_by is_control) _ _ _ c.loop-i.invariant h c.starts_at.ensures c.if-starts_at.false
    (led_is is_control _ _ h c.is_control.ensures) c.if-is_control.true c.faulty.ensures

pub loop-i-preserved : goal.loop-i-preserved
loop-i-preserved c = let h = c.loop-i-test.true in
    up_on (starts_with (ascii "?>")) (led_by is_control) _ _ _ c.loop-i.invariant h c.starts_at.ensures c.if-starts_at.false
    (led_is is_control _ _ h c.is_control.ensures) c.if-is_control.false

pub returns : goal.returns
returns c = up_none (starts_with (ascii "?>")) (led_by is_control) _ _ _ c.loop-i.invariant c.loop-i-test.false
