use Rattle.text.proofs.Runs.{run_on, run_stop, run_end}
use Rattle.words.specs.Reading.{is_letter}
use Rattle.spoken.proofs.reading.word_end.Goals as goal

pub loop-i-preserved : goal.loop-i-preserved
loop-i-preserved c = run_on is_letter _ _ _ c.loop-i.invariant c.loop-i-test.true c.is_letter.ensures c.if-is_letter.true

pub returns-else-is_letter : goal.returns-else-is_letter
returns-else-is_letter c = run_stop is_letter _ _ _ c.loop-i.invariant c.loop-i-test.true c.is_letter.ensures c.if-is_letter.false

pub returns : goal.returns
returns c = run_end is_letter _ _ _ c.loop-i.invariant c.loop-i-test.false
