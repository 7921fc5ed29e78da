-- Each case writes what the definition says there.
use Rattle.buffer.proofs.Chain.{both}
use Rattle.sheet.specs.Sentence.{lasting_text}
use Rattle.readback.proofs.cap.put_lasting.Goals as goal

pub returns-in-None : goal.returns-in-None
unfolding lasting_text
returns-in-None c = rw c.in-None.is c.put.ensures

pub returns-in-Some : goal.returns-in-Some
unfolding lasting_text
returns-in-Some c = rw c.in-Some.is (both c.put_field.ensures)
