-- The pieces one after the other.
use Rattle.buffer.proofs.Chain.{put_append}
use Rattle.sheet.specs.Sentence.{cap_text}
use Rattle.readback.proofs.cap.put_cap.Goals as goal

pub returns : goal.returns
unfolding cap_text
returns c = record { result = simp put_append (cc) }
