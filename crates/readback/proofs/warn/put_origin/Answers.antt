-- The pieces one after the other.
use Rattle.buffer.proofs.Chain.{put_append}
use Rattle.sheet.specs.Sentence.{origin_text}
use Rattle.readback.proofs.warn.put_origin.Goals as goal

pub returns : goal.returns
unfolding origin_text
returns c = record { result = simp put_append (cc) }
