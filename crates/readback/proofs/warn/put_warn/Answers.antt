-- The pieces one after the other.
use Rattle.buffer.proofs.Chain.{put_append}
use Rattle.sheet.specs.Sentence.{warn_text}
use Rattle.readback.proofs.warn.put_warn.Goals as goal

pub returns : goal.returns
unfolding warn_text
returns c = record { result = simp put_append (cc) }
