-- The fields one after the other.
use Rattle.buffer.proofs.Chain.{all_then}
use Rattle.sheet.specs.Sentence.{part_text}
use Rattle.readback.proofs.cap.put_part.Goals as goal

pub returns : goal.returns
unfolding part_text
returns c = all_then c.put_field-a.ensures (all_then c.put_field-b.ensures (all_then c.put_field-c.ensures
    (all_then c.put_field-d.ensures (all_then c.put_field-e.ensures c.put_lasting.ensures))))
