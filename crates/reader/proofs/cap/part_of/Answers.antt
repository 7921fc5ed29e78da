-- Each fact is read where the definition reads it.
use Rattle.sheet.specs.Reading.{after_word, from_total, from_urgency, from_severity, from_certainty, from_lasting, part_of}
use Rattle.reader.proofs.cap.part_of.Goals as goal

pub returns : goal.returns
unfolding part_of from_total from_urgency from_severity from_certainty from_lasting after_word
returns c = cc
