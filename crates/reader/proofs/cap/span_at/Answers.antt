-- The word that leads the rest is as long as it is said to be.
use Rattle.reader.proofs.Words.{length_word}
use Rattle.reader.proofs.cap.span_at.Goals as goal

pub returns : goal.returns
returns c = rw (c.split_word.ensures.0, length_word)
