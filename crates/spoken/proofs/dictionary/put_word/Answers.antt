-- A space, and then the word.
use Rattle.buffer.proofs.Chain.{put_then}
use Rattle.words.proofs.Cases.{spaced_one}
use Rattle.spoken.proofs.dictionary.put_word.Goals as goal

pub returns : goal.returns
returns c = rw spaced_one (put_then c.put-a.ensures (rw c.word_of.ensures at c.put.ensures))
