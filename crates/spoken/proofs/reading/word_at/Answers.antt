-- The word after a space is the run of letters there; where no space stands, there is no word.
use Rattle.spoken.proofs.Letters.{word_past, word_no_space, word_there}
use Rattle.spoken.proofs.reading.word_at.Goals as goal

pub returns-then-s-at : goal.returns-then-s-at
returns-then-s-at c = word_past _ _ c.if-s-at.true

pub returns-then-s-at-ne32 : goal.returns-then-s-at-ne32
returns-then-s-at-ne32 c = word_no_space _ _ c.if-s-at.false c.if-s-at-ne32.true

pub returns : goal.returns
returns c = word_there _ _ _ _ _ c.if-s-at.false c.if-s-at-ne32.false c.word_end-end.ensures c.part.ensures
    c.code_of.ensures
