-- The array holds the words after their spaces, and they are written without the first space.
use mathlib.Core.Path.{ap, ◌∙◌}
use lib.ListN.{drop}
use Rattle.buffer.proofs.Room.{put_take}
use Rattle.words.specs.Words.{words}
use Rattle.words.proofs.Lengths.{said_le}
use Rattle.spoken.proofs.write_number.Goals as goal

pub returns : goal.returns
unfolding words
returns c = let q = c.first.ensures ∙ put_take c.put_number-k.ensures (said_le c.args.n c.ranges.n.fits) in
    rw (c.skip.ensures ∙ ap (drop 1) q) at c.write_text.ensures
