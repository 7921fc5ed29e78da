-- The array holds the words after their spaces, and they are written without the first space.
use mathlib.Core.Path.{ap, ◌∙◌}
use lib.ListN.{drop}
use Rattle.buffer.proofs.Room.{put_take}
use Rattle.words.specs.Duration.{duration}
use Rattle.words.proofs.Lengths.{duration_le}
use Rattle.spoken.proofs.write_duration.Goals as goal

pub returns : goal.returns
unfolding duration
returns c = let q = c.first.ensures ∙ put_take c.put_duration-k.ensures (duration_le c.args.seconds c.ranges.seconds.fits) in
    rw (c.skip.ensures ∙ ap (drop 1) q) at c.write_text.ensures
