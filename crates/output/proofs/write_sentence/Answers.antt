use Rattle.std.proofs.Common.{refl, sym}
use lib.Seq.{length-take-le}
use Rattle.output.proofs.Written.{end_within, refused_line}
use Rattle.output.proofs.write_sentence.Goals as goal

pub slice_bounds-write_all-end : goal.slice_bounds-write_all-end
slice_bounds-write_all-end g c = sym (length-take-le _ _ (end_within _ _ refl c.in-Ok.ensures.0 c.put_sentence.ensures.1))

pub returns-in-Err : goal.returns-in-Err
returns-in-Err g c = rw (← refused_line _ _ refl c.in-Err.field-0 c.in-Err.ensures.0) c.write_all-in-Err.ensures.bytes
