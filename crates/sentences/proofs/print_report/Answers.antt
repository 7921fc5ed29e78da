use Rattle.std.proofs.Common.{sym}
use lib.Seq.{length-take-le}
use Rattle.sentences.proofs.Within.{end_within}
use Rattle.sentences.proofs.print_report.Goals as goal

pub slice_bounds-write_all-end : goal.slice_bounds-write_all-end
slice_bounds-write_all-end g c = sym (length-take-le _ _ (end_within _ _ c.in-Ok.ensures.0 c.write_report.ensures.1))
