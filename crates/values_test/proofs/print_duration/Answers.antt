use Rattle.values_test.proofs.Words.{written_within}
use Rattle.values_test.proofs.print_duration.Goals as goal

pub print_words-requires : goal.print_words-requires
print_words-requires g c = written_within _ _ _ _ c.write_duration-end.ensures.0 c.write_duration-end.ensures.1
