-- Fourteen tests, one after the other: written out, since the tactics that run by themselves come near their limits.
use borrow.Author.Rules.{rules}
use Rattle.numbers.specs.Numbers.{are_warn, warn_from}
use Rattle.numbers.proofs.from_numbers.warn_from.Goals as goal

pub returns : goal.returns
unfolding are_warn warn_from
returns c = search rules
