-- What stands after the prefix and a ":".
use mathlib.Core.Path.{refl}
use Rattle.document.proofs.Prefixes.{under_prefix}
use Rattle.document.proofs.names.name_under.Goals as goal

pub returns : goal.returns
returns c = let k = c.in-Some.ensures.cases in
    rw c.unwrap_or.ensures (under_prefix _ _ c.if-is_empty.ensures _ k.0 k.1 _ _ refl c.strip_prefix-2.ensures.cases)
