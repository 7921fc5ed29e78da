-- The number has no name, or its name is written or has no room.
use native.Mathlib.Omega.{arith}
use Rattle.std.proofs.lemmas.Grind.{common_steps}
use Rattle.std.proofs.lemmas.Result.{err_from_is_err_and}
use Rattle.refusals.proofs.Names.{named, unnamed}
use Rattle.refusals.proofs.write_name.Goals as goal

pub returns-then-is_empty : goal.returns-then-is_empty
returns-then-is_empty c = unnamed _ _ _ (grind (arith, common_steps))

pub returns-in_err-write_text : goal.returns-in_err-write_text
returns-in_err-write_text c = let p = err_from_is_err_and c.from_residual.result c.from_residual.ensures.1 in
    rw (p.1, p.2) (named _ _ _ (grind (arith, common_steps)) (rw c.name_of-name.ensures at c.in_err-write_text.ensures))

pub returns : goal.returns
returns c = named _ _ _ (grind (arith, common_steps)) (rw c.name_of-name.ensures at c.in_ok-write_text.ensures)
