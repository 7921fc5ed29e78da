-- Each branch is the step's, and no sum reaches 2^64.
use native.Mathlib.Omega.{arith}
use Rattle.spoken.proofs.Groups.{worth_le, product_le, step_small, step_hundred, step_group}
use Rattle.spoken.proofs.reading.add_word.Goals as goal

pub overflow_add-result : goal.overflow_add-result
overflow_add-result c = omega (arith, worth_le c.args.w c.if-w-lt-HUNDRED.true)

pub returns-then-w-lt-HUNDRED : goal.returns-then-w-lt-HUNDRED
returns-then-w-lt-HUNDRED c = step_small _ _ _ c.if-w-lt-HUNDRED.true c.worth.ensures

pub returns-then-w-eq-HUNDRED : goal.returns-then-w-eq-HUNDRED
returns-then-w-eq-HUNDRED c = step_hundred _ _ c.if-w-eq-HUNDRED.true

pub overflow_mul-result-2 : goal.overflow_mul-result-2
overflow_mul-result-2 c = let u = c.group_unit in
    omega (arith, product_le c.args.g.current c.args.w u.result c.requires.1 u.ensures)

pub overflow_add-result-2 : goal.overflow_add-result-2
overflow_add-result-2 c = let u = c.group_unit in
    omega (arith, product_le c.args.g.current c.args.w u.result c.requires.1 u.ensures)

pub returns : goal.returns
returns c = step_group _ _ _ c.if-w-lt-HUNDRED.false c.if-w-eq-HUNDRED.false
    c.group_unit.ensures
