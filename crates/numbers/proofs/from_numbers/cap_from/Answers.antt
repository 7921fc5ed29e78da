-- Each number stands for what was found, so all together stand for the sheet.
use borrow.Author.Tests.{eq-eqb}
use Rattle.numbers.specs.Numbers.{are_cap, cap_from}
use Rattle.numbers.proofs.Tests.{stands}
use Rattle.numbers.proofs.from_numbers.cap_from.Goals as goal

pub returns : goal.returns
unfolding are_cap cap_from
returns c = let m = stands c.code_from.ensures c.in_ok-code_from.was in
    let s = stands c.code_from-2.ensures c.in_ok-code_from-2.was in
    let o = stands c.code_from-3.ensures c.in_ok-code_from-3.was in
    let p = stands c.parts_from.ensures c.in_ok-parts_from.was in
    rw (m.value, s.value, o.value, p.value, eq-eqb _ 1 c.if-n-ne1.false, m.passes, s.passes, o.passes, p.passes)
