-- Past the end nothing is written; else the text is copied byte by byte, as far as there is room.
use mathlib.Core.Path.{◌≡◌, refl}
use Prim.Native.Nat.{◌+◌, ◌<◌}
use native.Mathlib.Omega.{arith}
use borrow.Author.Tests.{ltb-true, ltb-false}
use lib.Dec.{ltb}
use lib.ListN.{length, length-set}
use Rattle.text.specs.Logic.{by_test}
use Rattle.buffer.proofs.Chain.{put_none, put_past}
use Rattle.buffer.proofs.Copying.{copy_more, copy_full, copy_done}
use Rattle.buffer.proofs.put.Goals as goal

pub returns-then-dst-at : goal.returns-then-dst-at
returns-then-dst-at c = put_past _ _ _ c.if-dst-at.true

pub loop-i-init : goal.loop-i-init
loop-i-init c = let z : c.args.at + 0 ≡ c.args.at = omega arith in rw z (omega (arith, c.if-dst-at.false), refl, put_none _ _)

pub loop-i-preserved : goal.loop-i-preserved
loop-i-preserved c =
    let e = c.loop-i.invariant in
    let z : c.args.at + (c.loop-i.i + 1) ≡ c.args.at + c.loop-i.i + 1 = omega arith in
    let h : c.loop-i.i < length c.args.src.now = omega (arith, c.min-count.ensures, c.loop-i-test.true) in
    let l : c.args.at + c.loop-i.i < length c.loop-i.dst = omega (arith, c.min-count.ensures, c.loop-i-test.true, c.if-dst-at.false, e.1) in
    rw z (simp length-set (omega (arith, l)), simp length-set e.1, copy_more c.args.src.now c.loop-i.i e.2 h l)

pub returns : goal.returns
returns c =
    let e = c.loop-i.invariant in
    let q : c.min-count.result ≡ c.loop-i.i = omega (arith, c.loop-i.auto.i-end, c.loop-i-test.false) in
    let n = length c.args.src.now in
    rw q (by_test (ltb c.loop-i.i n)
    (λ t. copy_full c.args.src.now c.loop-i.i e.2 (omega (arith, c.min-count.ensures, q, ltb-true c.loop-i.i n t, c.if-dst-at.false, e.1)))
    (λ t. copy_done c.args.src.now c.loop-i.i e.2 (omega (arith, c.min-count.ensures, q, ltb-false c.loop-i.i n t))))
