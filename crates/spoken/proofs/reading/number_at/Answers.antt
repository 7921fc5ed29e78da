use mathlib.Core.Path.{refl, sym, ap, ◌∙◌}
use Prim.Native.Nat.{ℕ}
use native.Mathlib.Omega.{arith}
use Rattle.words.specs.Reading.{number_at}
use Rattle.words.proofs.Steps.{quantity}
use Rattle.spoken.proofs.Groups.{step_kept}
use Rattle.spoken.proofs.Turns.{number_next, number_room, number_last}
use Rattle.spoken.proofs.reading.number_at.Goals as goal

pub loop-w-init : goal.loop-w-init
unfolding number_at
loop-w-init c = (omega arith, omega arith, refl)

pub total-requires : goal.total-requires
total-requires c = let l = c.loop-w.invariant in (l.0, l.1)

pub returns-then-w-ge-DAY : goal.returns-then-w-ge-DAY
returns-then-w-ge-DAY c = let l = c.loop-w in
    ap (λ (n : ℕ). quantity n l.i) c.total.ensures
    ∙ sym (number_last _ _ _ _ c.word_at-w.ensures _ c.if-w-ge-DAY.true)
    ∙ l.invariant.2

pub add_word-g-requires : goal.add_word-g-requires
add_word-g-requires c = let l = c.loop-w.invariant in (l.0, l.1)

pub loop-w-smaller : goal.loop-w-smaller
loop-w-smaller c = let r = number_room _ _ _ _ c.word_at-w.ensures c.if-w-ge-DAY.false in omega arith

pub loop-w-preserved : goal.loop-w-preserved
loop-w-preserved c = let w = c.word_at-w in
    let l = c.loop-w in
    let g = c.add_word-g.ensures in
    let k = step_kept w.result.code l.g l.invariant.0 in
    (rw g k.0, rw g k.1, sym (number_next _ _ _ _ w.ensures _ _ c.if-w-ge-DAY.false g) ∙ l.invariant.2)
