use mathlib.Core.Path.{refl, sym, ◌∙◌}
use native.Mathlib.Omega.{arith}
use Rattle.words.specs.Reading.{duration_at}
use Rattle.spoken.proofs.Turns.{counts_next, counts_room, counts_last}
use Rattle.spoken.proofs.reading.duration_at.Goals as goal

pub returns-then-unit-eq0 : goal.returns-then-unit-eq0
returns-then-unit-eq0 c = sym (counts_last _ _ _ c.number_at-n.ensures _ _ _ c.word_at-w.ensures c.unit_seconds-unit.ensures _ c.if-unit-eq0.true)
    ∙ c.loop-n.invariant

pub loop-n-smaller : goal.loop-n-smaller
loop-n-smaller c = let r = counts_room _ _ _ c.number_at-n.ensures _ _ _ c.word_at-w.ensures c.unit_seconds-unit.ensures c.if-unit-eq0.false in
    omega arith

pub loop-n-preserved : goal.loop-n-preserved
loop-n-preserved c = sym (counts_next _ _ _ c.number_at-n.ensures _ _ _ c.word_at-w.ensures c.unit_seconds-unit.ensures _ _ c.if-unit-eq0.false
    c.add_count-sum.ensures)
    ∙ c.loop-n.invariant

pub loop-n-init : goal.loop-n-init
unfolding duration_at
loop-n-init c = refl
