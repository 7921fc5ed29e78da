use mathlib.Core.Path.{sym, ◌∙◌}
use native.Mathlib.Omega.{arith}
use Rattle.sheet.proofs.ReadLoop.{loop_start, loop_end, loop_none}
use Rattle.reader.proofs.Turns.{turn_room, turn_asked, turn_other, turn_stop}
use Rattle.reader.proofs.read_back.Goals as goal
use Rattle.reader.proofs.read_back.Goals.{then-count-k, else-count-k}

pub loop-at-init : goal.loop-at-init
loop-at-init c = (omega arith, omega arith, loop_start c.args.text.now c.args.k)

pub loop-at-preserved : goal.loop-at-preserved
loop-at-preserved c = let t = c.args.text.now in let k = c.args.k in let n = c.loop-at.count in let o = c.loop-at.sheet in
    let e = sym c.line_at.ensures ∙ c.in-Some.is in
    let r = turn_room t c.loop-at.at e c.loop-at.invariant.1 in (
      omega arith,
      r.1,
      elim c.if-count-k.branch [
        | then-count-k w ↦ rw w.sheet-is (turn_asked t c.loop-at.at e k n o w.if-count-k.true ∙ c.loop-at.invariant.2)
        | else-count-k w ↦ rw w.sheet-is (turn_other t c.loop-at.at e k n o w.if-count-k.false ∙ c.loop-at.invariant.2)
      ],
    )

pub returns-in_default : goal.returns-in_default
returns-in_default c =
    turn_stop c.args.text.now c.loop-at.at c.args.k _ _ c.loop-at-test.true (sym c.line_at.ensures ∙ c.in_default.is) ∙ c.loop-at.invariant.2

pub returns-then-count-k-2 : goal.returns-then-count-k-2
returns-then-count-k-2 c = sym (loop_none c.args.text.now c.args.k c.loop-at.at _ _ c.loop-at-test.false c.if-count-k-2.true) ∙ c.loop-at.invariant.2

pub returns : goal.returns
returns c = sym (loop_end c.args.text.now c.args.k c.loop-at.at _ _ c.loop-at-test.false c.if-count-k-2.false) ∙ c.loop-at.invariant.2
