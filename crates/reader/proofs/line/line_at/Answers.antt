-- The sentence of what was found leads the text exactly where the line is a read-back (Exact).
use mathlib.Core.Path.{sym, ap, ◌∙◌}
use native.Mathlib.Omega.{arith}
use lib.Seq.{length-take-le}
use Rattle.sheet.specs.Answers.{write_answer}
use Rattle.reader.proofs.Exact.{room_for, line_sentence, line_differs, line_error}
use Rattle.reader.proofs.line.line_at.Goals as goal

pub slice_bounds-own-end : goal.slice_bounds-own-end
slice_bounds-own-end c = let w = c.write_found.ensures in
    room_for _ _ (sym (ap write_answer c.in-Ok.is) ∙ w.0) w.1

pub slice_bounds-starts_at-end : goal.slice_bounds-starts_at-end
slice_bounds-starts_at-end c = let w = c.write_found.ensures in
    sym (length-take-le _ _ (room_for _ _ (sym (ap write_answer c.in-Ok.is) ∙ w.0) w.1))

pub returns-then-starts_at : goal.returns-then-starts_at
returns-then-starts_at c = let a = c.args in
    line_sentence a.t.now a.at c.found_at-found.ensures _ (sym (ap write_answer c.in-Ok.is) ∙ c.write_found.ensures.0)
    c.write_found.ensures.1 c.starts_at.ensures c.if-starts_at.true

pub returns : goal.returns
returns c = let a = c.args in
    line_differs a.t.now a.at c.found_at-found.ensures _ (sym (ap write_answer c.in-Ok.is) ∙ c.write_found.ensures.0)
    c.write_found.ensures.1 c.starts_at.ensures c.if-starts_at.false

pub returns-in_default : goal.returns-in_default
returns-in_default c = let a = c.args in
    line_error a.t.now a.at c.found_at-found.ensures _ _ (omega arith) (sym (ap write_answer c.in_default.is) ∙ c.write_found.ensures.0)
