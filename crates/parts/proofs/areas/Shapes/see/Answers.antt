-- A shape's text that breaks its rule is refused by the answer about the place.
use mathlib.Core.Path.{ap, ◌∙◌}
use Rattle.parts.specs.Reading.{answer_of}
use Rattle.parts.proofs.Results.{err_is}
use Rattle.parts.proofs.Sights.{shape_broken}
use Rattle.parts.proofs.areas.Shapes.see.Goals as goal

pub returns-in_err-first-in-Text-clause-tested : goal.returns-in_err-first-in-Text-clause-tested
returns-in_err-first-in-Text-clause-tested c =
    let t = c.in-Text in
    ap answer_of (err_is _ _ c.from_residual-in_err-first-in-Text.ensures)
    ∙ (rw t.is
    (shape_broken c.args.s.now c.args.place t.class t.from t.until c.in-Some.kind c.in-Some.ensures _ _ (rw c.part.ensures at c.in_err-first-in-Text.ensures)))
