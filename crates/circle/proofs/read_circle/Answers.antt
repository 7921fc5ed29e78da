-- The two parts are the first two tokens; a third is there where white space does not reach the end.
use Rattle.std.proofs.Common.{refl}
use Rattle.circle.proofs.Texts.{text_more, text_two}
use Rattle.circle.proofs.read_circle.Goals as goal

pub returns-then-skip_space-s : goal.returns-then-skip_space-s
returns-then-skip_space-s c =
    text_more _ _ _ _ _ c.skip_space-a.ensures c.token_end-b.ensures c.skip_space-c.ensures c.token_end-d.ensures _ c.skip_space.ensures c.if-skip_space-s.true

pub returns-in_err-centre : goal.returns-in_err-centre
returns-in_err-centre c =
    rw c.from_residual.ensures
    (text_two _ _ _ _ _ c.skip_space-a.ensures c.token_end-b.ensures c.skip_space-c.ensures c.token_end-d.ensures _ c.skip_space.ensures c.if-skip_space-s.false
    _ _ _ c.in_err-centre.ensures refl refl)

pub returns-in_err-metres : goal.returns-in_err-metres
returns-in_err-metres c =
    rw c.from_residual-in_err-metres.ensures
    (text_two _ _ _ _ _ c.skip_space-a.ensures c.token_end-b.ensures c.skip_space-c.ensures c.token_end-d.ensures _ c.skip_space.ensures c.if-skip_space-s.false
    _ _ _ c.in_ok-centre.ensures c.in_err-metres.ensures refl)

pub returns : goal.returns
returns c =
    text_two _ _ _ _ _ c.skip_space-a.ensures c.token_end-b.ensures c.skip_space-c.ensures c.token_end-d.ensures _ c.skip_space.ensures c.if-skip_space-s.false
    _ _ _ c.in_ok-centre.ensures c.in_ok-metres.ensures refl
