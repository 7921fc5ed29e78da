-- Each return is the answer that the tests in front of it say.
use mathlib.Core.Path.{sym, ◌∙◌}
use native.Mathlib.Omega.{arith}
use Rattle.sheet.proofs.Lengths.{sentence_le}
use Rattle.sheet.proofs.WriteOne.{refuse_range, refuse_room}
use Rattle.readback.proofs.Answer.{answer_end, has_room, lacks_room}
use Rattle.readback.proofs.sheets.write.Goals as goal

pub returns-then-not-is_in_range : goal.returns-then-not-is_in_range
returns-then-not-is_in_range g c = refuse_range _ _ _ (sym c.is_in_range.ensures ∙ c.if-not-is_in_range.true)

pub returns-then-buffer-start : goal.returns-then-buffer-start
returns-then-buffer-start g c = refuse_room _ _ _ (sym c.is_in_range.ensures ∙ c.if-not-is_in_range.false) (omega arith)

pub has_room-requires : goal.has_room-requires
has_room-requires g c = sentence_le _ (sym c.is_in_range.ensures ∙ c.if-not-is_in_range.false)

pub returns-then-not-has_room : goal.returns-then-not-has_room
returns-then-not-has_room g c =
    refuse_room _ _ _ (sym c.is_in_range.ensures ∙ c.if-not-is_in_range.false)
    (lacks_room _ _ _ c.if-buffer-start.false (sym c.has_room.ensures ∙ c.if-not-has_room.true))

pub returns : goal.returns
returns g c =
    answer_end _ _ _ (sym c.is_in_range.ensures ∙ c.if-not-is_in_range.false)
    (has_room _ _ _ c.if-buffer-start.false (sym c.has_room.ensures ∙ c.if-not-has_room.false)) c.put.ensures
