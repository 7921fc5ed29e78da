-- By the answer to checking the document: the line of its refusal, or the lines of its parts.
use mathlib.Core.Path.{sym}
use native.Mathlib.Omega.{arith}
use Rattle.report.proofs.Reports.{check_limit, report_refused, report_none, report_some, no_room, has_room}
use Rattle.report.proofs.write_report.Goals as goal

pub returns-then-buffer-lt-ROOM : goal.returns-then-buffer-lt-ROOM
returns-then-buffer-lt-ROOM c = no_room _ _ c.if-buffer-lt-ROOM.true

pub returns-in-Ok-eq0 : goal.returns-in-Ok-eq0
returns-in-Ok-eq0 c =
    has_room _ _ c.if-buffer-lt-ROOM.false (report_none _ _ (sym c.in-Ok-eq0.ensures) c.in-Ok-eq0.field-0-test) c.put_lines.ensures

pub put_lines-requires-in-Ok : goal.put_lines-requires-in-Ok
put_lines-requires-in-Ok c = (omega arith, check_limit _ _ (sym c.in-Ok.ensures))

pub returns-in-Ok : goal.returns-in-Ok
returns-in-Ok c =
    has_room _ _ c.if-buffer-lt-ROOM.false (report_some _ _ (sym c.in-Ok.ensures) (omega (arith, c.in-Ok.parts-test.1))) c.put_lines-in-Ok.ensures

pub returns-in-Err : goal.returns-in-Err
returns-in-Err c =
    has_room _ _ c.if-buffer-lt-ROOM.false (report_refused _ _ _ (sym c.in-Err.ensures)) (rw c.into.ensures at c.put_refusal.ensures)
