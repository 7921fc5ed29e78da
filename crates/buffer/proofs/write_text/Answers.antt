-- The test is that the text has no room; else it is written whole.
use native.Mathlib.Omega.{arith}
use Rattle.buffer.proofs.Room.{no_room, has_room}
use Rattle.buffer.proofs.write_text.Goals as goal

pub returns-then-buffer-start : goal.returns-then-buffer-start
returns-then-buffer-start c = no_room _ _ _ (omega arith)

pub returns : goal.returns
returns c = has_room _ _ _ (omega arith) c.put.ensures
