-- No sentence is longer than the array; a shorter room is compared with the length that was written.
use mathlib.Core.Path.{sym, ap}
use Prim.Native.Nat.{ℕ}
use native.Mathlib.Nat.{le_trans}
use lib.Dec.{leb}
use borrow.Author.Tests.{le-leb}
use Rattle.buffer.proofs.Room.{put_length}
use Rattle.readback.proofs.sheets.has_room.Goals as goal

pub returns-then-room-ge-LONGEST : goal.returns-then-room-ge-LONGEST
returns-then-room-ge-LONGEST g c = sym (le-leb _ _ (le_trans c.requires c.if-room-ge-LONGEST.true))

pub returns : goal.returns
returns g c = ap (λ (n : ℕ). leb n c.args.room) (put_length c.put.ensures c.requires)
