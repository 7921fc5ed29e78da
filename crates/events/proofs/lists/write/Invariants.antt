-- The running events among the entries before i are counted and stand in the room.
use Rattle.std.proofs.Common.{◌≡◌, length}
use Rattle.text.specs.Rooms.{filled}
use Rattle.events.specs.Running.{running_to}
use Rattle.events.proofs.lists.write.Given as goal

abbrev pub invariant-loop-i : goal.invariant-loop-i
invariant-loop-i l = (l.count ≡ length (running_to l.time l.entries l.i)) × (l.room ≡ filled l.initial.room (running_to l.time l.entries l.i))
