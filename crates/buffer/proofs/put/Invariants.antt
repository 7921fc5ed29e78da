-- Before each turn the first i bytes of the text are written.
use mathlib.Core.Path.{◌≡◌}
use Prim.Native.Nat.{◌+◌, ◌≤◌}
use lib.ListN.{length, take}
use Rattle.buffer.specs.Cursor.{Put}
use Rattle.buffer.proofs.put.Given as goal

abbrev pub invariant-loop-i : goal.invariant-loop-i
invariant-loop-i l = (l.at + l.i ≤ length l.dst) × (length l.dst ≡ length l.initial.dst) × Put l.initial.dst l.at (take l.i l.src) l.dst (l.at + l.i)
