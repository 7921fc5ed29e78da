-- What is left to skip from i on, and i, is what was to skip from the start on.
use Prim.Native.Nat.{◌+◌}
use mathlib.Core.Path.{◌≡◌}
use lib.ListN.{drop}
use Rattle.text.specs.Bytes.{spaces}
use Rattle.text.proofs.skip_space.Given as goal

abbrev pub invariant-loop-i : goal.invariant-loop-i
invariant-loop-i l = l.i + spaces (drop l.i l.s) ≡ l.at + spaces (drop l.at l.s)
