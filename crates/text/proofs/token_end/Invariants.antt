-- What is left of the token from i on, and i, is what it was from the start on.
use Prim.Native.Nat.{◌+◌}
use mathlib.Core.Path.{◌≡◌}
use lib.ListN.{drop}
use Rattle.text.specs.Tokens.{token_length}
use Rattle.text.proofs.token_end.Given as goal

abbrev pub invariant-loop-i : goal.invariant-loop-i
invariant-loop-i l = l.i + token_length (drop l.i l.s) ≡ l.at + token_length (drop l.at l.s)
