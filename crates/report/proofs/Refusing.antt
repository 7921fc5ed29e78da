-- How long the line of a refusal is.
use Prim.Native.Nat.{ℕ, ◌≤◌}
use native.Mathlib.Omega.{arith}
use lib.ListN.{length, length-append}
use Rattle.report.specs.Lines.{refusal_line}
use Rattle.report.proofs.Decimal.{digits_le}

-- the longest has two numbers of twenty digits
pub refusal_le : (n p : ℕ) → length (refusal_line n p) ≤ 53
unfolding refusal_line
refusal_le n p = simp length-append (omega (arith, digits_le 20 n, digits_le 20 p))
