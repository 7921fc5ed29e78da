-- An instant that was read is small enough to be negated.
use mathlib.Core.Path.{◌≡◌}
use mathlib.Core.List.{List}
use Prim.Native.Nat.{ℕ, ◌≤◌}
use native.Mathlib.Omega.{arith}
use lib.IntN.{ℤ, nat_abs}
use mir.Syntax.{w64}
use Rattle.integers.specs.Bits.{read, read_small}
use Rattle.std.specs.Prelude.{Some}
use Rattle.time.specs.Time.{time_of, time_answer}
use Rattle.time.proofs.Range.{range_abs, exact_range}

pub instant_small : (l : List ℕ) (z : ℤ) → time_of l ≡ time_answer (Some z) → nat_abs (read w64 z) ≤ 9_223_372_036_854_775_807
instant_small l z e = let h = range_abs z (exact_range.within l z e) in rw (read_small z (omega arith)) (omega arith)
