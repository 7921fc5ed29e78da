-- Facts that are or aren't so, as 1 or 0.
use mathlib.Core.Path.{◌≡◌, refl}
use mathlib.Core.Bool.{Bool, true, false}
use Prim.Native.Nat.{ℕ, zero, suc}
use native.Mathlib.Omega.{arith}
use lib.Dec.{eqb}
use borrow.Author.Tests.{leb-true}
use Rattle.numbers.specs.Numbers.{of_flag, is_flag}

pub flag_is : (b : Bool) → is_flag (of_flag b) ≡ true
flag_is true = refl
flag_is false = refl

pub flag_back : (b : Bool) → eqb (of_flag b) 1 ≡ b
flag_back true = refl
flag_back false = refl

pub flag_number : (k : ℕ) → is_flag k ≡ true → of_flag (eqb k 1) ≡ k
flag_number zero e = refl
flag_number (suc zero) e = refl
flag_number (suc (suc k)) e = absurd (omega (arith, leb-true (suc (suc k)) 1 e))
