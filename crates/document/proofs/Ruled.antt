-- A text with the number that its rule gives, by the test of that number.
use mathlib.Core.Path.{◌≡◌, refl}
use mathlib.Core.Bool.{cond}
use Prim.Native.Nat.{ℕ, zero, suc}
use native.Mathlib.Omega.{arith}
use lib.Dec.{eqb}
use Rattle.std.specs.Prelude.{Option}
use borrow.Author.Tests.{ne_eqb}
use Rattle.document.specs.declared.Mode.{Mode}
use Rattle.document.specs.declared.Event.TheVariants.{Text}
use Rattle.document.specs.Steps.{Next, Refused}
use Rattle.document.specs.Tags.{moved, ruled}

pub ruled_is :
    (m : Mode) (state : ℕ) (leaf : Option ℕ) (c from until number : ℕ)
    → cond (eqb number 0) (Next (moved m until state leaf) (Text c from until)) (Refused number from) ≡ ruled m state leaf c from until number
ruled_is m state leaf c from until zero = refl
ruled_is m state leaf c from until (suc n) = rw (ne_eqb (suc n) 0 (λ e. omega arith))
