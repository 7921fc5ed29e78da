-- Coordinates: the integer that the library reads from four bytes in two's complement.
use mathlib.Core.Path.{◌≡◌, refl, ap, ◌∙◌}
use mathlib.Core.List.{List}
use Prim.Native.Nat.{ℕ, suc, ◌+◌, ◌-◌, ◌≤◌, ◌<◌}
use native.Mathlib.Omega.{arith}
use borrow.Author.Tests.{lt-ltb, le-ltb}
use lib.IntN.{ℤ, pos, negsuc, ◌-ℤ◌}
use lib.ListN.{length, take, drop}
use lib.Signed.{mag}
use mir.Syntax.{w32, w64}
use mir.Val.{SFits, to_z}
use mir.Facts.{to_z-of_z, to_z_pos}
use Rattle.std.specs.Int.{from_be_bytes}
use Rattle.integers.specs.Bits.{read, read_given}
use Rattle.packet.specs.Packet.{coordinate}
use Rattle.packet.proofs.Numbers.{number_four}

pub coordinate_at : (p : List ℕ) (at : ℕ) (z : ℤ) (l : List ℕ) → mag z < 0x8000_0000 → z ≡ to_z w32 (from_be_bytes w32 l)
    → l ≡ take 4 (drop at p) → at + 4 ≤ length p → read w32 z ≡ coordinate at p
unfolding coordinate
coordinate_at p at z l h e f g = read_given w32 z h ∙ e ∙ ap (to_z w32) (number_four p at _ l refl f g)

-- the same through a difference in 64 bits

-- the upper half of the numbers of 32 bits is negative
module _ (x : ℕ) (f : x < 0x1_0000_0000) (h : 0x8000_0000 ≤ x) where
  below : to_z w64 x -ℤ pos 0x1_0000_0000 ≡ negsuc (0x1_0000_0000 - suc x)
  below = rw (to_z_pos w64 {n = x} (omega arith), lt-ltb x 0x1_0000_0000 f)

  pub below_fits : SFits w64 (to_z w64 x -ℤ pos 0x1_0000_0000)
  below_fits = rw below (record { sfits = omega arith })

  below_is : read w64 (to_z w64 x -ℤ pos 0x1_0000_0000) ≡ to_z w32 x
  below_is = to_z-of_z below_fits ∙ below ∙ rw (le-ltb x 0x8000_0000 h)

  narrow_fits : SFits w32 (to_z w32 x)
  narrow_fits = rw (le-ltb x 0x8000_0000 h) (record { sfits = omega arith })

  pub narrowed_fits : SFits w32 (read w64 (to_z w64 x -ℤ pos 0x1_0000_0000))
  narrowed_fits = rw below_is narrow_fits

  pub narrowed_is : read w32 (read w64 (to_z w64 x -ℤ pos 0x1_0000_0000)) ≡ to_z w32 x
  narrowed_is = rw below_is (to_z-of_z narrow_fits)
