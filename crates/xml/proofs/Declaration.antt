-- The byte order mark, and whether a declaration stands there.
use mathlib.Core.Path.{◌≡◌}
use mathlib.Core.Bool.{Bool, false, ◌&&◌}
use mathlib.Core.List.{List}
use Prim.Native.Nat.{ℕ, ◌+◌, ◌≤◌}
use native.Mathlib.Omega.{arith}
use lib.ListN.{length, get_or, drop, length-drop, get_or-eq_default}
use lib.Seq.{get_or-drop}
use Rattle.text.specs.Ascii.{ascii}
use Rattle.text.specs.Bytes.{is_space}
use Rattle.text.specs.Parts.{starts_with}
use Rattle.text.specs.Logic.{by_test, and_comm}
use Rattle.xml.specs.Opening.{bom, after_bom, declares}

pub bom_le : (l : List ℕ) (at : ℕ) → at ≡ after_bom l → at ≤ 3
bom_le l at d = by_test (starts_with bom l) (λ e. rw (d, e) (omega arith)) (λ e. rw (d, e) (omega arith))

-- a text too short for it
pub declares_short : (s : List ℕ) (at : ℕ) → length s ≤ at + 5 → false ≡ declares (drop at s)
declares_short s at h =
    rw (get_or-eq_default (drop at s) 0 {n = 5} (omega (arith, length-drop at s)), and_comm (starts_with (ascii "<?xml") (drop at s)) false)

-- the byte after "<?xml" is the fifth from the offset on
pub declares_is :
    (s : List ℕ) (at : ℕ) (a b : Bool) → a ≡ starts_with (ascii "<?xml") (drop at s) → b ≡ is_space (get_or s (at + 5) 0) → a && b ≡ declares (drop at s)
declares_is s at a b p q = rw (p, q, get_or-drop at s 5 0)
