-- Powers of ten, and products with them.
use mathlib.Core.Path.{◌≡◌, refl}
use Prim.Native.Nat.{ℕ, ◌+◌, ◌*◌, ◌^◌, ◌≤◌, ◌<◌, zero-le}
use native.Mathlib.Nat.{mul-le-mul, pow-le-pow_right}
use native.Mathlib.Omega.{arith}
use mir.Syntax.{w64}
use mir.Val.{Fits}

pub tens_le : (k : ℕ) → k ≤ 7 → 10 ^ k ≤ 10_000_000
tens_le k h = pow-le-pow_right {n = 10} (omega arith) h

times_le : (v k : ℕ) → v < 10_000_000 → k ≤ 7 → v * 10 ^ k ≤ 100_000_000_000_000
times_le v k g h = mul-le-mul {n₂ = 10_000_000} {m₂ = 10_000_000} (omega arith) (tens_le k h)

module _ (v k p : ℕ) (e : p ≡ 10 ^ k) (g : v < 10_000_000) (h : k ≤ 7) where
  pub scale_fits : Fits w64 (v * p)
  scale_fits = record { fits = rw e (omega (arith, times_le v k g h)) }

  pub scale_is : (v * p ≡ v * 10 ^ k) × (v * p ≤ 100_000_000_000_000)
  scale_is = rw e (refl, times_le v k g h)

not_yet : (n k : ℕ) → n ≤ k → (k ≡ n → ⊥) → n + 1 ≤ k
not_yet n k h e = omega (arith, e)

only_seven : (k : ℕ) → k ≤ 7 → 7 ≤ k → k ≡ 7
only_seven k h g = omega arith

-- the last power, where it is none of the others
pub last_power :
    (k : ℕ) → k ≤ 7 → (k ≡ 0 → ⊥) → (k ≡ 1 → ⊥) → (k ≡ 2 → ⊥) → (k ≡ 3 → ⊥) → (k ≡ 4 → ⊥) → (k ≡ 5 → ⊥) → (k ≡ 6 → ⊥) → 10_000_000 ≡ 10 ^ k
last_power k h a b c d e f g =
    let low = not_yet 6 k (not_yet 5 k (not_yet 4 k (not_yet 3 k (not_yet 2 k (not_yet 1 k (not_yet 0 k zero-le a) b) c) d) e) f) g in
    let z : k ≡ 7 = only_seven k h low in
    rw z
