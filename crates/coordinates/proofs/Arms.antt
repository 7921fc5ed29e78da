-- Which arm an Option of a test took, from its value.
use Rattle.std.proofs.Common.{◌≡◌, refl, Bool, true, false, cond, Some, None}

module _ {A : Type 0} (x : A) where
  pub some_arm : (t : Bool) (y : A) → cond t (Some x) None ≡ Some y → (t ≡ true) × (x ≡ y)
  some_arm true y e = (refl, cc)
  some_arm false y e = cc

  pub none_arm : (t : Bool) → cond t (Some x) None ≡ None → t ≡ false
  none_arm true e = cc
  none_arm false e = refl
