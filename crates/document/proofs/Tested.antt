-- The first step has no text to test.
use mathlib.Core.Path.{◌≡◌, refl}
use mathlib.Core.List.{List}
use Prim.Native.Nat.{ℕ}
use Rattle.document.specs.Steps.{Step}
use Rattle.document.specs.Documents.{first_step}
use Rattle.document.specs.Tested.{tested}
use Rattle.document.proofs.Runs.{first_holds}

pub first_tested : (l : List ℕ) → tested l (first_step l) ≡ first_step l
first_tested l = first_holds l (λ (s : Step). tested l s ≡ s) (λ n p h. refl) (λ at. refl)
