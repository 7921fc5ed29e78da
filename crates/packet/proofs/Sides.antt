-- A radius up to 20,000 km makes a circle, so a place has a side of it.
use mathlib.Core.Path.{◌≡◌, refl, sym}
use mathlib.Core.Bool.{Bool}
use Prim.Native.Nat.{ℕ, ◌≤◌}
use borrow.Author.Tests.{le-leb}
use Rattle.std.specs.Prelude.{Option, Some, None, IsSome}
use Rattle.text.specs.Answers.{refuses}
use Rattle.text.specs.Logic.{clash}
use Rattle.coordinates.specs.declared.Place.{Place}
use Rattle.coordinates.specs.Answers.{inclusion_answer}
use Rattle.circle.specs.Circle.{around_holds}

module _ (c q : Place) (metres : ℕ) (h : metres ≤ 20_000_000) where
  pub always_a_circle : (n i : ℕ) → around_holds c metres q ≡ refuses n i → ⊥
  unfolding around_holds
  always_a_circle n i e = let f = rw (le-leb metres 20_000_000 h) at e in clash (cc)

  pub always_a_side : (o : Option Bool) → inclusion_answer o ≡ around_holds c metres q → IsSome o
  always_a_side (Some b) e = refl
  always_a_side None e = absurd (always_a_circle 22 0 (sym e))
