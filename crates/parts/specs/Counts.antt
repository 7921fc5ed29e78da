-- No count of the shapes of a part overflows: an element adds one at most.
use mathlib.Core.Bool.{Bool}
use Prim.Native.Nat.{ℕ, ◌+◌, ◌≤◌}
use native.Mathlib.Omega.{arith}
use lib.Dec.{eqb}
use Rattle.std.specs.Prelude.{Option, Some, None, not, ◌&&◌, is_some}
use Rattle.text.specs.Logic.{cond_cases}
use Rattle.coordinates.specs.declared.Place.{Place}
use Rattle.schema.specs.Classes as class
use Rattle.document.specs.Elements.{Element, opened, text, closed}
use Rattle.parts.specs.declared.areas.Shapes.{Shapes}
use Rattle.parts.specs.declared.ShapeKind.{ShapeKind}
use Rattle.parts.specs.declared.ShapeKind.TheVariants as kind
use Rattle.parts.specs.Places.{shape_holds}
use Rattle.parts.specs.Gathering.{with_area, kind_of, with_kind, looked, seen, AtMost}

pub at_most_wider : (n m : ℕ) (f : Shapes) → n ≤ m → AtMost n f → AtMost m f
at_most_wider n m f l h = record {
  areas = omega (arith, h.areas);
  polygons = omega (arith, h.polygons);
  circles = omega (arith, h.circles);
  count = omega (arith, h.count);
}

module _ (n : ℕ) (f : Shapes) (h : AtMost n f) where
  more : AtMost (n + 1) f
  more = at_most_wider n (n + 1) f (omega arith) h

  area_more : AtMost (n + 1) (with_area f)
  area_more = record { areas = omega (arith, h.areas); polygons = omega arith; circles = omega arith; count = omega (arith, h.count) }

  kind_more : (k : Option ShapeKind) (b : Bool) → AtMost (n + 1) (with_kind k b f)
  kind_more None b = more
  kind_more (Some kind.Polygon) b = record {
    areas = omega (arith, h.areas);
    polygons = omega (arith, h.polygons);
    circles = omega (arith, h.circles);
    count = omega (arith, h.count);
  }
  kind_more (Some kind.Circle) b = record {
    areas = omega (arith, h.areas);
    polygons = omega (arith, h.polygons);
    circles = omega (arith, h.circles);
    count = omega (arith, h.count);
  }

  looked_more : (p : Place) (x : Element) → AtMost (n + 1) (looked p f x)
  looked_more p (opened c q) = cond_cases (AtMost (n + 1)) (eqb c class.area) _ _ (λ e. area_more) (λ e. more)
  looked_more p (text c q t) = kind_more (kind_of c) (not (is_some f.first) && shape_holds p c t)
  looked_more p (closed c) = more

  pub seen_more : (m k : ℕ) (p : Place) (x : Element) → AtMost (n + 1) (seen m p k f x)
  seen_more m k p x = cond_cases (AtMost (n + 1)) (eqb k m) _ _ (λ e. looked_more p x) (λ e. more)
