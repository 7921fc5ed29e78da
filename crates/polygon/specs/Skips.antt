-- Edges that are skipped (document 02, [2]): "Skip an edge early when both ends lie on the same side of the place's latitude and neither touches
-- it; prove that it neither holds the place nor counts."
use Rattle.std.specs.Prelude.{◌≡◌, Bool, true, false, ◌&&◌, ◌||◌, ℤ}
use Rattle.std.specs.Int.Signed.{lt_z}
use Rattle.coordinates.specs.declared.Place.{Place}
use Rattle.polygon.specs.Polygon.{on_edge, crosses}

-- the latitudes a and b both lie above z, or both below it
abbrev pub on_one_side : ℤ → ℤ → ℤ → Bool
on_one_side a b z = lt_z z a && lt_z z b || lt_z a z && lt_z b z

-- the edge from a to b is skipped for the place p
abbrev pub is_skipped : Place → Place → Place → Bool
is_skipped a b p = on_one_side a.lat b.lat p.lat

-- a skipped edge, whatever it is and whatever the place is, neither holds the place nor counts
pub record Skips : Type 0 where
  pub not_held : (a b p : Place) → is_skipped a b p ≡ true → on_edge a b p ≡ false
  pub not_counted : (a b p : Place) → is_skipped a b p ≡ true → crosses a b p ≡ false
