-- A skipped edge neither holds the place nor counts, so that what edges say together stays as it is.
use mathlib.Core.Path.{◌≡◌, sym}
use mathlib.Core.Bool.{true, false, ◌&&◌}
use lib.IntN.{ℤ}
use lib.Signed.{lt_z}
use Rattle.text.specs.Logic.{by_test, and_left, and_right, and_comm}
use Rattle.integers.specs.Order.{le_not_less, less_one_way}
use Rattle.coordinates.specs.declared.Place.{Place}
use Rattle.polygon.specs.declared.edges.Tally.{Tally}
use Rattle.polygon.specs.Polygon.{same, east_of, north_of, between, on_edge, crosses_at, crosses}
use Rattle.polygon.specs.Edges.{edge_of, plus_of}
use Rattle.polygon.specs.Skips.{on_one_side, is_skipped, Skips}
use Rattle.polygon.proofs.Tallies.{plus_none}

module _ (a b z : ℤ) (e : on_one_side a b z ≡ true) where
  -- both latitudes are above, or both are below and so not above
  sides : {P : Type 0} → (lt_z z a ≡ true → lt_z z b ≡ true → P) → (lt_z a z ≡ true → lt_z b z ≡ true → lt_z z a ≡ false → lt_z z b ≡ false → P) → P
  sides above below =
      by_test (lt_z z a && lt_z z b) (λ t. above (and_left (lt_z z a) (lt_z z b) t) (and_right (lt_z z a) (lt_z z b) t)) λ t.
      let u : lt_z a z && lt_z b z ≡ true = rw t at e in
      let f = and_left (lt_z a z) (lt_z b z) u in
      let g = and_right (lt_z a z) (lt_z b z) u in
      below f g (less_one_way a z f) (less_one_way b z g)

  not_between : between a b z ≡ false
  not_between =
      rw (le_not_less a z, le_not_less z b, le_not_less b z, le_not_less z a) (sides (λ f g. rw (f, g)) (λ f g h k. rw (f, g, h, k)))

  not_crossed : (east north : ℤ) → crosses_at a b z east north ≡ false
  not_crossed east north = rw (le_not_less a z, le_not_less b z) (sides (λ f g. rw (f, g)) (λ f g h k. rw (h, k)))

-- the theorem of document 02, [2]
pub skips : Skips
unfolding on_edge crosses
skips = record {
  not_held = λ a b p e. rw (not_between a.lat b.lat p.lat e, and_comm (same (east_of a b p) (north_of a b p)) false);
  not_counted = λ a b p e. not_crossed a.lat b.lat p.lat e (east_of a b p) (north_of a b p);
}

-- a skipped edge adds nothing
pub plus_skipped : (sum : Tally) (a b p : Place) → is_skipped a b p ≡ true → sum ≡ plus_of sum (edge_of a b p)
plus_skipped sum a b p e = rw (skips.not_held a b p e, skips.not_counted a b p e) (sym (plus_none sum))
