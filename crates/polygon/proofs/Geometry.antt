-- What an edge says of a place, from what its callees give.
use mathlib.Core.Path.{◌≡◌, refl, ◌∙◌}
use mathlib.Core.Bool.{Bool, true, false, not, ◌&&◌, ◌||◌}
use Prim.Native.Nat.{◌<◌}
use lib.IntN.{ℤ, ◌-ℤ◌, ◌*ℤ◌}
use lib.Signed.{mag, lt_z, le_z}
use mir.Syntax.{w32}
use Rattle.text.specs.Logic.{and_comm, and_assoc, or_none}
use Rattle.integers.specs.Bits.{read, read_given}
use Rattle.coordinates.specs.declared.Place.{Place}
use Rattle.polygon.specs.declared.edges.Tally.{Tally}
use Rattle.polygon.specs.Polygon.{same, same_place, between, east_of, north_of, on_edge, crosses}
use Rattle.polygon.specs.Edges.{in_box, crossed_by, edge_of}
use Rattle.polygon.specs.Skips.{on_one_side, is_skipped}
use Rattle.polygon.proofs.Signs.{same_is}

-- the range of a coordinate, as a struct's field has it
abbrev Low : ℤ → Type 0
Low z = mag z < 2_147_483_648

not_neither : (s t : Bool) → s || t ≡ true → not s && not t ≡ false
not_neither true t e = refl
not_neither false t e = rw e

module _ (a b p : Place) where
  module _ (v : ℤ) where
    pub east_is :
        v ≡ (read w32 p.lon -ℤ read w32 a.lon) *ℤ (read w32 b.lat -ℤ read w32 a.lat)
        → Low p.lon → Low a.lon → Low b.lat → Low a.lat → v ≡ east_of a b p
    unfolding east_of
    east_is e h₁ h₂ h₃ h₄ = e ∙ simp (read_given w32)

    pub north_is :
        v ≡ (read w32 b.lon -ℤ read w32 a.lon) *ℤ (read w32 p.lat -ℤ read w32 a.lat)
        → Low b.lon → Low a.lon → Low p.lat → Low a.lat → v ≡ north_of a b p
    unfolding north_of
    north_is e h₁ h₂ h₃ h₄ = e ∙ simp (read_given w32)

  pub box_is :
      (s t : Bool) → s ≡ between (read w32 a.lat) (read w32 b.lat) (read w32 p.lat)
      → t ≡ between (read w32 a.lon) (read w32 b.lon) (read w32 p.lon)
      → Low a.lat → Low b.lat → Low p.lat → Low a.lon → Low b.lon → Low p.lon → s && t ≡ in_box a b p
  box_is s t es et h₁ h₂ h₃ h₄ h₅ h₆ = rw (es, et) (simp (read_given w32))

  pub skipped_is :
      (s : Bool) → s ≡ on_one_side (read w32 a.lat) (read w32 b.lat) (read w32 p.lat) → Low a.lat → Low b.lat → Low p.lat
      → s ≡ is_skipped a b p
  skipped_is s e h₁ h₂ h₃ = e ∙ simp (read_given w32)

  module _ (u v : ℤ) (less more : Bool) (eu : u ≡ east_of a b p) (ev : v ≡ north_of a b p) (el : less ≡ lt_z u v) (em : more ≡ lt_z v u) where
    edge_is :
        ◌≡◌ {A = Tally}
        (record { on = not less && not more && in_box a b p; crossed = crossed_by a.lat b.lat p.lat less more }) (edge_of a b p)
    unfolding on_edge crosses
    edge_is = rw (el, em, eu, ev, same_is (east_of a b p) (north_of a b p)) (simp and_assoc)

    -- off the line through a and b
    pub off_line :
        (crossed : Bool) → less || more ≡ true → crossed ≡ crossed_by (read w32 a.lat) (read w32 b.lat) (read w32 p.lat) less more
        → Low a.lat → Low b.lat → Low p.lat → ◌≡◌ {A = Tally} (record { on = false; crossed = crossed }) (edge_of a b p)
    off_line crossed o ec ha hb hp =
        let ec' : crossed ≡ crossed_by a.lat b.lat p.lat less more = ec ∙ simp (read_given w32) in
        rw ec' (rw (not_neither less more o) at edge_is)

    -- on it
    pub on_line : (box : Bool) → less || more ≡ false → box ≡ in_box a b p → ◌≡◌ {A = Tally} (record { on = box; crossed = false }) (edge_of a b p)
    on_line box o eb =
        let (l, m) = or_none less more o in
        rw eb
        (rw (
          l,
          m,
          and_comm (le_z a.lat p.lat && lt_z p.lat b.lat) false,
          and_comm (le_z b.lat p.lat && lt_z p.lat a.lat) false,
        ) at edge_is)

pub same_place_is :
    (p q : Place) (s t : Bool) → s ≡ same (read w32 p.lat) (read w32 q.lat) → t ≡ same (read w32 p.lon) (read w32 q.lon)
    → Low p.lat → Low q.lat → Low p.lon → Low q.lon → s && t ≡ same_place p q
same_place_is p q s t es et h₁ h₂ h₃ h₄ = rw (es, et) (simp (read_given w32))
