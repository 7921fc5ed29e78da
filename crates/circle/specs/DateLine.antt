-- The longitude difference of circles (document 02, [3]): what holds of it for all places. proofs/DateLine.antt proves it.
use Rattle.std.specs.Prelude.{◌≡◌, true, ℕ, ◌+◌, ◌≤◌, pos, neg_ℤ, nat_abs, ◌+ℤ◌, ◌-ℤ◌}
use Rattle.coordinates.specs.declared.Place.{Place}
use Rattle.coordinates.specs.Place.{in_range}
use Rattle.circle.specs.Circle.{full_turn, longitude_apart, around_holds}

-- document 01's "plain longitude difference, without sign"
abbrev pub plain_apart : Place → Place → ℕ
plain_apart a b = nat_abs (b.lon -ℤ a.lon)

pub record ShorterWay (a b : Place) : Type 0 where
  pub symmetric : longitude_apart a b ≡ longitude_apart b a
  -- "so the difference is never above 1,800,000,000", out of range too
  pub never_above : longitude_apart a b ≤ 1_800_000_000
  -- the plain difference where that is the shorter way, else the other way; exactly half way round is both
  pub one_way : plain_apart a b ≤ 1_800_000_000 → longitude_apart a b ≡ plain_apart a b
  pub other_way : in_range a ≡ true → in_range b ≡ true → 1_800_000_000 ≤ plain_apart a b → longitude_apart a b + plain_apart a b ≡ full_turn
  -- 180 and -180 are one meridian
  pub date_line : a.lon ≡ pos 1_800_000_000 → b.lon ≡ neg_ℤ (pos 1_800_000_000) → longitude_apart a b ≡ 0

-- two ways to write one point of the earth: longitude -180 and 180 or, out of range, -170 and 190
pub record SamePoint (a b : Place) : Type 0 where
  pub latitude : b.lat ≡ a.lat
  pub longitude : b.lon ≡ a.lon +ℤ pos full_turn

-- every circle holds both or neither, and around both lie the same circles
pub record SameCircles (a b : Place) : Type 0 where
  pub held : (centre : Place) (metres : ℕ) → around_holds centre metres b ≡ around_holds centre metres a
  pub centred : (place : Place) (metres : ℕ) → around_holds b metres place ≡ around_holds a metres place
