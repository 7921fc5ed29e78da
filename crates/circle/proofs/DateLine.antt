-- The longitude difference of circles: the shorter of two ways round.
use mathlib.Core.Path.{◌≡◌, sym, ap, ◌∙◌}
use mathlib.Core.Bool.{true}
use Prim.Native.Nat.{ℕ, suc, ◌+◌, ◌-◌, ◌%◌, ◌≤◌, ◌<◌}
use native.Mathlib.Nat.{add-mod_right, mod-eq-sub-mod}
use native.Mathlib.Omega.{arith}
use borrow.Author.Tests.{ltb-true, ltb-false}
use lib.Dec.{ltb}
use lib.IntN.{ℤ, pos, negsuc, neg_ℤ, nat_abs, ◌+ℤ◌, ◌-ℤ◌, +ℤ_assoc, +ℤ_comm}
use Rattle.text.specs.Logic.{and_right, by_test, cond_cases}
use Rattle.coordinates.specs.declared.Place.{Place}
use Rattle.coordinates.specs.Place.{latitude_limit, longitude_limit, within, in_range}
use Rattle.coordinates.proofs.Differences.{within_abs}
use Rattle.integers.specs.Magnitude.{abs_swap, abs_sub}
use Rattle.circle.specs.Circle.{full_turn, shorter_way, longitude_apart, in_circle, around_holds}
use Rattle.circle.specs.DateLine.{plain_apart, ShorterWay, SamePoint, SameCircles}

-- ---- the two ways, by the plain difference

module _ (plain : ℕ) where
  pub one_shorter : plain % full_turn ≤ full_turn - plain % full_turn → plain % full_turn ≡ shorter_way plain
  unfolding shorter_way
  one_shorter h = omega arith

  pub other_shorter : full_turn - plain % full_turn < plain % full_turn → full_turn - plain % full_turn ≡ shorter_way plain
  unfolding shorter_way
  other_shorter h = omega arith

  pub shorter_le : shorter_way plain ≤ 1_800_000_000
  unfolding shorter_way
  shorter_le = omega arith

  shorter_plain : plain ≤ 1_800_000_000 → shorter_way plain ≡ plain
  unfolding shorter_way
  shorter_plain h = omega arith

  shorter_rest : 1_800_000_000 ≤ plain → plain ≤ full_turn → shorter_way plain + plain ≡ full_turn
  unfolding shorter_way
  shorter_rest h g = omega arith

-- the other way round is as far
turned : (plain : ℕ) → plain ≤ full_turn → shorter_way (full_turn - plain) ≡ shorter_way plain
turned plain h =
    let rest = full_turn - plain in
    by_test (ltb plain 1_800_000_000)
    (λ e. let g = ltb-true plain 1_800_000_000 e in omega (arith, shorter_plain plain (omega arith), shorter_rest rest (omega arith) (omega arith)))
    (λ e. let g = ltb-false plain 1_800_000_000 e in omega (arith, shorter_rest plain g h, shorter_plain rest (omega arith)))

-- ---- of places

in_range_lon : (p : Place) → in_range p ≡ true → nat_abs p.lon ≤ 1_800_000_000
in_range_lon p e = within_abs longitude_limit p.lon (and_right (within latitude_limit p.lat) (within longitude_limit p.lon) e)

-- of any two places, the longitude difference is the shorter way round
pub shorter_way_lem : (a b : Place) → ShorterWay a b
unfolding shorter_way
shorter_way_lem a b = record {
  symmetric = ap shorter_way (abs_swap b.lon a.lon);
  never_above = shorter_le (plain_apart a b);
  one_way = shorter_plain (plain_apart a b);
  other_way = λ ea eb h.
      shorter_rest (plain_apart a b) h (omega (arith, abs_sub b.lon a.lon, in_range_lon a ea, in_range_lon b eb));
  date_line = λ ea eb. rw (ea, eb);
}

-- ---- a full turn

turn : (z : ℤ) → shorter_way (nat_abs (z +ℤ pos full_turn)) ≡ shorter_way (nat_abs z)
unfolding shorter_way
turn (pos n) = rw (add-mod_right n full_turn)
turn (negsuc n) =
    cond_cases (λ z. shorter_way (nat_abs z) ≡ shorter_way (suc n)) (ltb full_turn (suc n)) (negsuc (suc n - suc full_turn)) (pos (full_turn - suc n))
    (λ e. past (ltb-true full_turn (suc n) e))
    (λ e. turned (suc n) (ltb-false full_turn (suc n) e))
  where
    past : full_turn < suc n → shorter_way (suc (suc n - suc full_turn)) ≡ shorter_way (suc n)
    past h =
        let q : suc (suc n - suc full_turn) ≡ suc n - full_turn = omega arith in
        rw (q, mod-eq-sub-mod {n = suc n} {m = full_turn} (omega arith))

further : (x y : ℤ) → x +ℤ pos full_turn -ℤ y ≡ x -ℤ y +ℤ pos full_turn
further x y =
    +ℤ_assoc x (pos full_turn) (neg_ℤ y) ∙ ap (λ (z : ℤ). x +ℤ z) (+ℤ_comm (pos full_turn) (neg_ℤ y)) ∙ sym (+ℤ_assoc x (neg_ℤ y) (pos full_turn))

meridian_apart : (c a b : Place) → SamePoint a b → longitude_apart c b ≡ longitude_apart c a
meridian_apart c a b m = rw (m.longitude, further a.lon c.lon) (turn (a.lon -ℤ c.lon))

-- however a point is written, circles answer alike
pub same_circles : (a b : Place) → SamePoint a b → SameCircles a b
unfolding around_holds in_circle
same_circles a b m = record {
  held = λ c metres. rw (m.latitude, meridian_apart c a b m);
  centred = λ p metres.
      rw (m.latitude, (shorter_way_lem b p).symmetric, meridian_apart p a b m, (shorter_way_lem p a).symmetric);
}
