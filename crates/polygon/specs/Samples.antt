-- Worked samples: which texts are polygons, places about a square and a triangle, and which edges are skipped.
use Rattle.std.specs.Prelude.{◌≡◌, refl, true, false, List, ℕ, ℤ, pos, neg_ℤ, ◌*ℤ◌}
use Rattle.text.specs.Answers.{gives, refuses}
use Rattle.text.specs.Ascii.{ascii}
use Rattle.text.specs.Bytes.{number_from}
use Rattle.text.specs.Tokens.{on_token, longer, tokens}
use Rattle.coordinates.specs.declared.Place.{Place}
use Rattle.coordinates.specs.Decimal.{leads, places, fraction, decimal_length, is_decimal, scaled}
use Rattle.coordinates.specs.Place.{coordinate_at, pair_of}
use Rattle.polygon.specs.Polygon.{places_of, last_of, is_closed, polygon_of, is_polygon, east_of, north_of, on_edge, crosses, on_ring, crossings, in_ring, polygon_holds}
use Rattle.polygon.specs.Skips.{is_skipped}

abbrev pub square : List ℕ
square = ascii "0,0 0,10 10,10 10,0 0,0"

-- its slopes meet in the west, level with latitude 0
abbrev pub triangle : List ℕ
triangle = ascii "-10,10 10,10 0,-10 -10,10"

-- a place in units of 1e-7 degree, and one in whole degrees
abbrev pub units : ℤ → ℤ → Place
units y x = record { lat = y; lon = x }

abbrev pub degrees : ℤ → ℤ → Place
degrees y x = units (y *ℤ pos 10_000_000) (x *ℤ pos 10_000_000)

-- a square; white space around, and the last pair equal in value; too few pairs; not closed; a stray byte; no pair
pub polygons :
    (is_polygon square ≡ true)
    × (is_polygon (ascii " \n0,0 0,1 1,0 0.0,-0 ") ≡ true)
    × (is_polygon (ascii "0,0 0,1 0,0") ≡ false)
    × (is_polygon (ascii "0,0 0,1 1,0 1,1") ≡ false)
    × (is_polygon (ascii "0,0 0,1 1,0; 0,0") ≡ false)
    × (is_polygon (ascii " ") ≡ false)
unfolding polygon_of places_of is_closed last_of pair_of coordinate_at scaled fraction places decimal_length is_decimal leads number_from tokens on_token
    longer
polygons = (refl, refl, refl, refl, refl, refl)

-- The square: a vertex, two edges, the middle; level with vertices in the west, below and above, and in the east; east of the middle.
-- The triangle: on a slope, a unit east and a unit west of it; level with the vertex in the west, on either side of it.
pub held :
    (polygon_holds square (degrees (pos 10) (pos 10)) ≡ gives true)
    × (polygon_holds square (degrees (pos 0) (pos 5)) ≡ gives true)
    × (polygon_holds square (degrees (pos 5) (pos 0)) ≡ gives true)
    × (polygon_holds square (degrees (pos 5) (pos 5)) ≡ gives true)
    × (polygon_holds square (degrees (pos 0) (neg_ℤ (pos 5))) ≡ gives false)
    × (polygon_holds square (degrees (pos 10) (neg_ℤ (pos 5))) ≡ gives false)
    × (polygon_holds square (degrees (pos 0) (pos 15)) ≡ gives false)
    × (polygon_holds square (degrees (pos 5) (pos 15)) ≡ gives false)
    × (polygon_holds triangle (units (neg_ℤ (pos 50_000_000)) (pos 0)) ≡ gives true)
    × (polygon_holds triangle (units (neg_ℤ (pos 50_000_000)) (pos 1)) ≡ gives true)
    × (polygon_holds triangle (units (neg_ℤ (pos 50_000_000)) (neg_ℤ (pos 1))) ≡ gives false)
    × (polygon_holds triangle (degrees (pos 0) (neg_ℤ (pos 9))) ≡ gives true)
    × (polygon_holds triangle (degrees (pos 0) (neg_ℤ (pos 11))) ≡ gives false)
    × (polygon_holds (ascii "0,0 0,1 0,0") (degrees (pos 0) (pos 0)) ≡ refuses 22 0)
unfolding polygon_holds in_ring on_ring crossings on_edge crosses east_of north_of polygon_of places_of is_closed last_of pair_of coordinate_at scaled
    fraction places decimal_length is_decimal leads number_from tokens on_token longer
held = (refl, refl, refl, refl, refl, refl, refl, refl, refl, refl, refl, refl, refl, refl)

-- A place at 0,0. Edges a unit above its latitude and a unit below are skipped, one from below to above isn't. Nor are those that touch the latitude from
-- one side: the one from above counts east of the place, and those from above and from below hold the place at their end.
pub skipped :
    (is_skipped (units (pos 1) (pos 5)) (units (pos 1) (neg_ℤ (pos 5))) (units (pos 0) (pos 0)) ≡ true)
    × (is_skipped (units (neg_ℤ (pos 1)) (pos 5)) (units (neg_ℤ (pos 9)) (pos 5)) (units (pos 0) (pos 0)) ≡ true)
    × (is_skipped (units (neg_ℤ (pos 1)) (pos 5)) (units (pos 1) (pos 5)) (units (pos 0) (pos 0)) ≡ false)
    × (is_skipped (units (pos 0) (pos 5)) (units (pos 9) (pos 5)) (units (pos 0) (pos 0)) ≡ false)
    × (crosses (units (pos 0) (pos 5)) (units (pos 9) (pos 5)) (units (pos 0) (pos 0)) ≡ true)
    × (on_edge (units (pos 9) (pos 5)) (units (pos 0) (pos 0)) (units (pos 0) (pos 0)) ≡ true)
    × (on_edge (units (neg_ℤ (pos 9)) (pos 5)) (units (pos 0) (pos 0)) (units (pos 0) (pos 0)) ≡ true)
unfolding on_edge crosses east_of north_of
skipped = (refl, refl, refl, refl, refl, refl, refl)
