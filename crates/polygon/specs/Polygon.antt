-- Polygons (document 01, "Is the studio inside"): their texts, and whether a place lies inside, on the flat grid of latitude and longitude, exact.
use Rattle.std.specs.Prelude.{Bool, false, cond, ◌&&◌, ◌||◌, List, [], ◌∷◌, ℕ, ◌+◌, ◌%◌, eqb, leb, ℤ, ◌-ℤ◌, ◌*ℤ◌, length}
use Rattle.std.specs.Int.Signed.{lt_z, le_z}
use mir.Val.{bool_byte}
use Rattle.text.specs.Answers.{Answer, gives, refuses, answer_and_then, giving, is_given}
use Rattle.text.specs.Tokens.{tokens}
use Rattle.coordinates.specs.declared.Place.{Place}
use Rattle.coordinates.specs.Place.{pair_of}

-- ---- "pairs stand between white space, which may also lead and trail": every token of the text is a pair

unfoldable pub places_of : List (List ℕ) → Answer (List Place)
places_of [] = gives []
places_of (t ∷ ts) = answer_and_then (pair_of t) (λ p. giving (λ l. p ∷ l) (places_of ts))

-- ---- "A polygon has at least 4 pairs, the last equal to the first in value."

abbrev pub same : ℤ → ℤ → Bool
same a b = le_z a b && le_z b a

abbrev pub same_place : Place → Place → Bool
same_place p q = same p.lat q.lat && same p.lon q.lon

-- the last of the places that start with p
unfoldable pub last_of : Place → List Place → Place
last_of p [] = p
last_of p (q ∷ l) = last_of q l

unfoldable pub is_closed : List Place → Bool
is_closed [] = false
is_closed (p ∷ l) = same_place p (last_of p l)

abbrev pub is_ring : List Place → Bool
is_ring l = leb 4 (length l) && is_closed l

-- the ring that a text writes; 22 is "polygon or circle text"
unfoldable pub polygon_of : List ℕ → Answer (List Place)
polygon_of l = answer_and_then (places_of (tokens l)) (λ ring. cond (is_ring ring) (gives ring) (refuses 22 0))

abbrev pub is_polygon : List ℕ → Bool
is_polygon l = is_given (polygon_of l)

-- ---- an edge from a to b, and a place p

-- two products that are equal where p lies on the line through a and b: p's way east of a times the edge's way north, and the edge's way east times
-- p's way north of a
unfoldable pub east_of : Place → Place → Place → ℤ
east_of a b p = (p.lon -ℤ a.lon) *ℤ (b.lat -ℤ a.lat)

unfoldable pub north_of : Place → Place → Place → ℤ
north_of a b p = (b.lon -ℤ a.lon) *ℤ (p.lat -ℤ a.lat)

abbrev pub between : ℤ → ℤ → ℤ → Bool
between a b z = le_z a z && le_z z b || le_z b z && le_z z a

-- p lies on the edge
unfoldable pub on_edge : Place → Place → Place → Bool
on_edge a b p =
    same (east_of a b p) (north_of a b p)
    && between a.lat b.lat p.lat
    && between a.lon b.lon p.lon

-- "one end at or below its latitude, the other above, and cross that latitude strictly east of it". The edge crosses p's latitude
-- (north_of a b p) / (b.lat - a.lat) east of a, so strictly east of p means east_of < north_of where b lies north of a, and the other way round
-- where it lies south.
abbrev pub crosses_at : ℤ → ℤ → ℤ → ℤ → ℤ → Bool
crosses_at a b z east north = le_z a z && lt_z z b && lt_z east north || le_z b z && lt_z z a && lt_z north east

unfoldable pub crosses : Place → Place → Place → Bool
crosses a b p = crosses_at a.lat b.lat p.lat (east_of a b p) (north_of a b p)

-- ---- "a place on an edge is inside; else it is inside if an odd number of edges ..."

-- p lies on an edge of the ring
unfoldable pub on_ring : List Place → Place → Bool
on_ring [] p = false
on_ring (a ∷ []) p = false
on_ring (a ∷ b ∷ l) p = on_edge a b p || on_ring (b ∷ l) p

-- how many edges of the ring cross east of p
unfoldable pub crossings : List Place → Place → ℕ
crossings [] p = 0
crossings (a ∷ []) p = 0
crossings (a ∷ b ∷ l) p = bool_byte (crosses a b p) + crossings (b ∷ l) p

unfoldable pub in_ring : List Place → Place → Bool
in_ring l p = on_ring l p || eqb (crossings l p % 2) 1

-- whether the polygon of a text holds a place
unfoldable pub polygon_holds : List ℕ → Place → Answer Bool
polygon_holds l p = giving (λ ring. in_ring ring p) (polygon_of l)
