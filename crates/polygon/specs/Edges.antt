-- What an edge says of a place, and what edges say together.
use Rattle.std.specs.Prelude.{Bool, not, ◌&&◌, ◌||◌, ℤ}
use Rattle.std.specs.Bool.{beq}
use Rattle.std.specs.Int.Signed.{lt_z, le_z}
use Rattle.integers.specs.Magnitude.{signed}
use Rattle.coordinates.specs.declared.Place.{Place}
use Rattle.polygon.specs.declared.edges.Product.{Product}
use Rattle.polygon.specs.declared.edges.Tally.{Tally}
use Rattle.polygon.specs.Polygon.{between, on_edge, crosses}

-- the integer that a sign and a magnitude write
abbrev pub value_of : Product → ℤ
value_of p = signed p.negative p.magnitude

-- p lies in the box that has a and b as corners
abbrev pub in_box : Place → Place → Place → Bool
in_box a b p = between a.lat b.lat p.lat && between a.lon b.lon p.lon

-- crossesAt, from the order of the two products
abbrev pub crossed_by : ℤ → ℤ → ℤ → Bool → Bool → Bool
crossed_by a b z less more = le_z a z && lt_z z b && less || le_z b z && lt_z z a && more

abbrev pub edge_of : Place → Place → Place → Tally
edge_of a b p = record { on = on_edge a b p; crossed = crosses a b p }

-- on either; an odd number of crossings
abbrev pub plus_of : Tally → Tally → Tally
plus_of a b = record { on = a.on || b.on; crossed = not (beq a.crossed b.crossed) }
