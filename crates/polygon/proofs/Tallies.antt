-- Sums of what edges say of a place.
use mathlib.Core.Path.{◌≡◌, refl}
use mathlib.Core.Bool.{Bool, true, false, not, beq}
use Rattle.text.specs.Logic.{or_false, or_assoc}
use Rattle.polygon.specs.declared.edges.Tally.{Tally}
use Rattle.polygon.specs.Edges.{plus_of}

-- what an edge says that neither holds the place nor counts, and what no edge says
abbrev pub none : Tally
none = record { on = false; crossed = false }

pub xor_false : (t : Bool) → not (beq false t) ≡ t
xor_false true = refl
xor_false false = refl

xor_none : (t : Bool) → not (beq t false) ≡ t
xor_none true = refl
xor_none false = refl

xor_assoc : (r s t : Bool) → not (beq (not (beq r s)) t) ≡ not (beq r (not (beq s t)))
xor_assoc true true true = refl
xor_assoc true true false = refl
xor_assoc true false true = refl
xor_assoc true false false = refl
xor_assoc false true true = refl
xor_assoc false true false = refl
xor_assoc false false true = refl
xor_assoc false false false = refl

pub plus_none : (a : Tally) → plus_of a none ≡ a
plus_none a = rw (or_false a.on, xor_none a.crossed)

pub plus_assoc : (a b c : Tally) → plus_of (plus_of a b) c ≡ plus_of a (plus_of b c)
plus_assoc a b c = rw (or_assoc a.on b.on c.on, xor_assoc a.crossed b.crossed c.crossed)
