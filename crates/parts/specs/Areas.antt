-- The areas of a part, each with its polygons and its circles.
use Rattle.std.specs.Prelude.{Bool, false, cond, List, [], ◌∷◌, ℕ, ◌+◌, eqb, length}
use Rattle.schema.specs.Classes as class
use Rattle.document.specs.Elements.{Element, opened, text, closed, is_start}

-- ---- among elements

abbrev pub is_end : ℕ → Element → Bool
is_end c (opened d p) = false
is_end c (text d p t) = false
is_end c (closed d) = eqb d c

-- the elements before the next end of a container of a class
unfoldable pub up_to_end : ℕ → List Element → List Element
up_to_end c [] = []
up_to_end c (x ∷ xs) = cond (is_end c x) [] (x ∷ up_to_end c xs)

-- the texts of a class, in their order
unfoldable pub texts_of : ℕ → List Element → List (List ℕ)
texts_of c [] = []
texts_of c (opened d p ∷ es) = texts_of c es
texts_of c (text d p t ∷ es) = cond (eqb d c) (t ∷ texts_of c es) (texts_of c es)
texts_of c (closed d ∷ es) = texts_of c es

-- ---- areas

-- the texts of an area's polygons, and of its circles
pub record Area : Type 0 where
  pub polygons : List (List ℕ)
  pub circles : List (List ℕ)

-- one without shapes
abbrev pub no_area : Area
no_area = record { polygons = []; circles = [] }

abbrev pub area_of : List Element → Area
area_of es = record { polygons = texts_of class.polygon es; circles = texts_of class.circle es }

-- the areas among elements, each from its start to its end
unfoldable pub areas_of : List Element → List Area
areas_of [] = []
areas_of (x ∷ xs) = cond (is_start class.area x) (area_of (up_to_end class.area xs) ∷ areas_of xs) (areas_of xs)

-- how many shapes they have
unfoldable pub shapes_of : List Area → ℕ
shapes_of [] = 0
shapes_of (x ∷ xs) = length x.polygons + length x.circles + shapes_of xs
