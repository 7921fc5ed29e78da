-- "The reason must be the true one": what holds of the reason, for every place and all areas, and for every document. proofs/TrueReasons.antt proves it.
use Rattle.std.specs.Prelude.{◌≡◌, Bool, true, false, List, [], ℕ, ◌+◌, ◌-◌, ◌<◌, ◌≤◌, length, get_or}
use Rattle.text.specs.Answers.{gives, giving}
use Rattle.coordinates.specs.declared.Place.{Place}
use Rattle.schema.specs.Classes as class
use Rattle.document.specs.Elements.{Element}
use Rattle.document.specs.Documents.{document_of}
use Rattle.parts.specs.declared.ShapeKind.TheVariants as kind
use Rattle.parts.specs.declared.ShapeAt.{ShapeAt}
use Rattle.parts.specs.Elements.{part_of}
use Rattle.parts.specs.Areas.{Area, no_area, texts_of, areas_of, shapes_of}
use Rattle.parts.specs.Places.{cap_place}
use Rattle.parts.specs.Reasons.{of_kind, kind_holds, held, tried, shapeless, side_by, reason_in, cap_why}

-- ---- shapes by their positions, which are counted from 1

-- the shapes of the same kind in the same area
abbrev pub equals : List Area → ShapeAt → List (List ℕ)
equals xs s = of_kind s.kind (get_or xs (s.area - 1) no_area)

pub record Stands (xs : List Area) (s : ShapeAt) : Type 0 where
  pub area : (1 ≤ s.area) × (s.area ≤ length xs)
  pub position : (1 ≤ s.position) × (s.position ≤ length (equals xs s))

-- whether the shape there holds a place, "by 01 as amended"
abbrev pub holds_at : Place → List Area → ShapeAt → Bool
holds_at p xs s = kind_holds p s.kind (get_or (equals xs s) (s.position - 1) [])

-- one shape stands before another: in an area before; or in the same area as a polygon before a circle, or as a shape of the same kind
pub data Before : ShapeAt → ShapeAt → Type 0 where
  by_area : {u s : ShapeAt} → u.area < s.area → Before u s
  by_kind : {u s : ShapeAt} → u.area ≡ s.area → u.kind ≡ kind.Polygon → s.kind ≡ kind.Circle → Before u s
  by_position : {u s : ShapeAt} → u.area ≡ s.area → u.kind ≡ s.kind → u.position < s.position → Before u s

-- ---- the reason, by the areas

pub record TrueReason (p : Place) (xs : List Area) : Type 0 where
  -- "the shape named does hold the place and none before it does"
  pub stands : (s : ShapeAt) → reason_in p xs ≡ held s → Stands xs s
  pub holds : (s : ShapeAt) → reason_in p xs ≡ held s → holds_at p xs s ≡ true
  pub first : (s u : ShapeAt) → reason_in p xs ≡ held s → Stands xs u → Before u s → holds_at p xs u ≡ false
  -- "the number of shapes tried, which is all the shapes of that part": none of them holds the place
  pub all : (n : ℕ) → reason_in p xs ≡ tried n → n ≡ shapes_of xs
  pub none : (n : ℕ) (u : ShapeAt) → reason_in p xs ≡ tried n → Stands xs u → holds_at p xs u ≡ false
  -- "When no shape, that"
  pub empty : (u : ShapeAt) → reason_in p xs ≡ shapeless → Stands xs u → ⊥

-- ---- the reason, by the document

pub record DocumentReason (n : ℕ) (p : Place) (l : List ℕ) : Type 0 where
  -- inside, outside or no shape: what is answered without a reason
  pub same : giving side_by (cap_why n p l) ≡ cap_place n p l
  -- the shapes of a part's areas are all the polygons and circles of the part
  pub counted :
      (es : List Element) → document_of l ≡ gives es
      → shapes_of (areas_of (part_of n es)) ≡ length (texts_of class.polygon (part_of n es)) + length (texts_of class.circle (part_of n es))
