-- The ring of a text's places, as it is read: whether it closes, and what a step makes of its edges.
use Rattle.std.specs.Prelude.{◌≡◌, Bool, ◌&&◌, List, [], ◌∷◌, Option, Some, None, ℕ, leb}
use Rattle.text.specs.Answers.{Answer, gives, refuses}
use Rattle.coordinates.specs.declared.Place.{Place}
use Rattle.polygon.specs.Polygon.{same_place}

-- n places from `first` to `last` are a closed ring
abbrev pub closes : ℕ → Place → Place → Bool
closes n first last = leb 4 n && same_place first last

-- calls that give r for t and the edge from a to b give what h does
abbrev pub ComputesEdge : {T : Type 0} → (T → Place → Place → T → Type 0) → (T → Place → Place → T) → Type 0
ComputesEdge {T} gives_for h = (t : T) (a b : Place) (r : T) → gives_for t a b r → r ≡ h t a b

-- what h makes of t at each edge in turn of the ring that goes on from a
unfoldable pub over_edges_from : {T : Type 0} → (T → Place → Place → T) → Place → T → List Place → T
over_edges_from h a t [] = t
over_edges_from h a t (b ∷ l) = over_edges_from h b (h t a b) l

-- and of a ring
unfoldable pub over_edges : {T : Type 0} → (T → Place → Place → T) → T → List Place → T
over_edges h t [] = t
over_edges h t (a ∷ l) = over_edges_from h a t l

-- what a walk answers
abbrev pub walk_answer : {T : Type 0} → Option T → Answer T
walk_answer (Some t) = gives t
walk_answer None = refuses 22 0
