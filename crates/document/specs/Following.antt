-- What it is that a document's elements follow the schema, and that its constructs are sound. A document is accepted exactly if both hold
-- (proofs/Exact.antt).
use Rattle.std.specs.Prelude.{◌≡◌, List, [], ◌∷◌, ◌++◌, ℕ, ◌≤◌, ◌<◌}
use Rattle.schema.specs.Classes as class
use Rattle.schema.specs.Sequences.{particles, Matches}
use Rattle.document.specs.declared.Mode.{Mode}
use Rattle.document.specs.declared.Event.{Event}
use Rattle.document.specs.declared.Event.TheVariants.{Silent}
use Rattle.document.specs.Steps.{Next, Done}
use Rattle.document.specs.Elements.{Element, opened, text, closed}
use Rattle.document.specs.Tags.{moved}
use Rattle.document.specs.Constructs.{step_of}
use Rattle.document.specs.Documents.{elements_of, begin, first_step}

-- whole elements, with the classes of the outermost ones: a leaf's text, or a container's start, its children and its end.
-- "For each container .. the sequence and counts are those of 007's schema"
pub data Children : List Element → List ℕ → Type 0 where
  none : Children [] []
  leaf :
      {c p : ℕ} {t : List ℕ} {es : List Element} {cs : List ℕ} → class.last_container < c → Children es cs
      → Children (text c p t ∷ es) (c ∷ cs)
  container :
      {c p : ℕ} {inner es : List Element} {ds cs : List ℕ} → c ≤ class.last_container → Children inner ds → Matches (particles c) ds
      → Children es cs → Children (opened c p ∷ (inner ++ closed c ∷ es)) (c ∷ cs)

-- the document's own child is one alert
pub record FollowsSchema (es : List Element) : Type 0 where
  pub classes : List ℕ
  pub children : Children es classes
  pub matches : Matches (particles 0) classes

-- ---- constructs

-- a mode in another state of the table of what may follow
abbrev pub in_state : ℕ → Mode → Mode
in_state s m = moved m m.at s m.leaf

-- constructs up to the document's end, each taken in some state of the table: all but the schema's order is as it must be
pub data SoundFrom (l : List ℕ) : Mode → List Element → Type 0 where
  end : {m : Mode} (s : ℕ) → step_of l (in_state s m) ≡ Done → SoundFrom l m []
  construct :
      {m m' : Mode} {es : List Element} (s : ℕ) (e : Event) → step_of l (in_state s m) ≡ Next m' e → SoundFrom l m' es
      → SoundFrom l m (elements_of l e ++ es)

-- a document whose constructs are sound, from what stands before the first of them on, and tell of elements
pub record Sound (l : List ℕ) (es : List Element) : Type 0 where
  pub at : ℕ
  pub first : first_step l ≡ Next (begin at) Silent
  pub constructs : SoundFrom l (begin at) es
