-- A document is accepted exactly if its constructs are sound and their elements follow the schema.
use mathlib.Core.Path.{◌≡◌, sym, ap, ◌∙◌}
use mathlib.Core.List.{List, [], ◌++◌}
use Prim.Native.Nat.{ℕ}
use Rattle.text.specs.Answers.{gives}
use Rattle.schema.specs.Sequences.{next_of, before, over}
use Rattle.document.specs.declared.Mode.{Mode}
use Rattle.document.specs.declared.Event.{Event}
use Rattle.document.specs.declared.Event.TheVariants.{Silent, Opened, Text, Closed}
use Rattle.document.specs.Elements.{Element, given}
use Rattle.document.specs.Constructs.{step_of}
use Rattle.document.specs.Documents.{elements_of, after, read_from, document_of}
use Rattle.document.specs.Following.{FollowsSchema, in_state, SoundFrom, end, construct, Sound}
use Rattle.document.proofs.Events.{state_after, ended}
use Rattle.document.proofs.Runs.{read_step}
use Rattle.document.proofs.Accepted.{accepted_holds}
use Rattle.document.proofs.Schema.{follow, taken, ended_right, ended_class}
use Rattle.document.proofs.Nesting.{matches_schema, schema_follows}
use Rattle.document.proofs.OtherStates.{Allows, other_state}

-- a state from which an event's element leads on allows it
allowed :
    (l : List ℕ) (s : ℕ) (e : Event) (es : List Element) → follow s (elements_of l e ++ es) ≡ over → Allows s e × (follow (state_after s e) es ≡ over)
unfolding follow
allowed l s Silent es h = (tt, h)
allowed l s (Opened c p) es h = (taken (next_of s c) es h, h)
allowed l s (Text c from until) es h = (taken (next_of s c) es h, h)
allowed l s (Closed c) es h = let k = ended_right s c es h in ((ended_class s c es h, taken (next_of s 0) es k), k)

-- sound constructs are read from any state from which their elements lead to the document's end
sound_read :
    (l : List ℕ) {m : Mode} {es : List Element} → SoundFrom l m es → (s : ℕ) → follow s es ≡ over → read_from l (in_state s m) ≡ gives es
unfolding follow
sound_read l (end {m = m} t p) s h =
    let z : s ≡ t = h ∙ sym (ended l (in_state t m) p) in
    read_step l (in_state s m) ∙ ap (after l (read_from l)) (ap (λ (x : ℕ). step_of l (in_state x m)) z ∙ p)
sound_read l (construct {m = m} {m' = m'} {es = es} t e p r) s h =
    let a = allowed l s e es h in
    read_step l (in_state s m)
    ∙ (ap (after l (read_from l)) (other_state l (in_state t m) m' e s p a.0)
    ∙ ap (given (elements_of l e)) (sound_read l r (state_after s e) a.1))

-- a document whose constructs are sound and whose containers match their sequences is accepted
pub sound_accepted : (l : List ℕ) (es : List Element) → Sound l es → FollowsSchema es → document_of l ≡ gives es
unfolding document_of
sound_accepted l es d f =
    ap (after l (read_from l)) d.first ∙ ap (given []) (sound_read l d.constructs before (schema_follows es f))

-- and no other is
pub accepted_sound : (l : List ℕ) (es : List Element) → document_of l ≡ gives es → Sound l es × FollowsSchema es
accepted_sound l es d =
    let h = accepted_holds l (SoundFrom l) (λ m p. end m.state p) (λ m m' e xs p r. construct m.state e p r) es d in
    (record { at = h.0; first = h.1.0; constructs = h.1.1 }, matches_schema l es d)
