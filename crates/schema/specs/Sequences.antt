-- The schema's sequences (source document 007, clause 7.4): which elements a container holds, in which order and how often; and what may follow what.
use Rattle.std.specs.Prelude.{◌≡◌, Bool, true, false, cond, not, ◌&&◌, ◌||◌, List, [], ◌∷◌, ◌++◌, ℕ, zero, suc, ◌+◌, ◌-◌, ◌≤◌, eqb, leb, ltb, length, get_or, replicate}
use Rattle.schema.specs.Classes as class

-- ---- "the sequence and counts are those of 007's schema"

-- a particle of a sequence: an element's class, how often it stands at least (0 or 1), and whether it may stand more than once
pub record Particle : Type 0 where
  pub class : ℕ
  pub least : ℕ
  pub many : Bool

abbrev one : ℕ → Particle
one c = record { class = c; least = 1; many = false }

abbrev one_or_more : ℕ → Particle
one_or_more c = record { class = c; least = 1; many = true }

abbrev zero_or_more : ℕ → Particle
zero_or_more c = record { class = c; least = 0; many = true }

abbrev optional : ℕ → Particle
optional c = record { class = c; least = 0; many = false }

abbrev alert_particles : List Particle
alert_particles =
    one class.identifier ∷ one class.sender ∷ one class.sent ∷ one class.status ∷ one class.msg_type ∷ optional class.source ∷
    one class.scope ∷ optional class.restriction ∷ optional class.addresses ∷ zero_or_more class.code ∷ optional class.note ∷
    optional class.references ∷ optional class.incidents ∷ zero_or_more class.info ∷ []

abbrev info_particles : List Particle
info_particles =
    optional class.language ∷ one_or_more class.category ∷ one class.event ∷ zero_or_more class.response_type ∷ one class.urgency ∷
    one class.severity ∷ one class.certainty ∷ optional class.audience ∷ zero_or_more class.event_code ∷ optional class.effective ∷
    optional class.onset ∷ optional class.expires ∷ optional class.sender_name ∷ optional class.headline ∷
    optional class.description ∷ optional class.instruction ∷ optional class.web ∷ optional class.contact ∷ zero_or_more class.parameter ∷
    zero_or_more class.resource ∷ zero_or_more class.area ∷ []

abbrev resource_particles : List Particle
resource_particles =
    one class.resource_desc ∷ one class.mime_type ∷ optional class.size ∷ optional class.uri ∷ optional class.deref_uri ∷
    optional class.digest ∷ []

abbrev area_particles : List Particle
area_particles =
    one class.area_desc ∷ zero_or_more class.polygon ∷ zero_or_more class.circle ∷ zero_or_more class.geocode ∷ optional class.altitude ∷
    optional class.ceiling ∷ []

-- eventCode, parameter and geocode
abbrev pair_particles : List Particle
pair_particles =
    one class.value_name ∷ one class.value ∷ []

-- the sequence of a container; the document itself is container 0
abbrev pub particles : ℕ → List Particle
particles c =
    get_or
    ((one class.alert ∷ []) ∷ alert_particles ∷ info_particles ∷ resource_particles ∷ area_particles
    ∷ pair_particles ∷ pair_particles ∷ pair_particles ∷ [])
    c
    []

-- classes in a row that match a sequence: of each particle in order its class, k times, and nothing else
pub data Matches : List Particle → List ℕ → Type 0 where
  none : Matches [] []
  times :
      {p : Particle} {ps : List Particle} {cs rest : List ℕ} (k : ℕ) → p.least ≤ k → (p.many ≡ false → k ≤ 1)
      → Matches ps rest → cs ≡ replicate k p.class ++ rest → Matches (p ∷ ps) cs

-- the container that a container stands in
abbrev pub parent_of : ℕ → ℕ
parent_of c = get_or (0 ∷ 0 ∷ class.alert ∷ class.info ∷ class.info ∷ class.info ∷ class.info ∷ class.area ∷ []) c 0

-- ---- states: a container's state is how many of its particles are passed; the states of all containers are counted one after the other

-- the state of a container in which nothing stands yet; state 0 is none
abbrev pub first_state : ℕ → ℕ
first_state zero = 1
first_state (suc c) = first_state c + length (particles c) + 1

abbrev pub states : ℕ
states = first_state (suc class.last_container)

abbrev pub classes : ℕ
classes = 51

-- before the alert, and after it
abbrev pub before : ℕ
before = 1

abbrev pub over : ℕ
over = 2

-- the last container, counted down from n, whose first state is not after a state
abbrev pub owner_from : ℕ → ℕ → ℕ
owner_from zero state = 0
owner_from (suc n) state = cond (leb (first_state (suc n)) state) (suc n) (owner_from n state)

-- the container that a state belongs to
unfoldable pub container_of : ℕ → ℕ
container_of state = cond (ltb state states) (owner_from class.last_container state) 0

-- ---- what may follow

-- what the particle at index i says of a class, if k particles are passed: the class stands at i, or a later particle must tell, or it may not
-- stand here.
-- passed: i is before the last particle passed; last: i is that one; same: the class is the particle's
abbrev pub choose : (passed last same : Bool) → Particle → ℕ → ℕ → ℕ
choose true last same p i later = later
choose false true true p i later = cond p.many i later
choose false true false p i later = later
choose false false true p i later = i
choose false false false p i later = cond (eqb p.least 0) later 0

-- the index of the particle by which a class may follow the first k particles, counted from i; 0 where it may not
abbrev pub follows : ℕ → ℕ → ℕ → List Particle → ℕ
follows k c i [] = 0
follows k c i (p ∷ ps) = choose (ltb i k) (eqb i k) (eqb p.class c) p i (follows k c (i + 1) ps)

-- nothing after the first k particles is required
abbrev pub complete : ℕ → ℕ → List Particle → Bool
complete k i [] = true
complete k i (p ∷ ps) = (leb i k || eqb p.least 0) && complete k (i + 1) ps

-- the index of a class among the particles
abbrev pub index_in : ℕ → ℕ → List Particle → ℕ
index_in c i [] = 0
index_in c i (p ∷ ps) = cond (eqb p.class c) i (index_in c (i + 1) ps)

-- the state after the end of a container of which k particles are passed: its parent's, after it; 0 where something is missing
abbrev end_of : ℕ → ℕ → ℕ
end_of c k =
    cond (not (eqb c 0) && complete k 1 (particles c))
    (first_state (parent_of c) + index_in c 1 (particles (parent_of c)))
    0

-- a container's start goes to its own first state, a leaf on to the state after its particle
abbrev start_of : ℕ → ℕ → ℕ → ℕ
start_of c d index =
    cond (eqb index 0) 0
    (cond (leb d class.last_container) (first_state d) (first_state c + index))

abbrev pub next_in : ℕ → ℕ → ℕ → ℕ
next_in c k d = cond (eqb d 0) (end_of c k) (start_of c d (follows k d 1 (particles c)))

-- "For each container a fixed table says which element may follow which": the state after an element's start (class 0: after the container's end),
-- 0 where it may not stand
unfoldable pub next_of : ℕ → ℕ → ℕ
next_of state d =
    cond (ltb state states && ltb d classes && not (eqb state 0))
    (next_in (container_of state) (state - first_state (container_of state)) d)
    0
