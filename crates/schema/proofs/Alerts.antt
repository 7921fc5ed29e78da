-- Where the alert stands and how it begins: rules of a state, a class and the next state, each tested once over all states and classes.
use mathlib.Core.Path.{◌≡◌, refl, sym}
use mathlib.Core.Bool.{Bool, true, not, ◌&&◌, ◌||◌}
use Prim.Native.Nat.{ℕ, ◌<◌}
use lib.Dec.{T, eqb, ltb}
use borrow.Author.Tests.{eqb-true, ltb-true, ltb-false, eq-eqb, ne_eqb}
use Rattle.text.specs.Logic.{by_test, and_left, and_right, below, below_at, below_both}
use Rattle.schema.specs.Classes as class
use Rattle.schema.specs.Sequences.{before, over, first_state, states, classes, container_of, next_of}
use Rattle.schema.proofs.Table.{inside, no_class}

-- ---- rules of any table

-- a rule holds at each entry that is not 0
abbrev Holds : (next : ℕ → ℕ → ℕ) → (ℕ → ℕ → ℕ → Bool) → Type 0
Holds next f = T (below states (λ (s : ℕ). below classes (λ (c : ℕ). eqb (next s c) 0 || f s c (next s c))))

-- such a rule holds wherever an element may stand
next_rule :
    (next : ℕ → ℕ → ℕ) (f : ℕ → ℕ → ℕ → Bool) → Holds next f
    → (s c : ℕ) → s < states → c < classes → (next s c ≡ 0 → ⊥) → f s c (next s c) ≡ true
next_rule next f t s c h g n =
    rw (ne_eqb (next s c) 0 n) at (below_both states classes (λ (s c : ℕ). eqb (next s c) 0 || f s c (next s c)) t s c h g)

-- the same of the schema's
rule : (f : ℕ → ℕ → ℕ → Bool) → Holds next_of f → (s c : ℕ) → (next_of s c ≡ 0 → ⊥) → f s c (next_of s c) ≡ true
rule f t s c n = let i = inside s c n in next_rule next_of f t s c i.0 i.1 n

-- ---- where the alert stands

abbrev alert_rule : ℕ → ℕ → ℕ → Bool
alert_rule s c e = not (eqb c class.alert) || eqb s before

-- the alert starts in the first state only
pub alert_before : (s : ℕ) → (next_of s class.alert ≡ 0 → ⊥) → s ≡ before
unfolding next_of container_of
alert_before s h = eqb-true s before (rule alert_rule tt s class.alert h)

-- after the alert nothing may stand
pub over_none : (c : ℕ) → next_of over c ≡ 0
unfolding next_of container_of
over_none c =
    by_test (ltb c classes)
    (λ t. eqb-true (next_of over c) 0 (below_at classes (λ (c : ℕ). eqb (next_of over c) 0) tt c (ltb-true c classes t)))
    (λ t. sym (no_class over c (ltb-false c classes t)))

-- ---- states in which one class only may stand

abbrev only_rule : (state class next : ℕ) → ℕ → ℕ → ℕ → Bool
only_rule state d next s c e = not (eqb s state) || (eqb c d && eqb e next)

abbrev pub Only : (state class next : ℕ) → Type 0
Only state d next = (c : ℕ) → (next_of state c ≡ 0 → ⊥) → (c ≡ d) × (next_of state c ≡ next)

only_one : (state d next : ℕ) → Holds next_of (only_rule state d next) → Only state d next
only_one state d next t c h =
    let k : eqb c d && eqb (next_of state c) next ≡ true = rw (eq-eqb state state refl) at (rule (only_rule state d next) t state c h) in
    (eqb-true c d (and_left _ _ k), eqb-true (next_of state c) next (and_right (eqb c d) _ k))

pub only_alert : Only before class.alert (first_state class.alert)
unfolding next_of container_of
only_alert = only_one before class.alert (first_state class.alert) tt
