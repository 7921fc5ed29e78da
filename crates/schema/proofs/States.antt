-- A state is a container and how many of its particles are passed: what the table says there, in the words of the container's particles.
use mathlib.Core.Path.{◌≡◌, sym, ap, ◌∙◌}
use mathlib.Core.Bool.{Bool, true, ◌&&◌, ◌||◌}
use Prim.Native.Nat.{ℕ, ◌+◌, ◌-◌, ◌≤◌, ◌<◌}
use native.Mathlib.Omega.{arith}
use lib.Dec.{eqb, ltb}
use lib.ListN.{length}
use borrow.Author.Tests.{ltb-true, eqb-true, eqb-false, lt-ltb, le-leb, lt-leb, eq-eqb, ne_eqb}
use Rattle.text.specs.Logic.{by_test, and_left, and_right, below, below_at, true_T}
use Rattle.schema.specs.Classes as class
use Rattle.schema.specs.Sequences.{particles, parent_of, first_state, states, classes, over, container_of, follows, complete, index_in, next_in, next_of}
use Rattle.schema.proofs.Table.{inside}
use Rattle.schema.proofs.Left.{is_sequence, index_within, class_within}

abbrev pub state : (container passed : ℕ) → ℕ
state c k = first_state c + k

pub record Among (c k : ℕ) : Type 0 where
  pub container : c ≤ class.last_container
  pub passed : k ≤ length (particles c)

-- the state after the end of a container
abbrev pub after_end : ℕ → ℕ
after_end c = state (parent_of c) (index_in c 1 (particles (parent_of c)))

-- ---- tests over all states

-- the state is one of the container's, and each container that may follow leads back to the state after its particle
abbrev is_state : ℕ → ℕ → Bool
is_state c k = ltb 0 (state c k) && ltb (state c k) states && eqb (container_of (state c k)) c

abbrev is_back : ℕ → ℕ → ℕ → Bool
is_back c k d = eqb d 0 || eqb (follows k d 1 (particles c)) 0 || eqb (after_end d) (state c (follows k d 1 (particles c)))

abbrev is_right_in : ℕ → ℕ → Bool
is_right_in c k = is_state c k && below (class.last_container + 1) (is_back c k)

abbrev is_right_container : ℕ → Bool
is_right_container c = is_sequence (particles c) && below (length (particles c) + 1) (is_right_in c)

containers_right : (c : ℕ) → c ≤ class.last_container → is_right_container c ≡ true
unfolding container_of
containers_right c h = below_at (class.last_container + 1) is_right_container tt c (omega arith)

pub is_sequence_lem : (c : ℕ) → c ≤ class.last_container → is_sequence (particles c) ≡ true
is_sequence_lem c h = and_left (is_sequence (particles c)) _ (containers_right c h)

-- ---- the table's entries

module _ {c k : ℕ} (a : Among c k) where
  right_in : is_right_in c k ≡ true
  right_in =
      below_at (length (particles c) + 1) (is_right_in c)
      (true_T _ (and_right (is_sequence (particles c)) _ (containers_right c a.container)))
      k (omega (arith, a.passed))

  is_state_lem : is_state c k ≡ true
  is_state_lem = and_left (is_state c k) _ right_in

  pub container_is : container_of (state c k) ≡ c
  container_is = eqb-true (container_of (state c k)) c (and_right (ltb 0 (state c k) && ltb (state c k) states) _ is_state_lem)

  next_is : (d : ℕ) → d < classes → next_of (state c k) d ≡ next_in c k d
  unfolding next_of
  next_is d h =
      let t = and_left (ltb 0 (state c k) && ltb (state c k) states) _ is_state_lem in
      let p = ltb-true 0 (state c k) (and_left (ltb 0 (state c k)) _ t) in
      let z : state c k - first_state c ≡ k = omega arith in
      rw (and_right (ltb 0 (state c k)) _ t, lt-ltb d classes h, ne_eqb (state c k) 0 (λ e. omega (arith, e)), container_is, z)

  module _ (d : ℕ) (n : follows k d 1 (particles c) ≡ 0 → ⊥) where
    pub known : (0 < d) × (d < classes)
    known = class_within k d 1 (particles c) (is_sequence_lem c a.container) n

    -- an element that may stand leads on: a leaf to the state after its particle, a container to its own first state
    pub leaf_next : class.last_container < d → next_of (state c k) d ≡ state c (follows k d 1 (particles c))
    leaf_next h = next_is d known.1 ∙ rw (ne_eqb d 0 (λ e. omega (arith, e)), ne_eqb (follows k d 1 (particles c)) 0 n, lt-leb d class.last_container h)

    pub container_next : d ≤ class.last_container → next_of (state c k) d ≡ state d 0
    container_next h =
        let z : first_state d ≡ first_state d + 0 = omega arith in
        next_is d known.1
        ∙ rw (ne_eqb d 0 (λ e. omega (arith, e, known.0)), ne_eqb (follows k d 1 (particles c)) 0 n, le-leb d class.last_container h) z

    pub among_next : Among c (follows k d 1 (particles c))
    among_next = record { container = a.container; passed = omega (arith, (index_within k d 1 (particles c) n).1) }

    -- a container's end leads back to the state after its particle
    pub back : d ≤ class.last_container → after_end d ≡ state c (follows k d 1 (particles c))
    back h =
        let t : is_back c k d ≡ true =
        below_at (class.last_container + 1) (is_back c k) (true_T _ (and_right (is_state c k) _ right_in)) d (omega arith) in
        eqb-true (after_end d) (state c (follows k d 1 (particles c)))
        (rw (ne_eqb d 0 (λ e. omega (arith, e, known.0)), ne_eqb (follows k d 1 (particles c)) 0 n) at t)

  -- what stands where it may is one of the container's particles
  pub may_follow : (d : ℕ) → 0 < d → (next_of (state c k) d ≡ 0 → ⊥) → follows k d 1 (particles c) ≡ 0 → ⊥
  may_follow d h n z =
      n (next_is d (inside (state c k) d n).1 ∙ rw (ne_eqb d 0 (λ e. omega (arith, e)), eq-eqb (follows k d 1 (particles c)) 0 z))

  pub end_next : 0 < c → complete k 1 (particles c) ≡ true → next_of (state c k) 0 ≡ after_end c
  end_next h e = next_is 0 (omega arith) ∙ rw (ne_eqb c 0 (λ z. omega (arith, z)), e)

  pub may_end : (next_of (state c k) 0 ≡ 0 → ⊥) → (0 < c) × (complete k 1 (particles c) ≡ true)
  may_end n =
      by_test (eqb c 0)
      (λ e. absurd (n (next_is 0 (omega arith) ∙ rw e)))
      (λ e.
      by_test (complete k 1 (particles c)) (λ t. (omega (arith, eqb-false c 0 e), t))
      (λ t. absurd (n (next_is 0 (omega arith) ∙ rw (e, t)))))

  -- after the alert one particle of the document is passed
  pub when_over : state c k ≡ over → (c ≡ 0) × (k ≡ 1)
  unfolding container_of
  when_over e = let z : c ≡ 0 = sym container_is ∙ ap container_of e in (z, omega (arith, ap (λ (x : ℕ). state x k) (sym z) ∙ e))

pub among_first : (c : ℕ) → c ≤ class.last_container → Among c 0
among_first c h = record { container = h; passed = omega arith }
