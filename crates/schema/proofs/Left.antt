-- What may follow by `follows` and `complete` is what matches the particles that are left, for any particles whose classes are all different.
use mathlib.Core.Path.{◌≡◌, refl, sym, ◌∙◌}
use mathlib.Core.Bool.{Bool, true, false, not, ◌&&◌, ◌||◌, false≢true}
use mathlib.Core.List.{List, [], ◌∷◌}
use mathlib.Core.Logic.{⊎_elim}
use Prim.Native.Nat.{ℕ, suc, ◌+◌, ◌≤◌, ◌<◌}
use native.Mathlib.Omega.{arith}
use lib.Dec.{eqb, leb, ltb}
use lib.ListN.{length}
use borrow.Author.Tests.{leb-true, ltb-true, ltb-false, eqb-true, eqb-false, not-true, lt-ltb, le-ltb, le-leb, lt-leb, eq-eqb, ne_eqb}
use Rattle.text.specs.Logic.{by_test, cond_cases, and_left, and_right}
use Rattle.schema.specs.Sequences.{Particle, Matches, none, classes, choose, follows, complete}
use Rattle.schema.proofs.Matching.{repeated, again, skipped, stood, first_class, no_more, other_more, none_left, no_more_left, has_class, class_among}

-- ---- particles that have a class each

-- no class stands twice, each is a class, and one is required at most
abbrev pub is_sequence : List Particle → Bool
is_sequence [] = true
is_sequence (p ∷ ps) = leb p.least 1 && (ltb 0 p.class && ltb p.class classes) && not (has_class p.class ps) && is_sequence ps

pub record Sequence (p : Particle) (ps : List Particle) : Type 0 where
  pub single : p.least ≤ 1
  pub positive : 0 < p.class
  pub bounded : p.class < classes
  pub other : has_class p.class ps ≡ false
  pub later : is_sequence ps ≡ true

sequence : (p : Particle) (ps : List Particle) → is_sequence (p ∷ ps) ≡ true → Sequence p ps
sequence p ps e =
    let first = leb p.least 1 in
    let second = ltb 0 p.class && ltb p.class classes in
    let third = not (has_class p.class ps) in
    let a = and_left (first && second && third) (is_sequence ps) e in
    let b = and_left (first && second) third a in
    let c = and_right first second b in
    record {
      single = leb-true p.least 1 (and_left first second b);
      positive = ltb-true 0 p.class (and_left (ltb 0 p.class) (ltb p.class classes) c);
      bounded = ltb-true p.class classes (and_right (ltb 0 p.class) (ltb p.class classes) c);
      other = not-true (has_class p.class ps) (and_right (first && second) third a);
      later = and_right (first && second && third) (is_sequence ps) e;
    }

-- ---- what is left

abbrev left_at : (passed last : Bool) → Particle → (ps later : List Particle) → List Particle
left_at true last p ps later = later
left_at false true p ps later = again p ps
left_at false false p ps later = p ∷ ps

-- the particles that may still stand if the first k are passed, counted from i
unfoldable pub left : ℕ → ℕ → List Particle → List Particle
left k i [] = []
left k i (p ∷ ps) = left_at (ltb i k) (eqb i k) p ps (left k (i + 1) ps)

module _ (k i : ℕ) (p : Particle) (ps : List Particle) where
  left_later : i < k → left k i (p ∷ ps) ≡ left k (i + 1) ps
  unfolding left
  left_later h = rw (lt-ltb i k h)

  left_here : i ≡ k → left k i (p ∷ ps) ≡ again p ps
  unfolding left
  left_here h = rw (le-ltb i k (omega arith), eq-eqb i k h)

pub left_all : (k i : ℕ) (ps : List Particle) → k < i → left k i ps ≡ ps
unfolding left
left_all k i [] h = refl
left_all k i (p ∷ ps) h = rw (le-ltb i k (omega arith), ne_eqb i k (λ e. omega (arith, e)))

-- ---- what may follow

-- what a particle at index i says of class d if k are passed, by what the later ones say: r
data Choice (k d i : ℕ) (p : Particle) (later : ℕ) : ℕ → Type 0 where
  passed : i < k → Choice k d i p later later
  repeats : i ≡ k → p.class ≡ d → p.many ≡ true → Choice k d i p later i
  other : i ≡ k → (p.class ≡ d → p.many ≡ false) → Choice k d i p later later
  stands : k < i → p.class ≡ d → Choice k d i p later i
  leaves : k < i → (p.class ≡ d → ⊥) → p.least ≡ 0 → Choice k d i p later later
  misses : k < i → (p.class ≡ d → ⊥) → (p.least ≡ 0 → ⊥) → Choice k d i p later 0

choice : (k d i : ℕ) (p : Particle) (later : ℕ) → Choice k d i p later (choose (ltb i k) (eqb i k) (eqb p.class d) p i later)
choice k d i p later = go (ltb i k) (eqb i k) (eqb p.class d) refl refl refl
  where
    after : ltb i k ≡ false → eqb i k ≡ false → k < i
    after e f = omega (arith, ltb-false i k e, eqb-false i k f)

    go :
        (a b s : Bool) → ltb i k ≡ a → eqb i k ≡ b → eqb p.class d ≡ s
        → Choice k d i p later (choose a b s p i later)
    go true b s e f g = passed (ltb-true i k e)
    go false true true e f g =
        cond_cases (Choice k d i p later) p.many i later
        (λ h. repeats (eqb-true i k f) (eqb-true p.class d g) h)
        (λ h. other (eqb-true i k f) (λ c. h))
    go false true false e f g = other (eqb-true i k f) (λ c. absurd (eqb-false p.class d g c))
    go false false true e f g = stands (after e f) (eqb-true p.class d g)
    go false false false e f g =
        cond_cases (Choice k d i p later) (eqb p.least 0) later 0
        (λ h. leaves (after e f) (eqb-false p.class d g) (eqb-true p.least 0 h))
        (λ h. misses (after e f) (eqb-false p.class d g) (eqb-false p.least 0 h))

-- the index is one of the particles'
pub index_within :
    (k d i : ℕ) (ps : List Particle) → (follows k d i ps ≡ 0 → ⊥) → (i ≤ follows k d i ps) × (follows k d i ps < i + length ps)
index_within k d i [] n = absurd (n refl)
index_within k d i (p ∷ ps) n = go (choice k d i p (follows k d (i + 1) ps)) (index_within k d (i + 1) ps) n
  where
    go :
        {later r : ℕ} → Choice k d i p later r → ((later ≡ 0 → ⊥) → (i + 1 ≤ later) × (later < i + 1 + length ps)) → (r ≡ 0 → ⊥)
        → (i ≤ r) × (r < i + suc (length ps))
    go (passed h) f n = let b = f n in (omega (arith, b.0), omega (arith, b.1))
    go (repeats e c y) f n = (omega arith, omega arith)
    go (other e g) f n = let b = f n in (omega (arith, b.0), omega (arith, b.1))
    go (stands h c) f n = (omega arith, omega arith)
    go (leaves h g z) f n = let b = f n in (omega (arith, b.0), omega (arith, b.1))
    go (misses h g z) f n = absurd (n refl)

-- the class is one of the classes
pub class_within :
    (k d i : ℕ) (ps : List Particle) → is_sequence ps ≡ true → (follows k d i ps ≡ 0 → ⊥) → (0 < d) × (d < classes)
class_within k d i [] w n = absurd (n refl)
class_within k d i (p ∷ ps) w n =
    go (sequence p ps w) (choice k d i p (follows k d (i + 1) ps)) (class_within k d (i + 1) ps (sequence p ps w).later) n
  where
    go : {later r : ℕ} → Sequence p ps → Choice k d i p later r → ((later ≡ 0 → ⊥) → (0 < d) × (d < classes)) → (r ≡ 0 → ⊥) → (0 < d) × (d < classes)
    go q (passed h) f n = f n
    go q (repeats e c y) f n = (omega (arith, q.positive), omega (arith, q.bounded))
    go q (other e g) f n = f n
    go q (stands h c) f n = (omega (arith, q.positive), omega (arith, q.bounded))
    go q (leaves h g z) f n = f n
    go q (misses h g z) f n = absurd (n refl)

-- what matches after a class that may follow matches with it
pub follows_matches :
    (k d i : ℕ) (ps : List Particle) (cs : List ℕ) → is_sequence ps ≡ true → (follows k d i ps ≡ 0 → ⊥)
    → Matches (left (follows k d i ps) i ps) cs → Matches (left k i ps) (d ∷ cs)
follows_matches k d i [] cs w n m = absurd (n refl)
follows_matches k d i (p ∷ ps) cs w n m =
    let q = sequence p ps w in
    go q (choice k d i p (follows k d (i + 1) ps)) (λ n. (index_within k d (i + 1) ps n).0) (follows_matches k d (i + 1) ps cs q.later) n m
  where
    go :
        {later r : ℕ} → Sequence p ps → Choice k d i p later r → ((later ≡ 0 → ⊥) → i + 1 ≤ later)
        → ((later ≡ 0 → ⊥) → Matches (left later (i + 1) ps) cs → Matches (left k (i + 1) ps) (d ∷ cs)) → (r ≡ 0 → ⊥)
        → Matches (left r i (p ∷ ps)) cs → Matches (left k i (p ∷ ps)) (d ∷ cs)
    go {later} q (passed h) b f n m =
        rw (left_later k i p ps h) (f n (rw (left_later later i p ps (omega (arith, b n))) at m))
    go q (repeats e c y) b f n m =
        rw (left_here k i p ps e, y, ← c) (stood {p = repeated p} (omega arith) (rw (left_here i i p ps refl, y) at m))
    go {later} q (other e g) b f n m =
        rw (left_here k i p ps e)
        (no_more p (rw (left_all k (i + 1) ps (omega arith)) at (f n (rw (left_later later i p ps (omega (arith, b n))) at m))))
    go q (stands h c) b f n m = rw (left_all k i (p ∷ ps) h, ← c) (stood {p = p} q.single (rw (left_here i i p ps refl) at m))
    go {later} q (leaves h g z) b f n m =
        rw (left_all k i (p ∷ ps) h)
        (skipped z (rw (left_all k (i + 1) ps (omega arith)) at (f n (rw (left_later later i p ps (omega (arith, b n))) at m))))
    go q (misses h g z) b f n m = absurd (n refl)

-- a class with which something matches may follow, and the rest matches after it
pub matches_follows :
    (k d i : ℕ) (ps : List Particle) (cs : List ℕ) → is_sequence ps ≡ true → 0 < i → Matches (left k i ps) (d ∷ cs)
    → (follows k d i ps ≡ 0 → ⊥) × Matches (left (follows k d i ps) i ps) cs
unfolding left
matches_follows k d i [] cs w a m = absurd (false≢true (class_among d cs m refl))
matches_follows k d i (p ∷ ps) cs w a m =
    let q = sequence p ps w in
    go q (choice k d i p (follows k d (i + 1) ps)) (λ n. (index_within k d (i + 1) ps n).0)
    (matches_follows k d (i + 1) ps cs q.later (omega arith)) m
  where
    twice : Sequence p ps → p.class ≡ d → Matches ps (d ∷ cs) → ⊥
    twice q c m = false≢true (sym q.other ∙ (rw c (class_among d cs m refl)))

    go :
        {later r : ℕ} → Sequence p ps → Choice k d i p later r → ((later ≡ 0 → ⊥) → i + 1 ≤ later)
        → (Matches (left k (i + 1) ps) (d ∷ cs) → (later ≡ 0 → ⊥) × Matches (left later (i + 1) ps) cs)
        → Matches (left k i (p ∷ ps)) (d ∷ cs) → (r ≡ 0 → ⊥) × Matches (left r i (p ∷ ps)) cs
    go {later} q (passed h) b f m =
        let g = f (rw (left_later k i p ps h) at m) in
        (g.0, rw (left_later later i p ps (omega (arith, b g.0))) g.1)
    go q (repeats e c y) b f m =
        ⊎_elim (λ h. (λ z. omega (arith, z), rw (left_here i i p ps refl, y) h.1)) (λ h. absurd (twice q c h.1))
        (first_class {p = repeated p} (rw (left_here k i p ps e, y) at m))
    go {later} q (other e g) b f m =
        let h = f (rw (left_all k (i + 1) ps (omega arith)) (other_more p g (rw (left_here k i p ps e) at m))) in
        (h.0, rw (left_later later i p ps (omega (arith, b h.0))) h.1)
    go q (stands h c) b f m =
        ⊎_elim (λ g. (λ z. omega (arith, z), rw (left_here i i p ps refl) g.1)) (λ g. absurd (twice q c g.1))
        (first_class (rw (left_all k i (p ∷ ps) h) at m))
    go {later} q (leaves h g z) b f m =
        ⊎_elim (λ x. absurd (g x.0))
        (λ x.
        let y = f (rw (left_all k (i + 1) ps (omega arith)) x.1) in
        (y.0, rw (left_later later i p ps (omega (arith, b y.0))) y.1))
        (first_class (rw (left_all k i (p ∷ ps) h) at m))
    go q (misses h g z) b f m = ⊎_elim (λ x. absurd (g x.0)) (λ x. absurd (z x.0)) (first_class (rw (left_all k i (p ∷ ps) h) at m))

-- ---- what is required

-- by the index: before the last particle passed, that one, or after it
by_index : {P : Type 0} (i k : ℕ) → (i < k → P) → (i ≡ k → P) → (k < i → P) → P
by_index i k f g h =
    by_test (ltb i k) (λ t. f (ltb-true i k t))
    (λ t. by_test (eqb i k) (λ u. g (eqb-true i k u)) (λ u. h (omega (arith, ltb-false i k t, eqb-false i k u))))

pub complete_matches : (k i : ℕ) (ps : List Particle) → complete k i ps ≡ true → Matches (left k i ps) []
unfolding left
complete_matches k i [] e = none
complete_matches k i (p ∷ ps) e = go (complete_matches k (i + 1) ps (and_right (leb i k || eqb p.least 0) (complete k (i + 1) ps) e))
  where
    go : Matches (left k (i + 1) ps) [] → Matches (left k i (p ∷ ps)) []
    go m =
        by_index i k
        (λ h. rw (left_later k i p ps h) m)
        (λ h. rw (left_here k i p ps h) (no_more p (rw (left_all k (i + 1) ps (omega arith)) at m)))
        (λ h.
        let z : eqb p.least 0 ≡ true = rw (lt-leb i k h) at (and_left (leb i k || eqb p.least 0) (complete k (i + 1) ps) e) in
        rw (left_all k i (p ∷ ps) h) (skipped (eqb-true p.least 0 z) (rw (left_all k (i + 1) ps (omega arith)) at m)))

pub matches_complete : (k i : ℕ) (ps : List Particle) → Matches (left k i ps) [] → complete k i ps ≡ true
matches_complete k i [] m = refl
matches_complete k i (p ∷ ps) m = go (matches_complete k (i + 1) ps)
  where
    go : (Matches (left k (i + 1) ps) [] → complete k (i + 1) ps ≡ true) → complete k i (p ∷ ps) ≡ true
    go f =
        by_index i k
        (λ h. rw (le-leb i k (omega arith)) (f (rw (left_later k i p ps h) at m)))
        (λ h. rw (le-leb i k (omega arith)) (f (rw (left_all k (i + 1) ps (omega arith)) (no_more_left p (rw (left_here k i p ps h) at m)))))
        (λ h.
        let n = none_left (rw (left_all k i (p ∷ ps) h) at m) in
        rw (lt-leb i k h, eq-eqb p.least 0 n.0) (f (rw (left_all k (i + 1) ps (omega arith)) n.1)))
