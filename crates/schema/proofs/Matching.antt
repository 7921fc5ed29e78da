-- What matches a sequence, by its first particle.
use mathlib.Core.Path.{◌≡◌, refl, sym, ap, subst, ◌∙◌}
use mathlib.Core.Bool.{Bool, true, false, cond, ◌||◌, false≢true}
use mathlib.Core.List.{List, [], ◌∷◌, ◌++◌}
use mathlib.Core.Logic.{◌⊎◌, inl, inr, ⊎_elim}
use Prim.Native.Nat.{ℕ, zero, suc, ◌≤◌}
use native.Mathlib.Omega.{arith}
use lib.Dec.{eqb}
use lib.ListN.{replicate}
use borrow.Author.Tests.{eq-eqb}
use Rattle.text.specs.Logic.{by_test, clash}
use Rattle.schema.specs.Sequences.{Particle, Matches, none, times}

abbrev pub repeated : Particle → Particle
repeated p = record { class = p.class; least = 0; many = true }

-- a particle that has stood may stand again if it may stand more than once
abbrev pub again : Particle → List Particle → List Particle
again p ps = cond p.many (repeated p ∷ ps) ps

module _ {p : Particle} {ps : List Particle} where
  pub skipped : {cs : List ℕ} → p.least ≡ 0 → Matches ps cs → Matches (p ∷ ps) cs
  skipped e m = times {p = p} 0 (omega arith) (λ f. omega arith) m refl

  pub stood : {cs : List ℕ} → p.least ≤ 1 → Matches (again p ps) cs → Matches (p ∷ ps) (p.class ∷ cs)
  stood {cs} h = go p.many refl
    where
      more : p.many ≡ true → Matches (repeated p ∷ ps) cs → Matches (p ∷ ps) (p.class ∷ cs)
      more e (times k a b m f) =
          times {p = p} (suc k) (omega arith) (λ g. absurd (false≢true (sym g ∙ e))) m (ap (λ (xs : List ℕ). p.class ∷ xs) f)

      go : (b : Bool) → p.many ≡ b → Matches (cond b (repeated p ∷ ps) ps) cs → Matches (p ∷ ps) (p.class ∷ cs)
      go true e m = more e m
      go false e m = times {p = p} 1 h (λ f. omega arith) m refl

  -- the first of the classes is the first particle's, or this is left out
  pub first_class :
      {d : ℕ} {cs : List ℕ} → Matches (p ∷ ps) (d ∷ cs)
      → ((p.class ≡ d) × Matches (again p ps) cs) ⊎ ((p.least ≡ 0) × Matches ps (d ∷ cs))
  first_class (times zero a b m f) = inr (omega arith, subst (Matches ps) (sym f) m)
  first_class {d} {cs} (times {rest = rest} (suc k) a b m f) = inl (cc, go p.many refl)
    where
      tail : cs ≡ replicate k p.class ++ rest
      tail = cc

      go : (x : Bool) → p.many ≡ x → Matches (cond x (repeated p ∷ ps) ps) cs
      go true e = times {p = repeated p} k (omega arith) (λ g. absurd (false≢true (sym g))) m tail
      go false e =
          let z : k ≡ 0 = omega (arith, b e) in
          subst (Matches ps) (sym (tail ∙ ap (λ (n : ℕ). replicate n p.class ++ rest) z)) m

  pub none_left : Matches (p ∷ ps) [] → (p.least ≡ 0) × Matches ps []
  none_left (times zero a b m f) = (omega arith, subst (Matches ps) (sym f) m)
  none_left (times (suc k) a b m f) = clash (cc)

module _ (p : Particle) {ps : List Particle} where
  -- a particle that has stood needs not stand again
  pub no_more : {cs : List ℕ} → Matches ps cs → Matches (again p ps) cs
  no_more {cs} m = go p.many
    where
      go : (b : Bool) → Matches (cond b (repeated p ∷ ps) ps) cs
      go true = skipped {p = repeated p} refl m
      go false = m

  -- one that does not is left out
  pub other_more : {d : ℕ} {cs : List ℕ} → (p.class ≡ d → p.many ≡ false) → Matches (again p ps) (d ∷ cs) → Matches ps (d ∷ cs)
  other_more {d} {cs} g = go p.many refl
    where
      go : (b : Bool) → p.many ≡ b → Matches (cond b (repeated p ∷ ps) ps) (d ∷ cs) → Matches ps (d ∷ cs)
      go true e m = ⊎_elim (λ h. absurd (false≢true (sym (g h.0) ∙ e))) (λ h. h.1) (first_class {p = repeated p} m)
      go false e m = m

  pub no_more_left : Matches (again p ps) [] → Matches ps []
  no_more_left = go p.many
    where
      go : (b : Bool) → Matches (cond b (repeated p ∷ ps) ps) [] → Matches ps []
      go true m = (none_left {p = repeated p} m).1
      go false m = m

abbrev pub has_class : ℕ → List Particle → Bool
has_class d [] = false
has_class d (p ∷ ps) = eqb p.class d || has_class d ps

-- the first of the classes is that of a particle
pub class_among : {ps : List Particle} {ds : List ℕ} (d : ℕ) (cs : List ℕ) → Matches ps ds → ds ≡ d ∷ cs → has_class d ps ≡ true
class_among d cs none e = clash (cc)
class_among d cs (times {p = p} zero a b m f) e =
    by_test (eqb p.class d) (λ t. rw t) (λ t. rw t (class_among d cs m (sym f ∙ e)))
class_among d cs (times {p = p} (suc k) a b m f) e = rw (eq-eqb p.class d (cc))
