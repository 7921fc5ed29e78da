-- What runs to an end: what a turn of a loop over it says, and where its end and its first fault lie.
use mathlib.Core.Path.{◌≡◌, sym, ap, ◌∙◌, subst}
use mathlib.Core.Bool.{Bool, true, false, cond}
use mathlib.Core.List.{List, [], ◌∷◌}
use Prim.Native.Nat.{ℕ, zero, suc, ◌+◌, ◌-◌, ◌≤◌, ◌<◌}
use native.Mathlib.Omega.{arith}
use lib.ListN.{length, drop, length-drop, drop_of_length-le}
use lib.Seq.{drop-drop}
use Rattle.text.specs.Logic.{cond_cases}
use Rattle.text.specs.Parts.{starts_with}
use Rattle.text.proofs.Runs.{drop_next}
use Rattle.std.specs.Prelude.{Result, Ok, Err}
use Rattle.xml.specs.declared.ContentError.{ContentError}
use Rattle.xml.specs.declared.ContentError.TheVariants.{Fault, Unended}
use Rattle.xml.specs.Searches.{holds, up_to}
use Rattle.text.proofs.Parts.{starts_at_le}

-- ---- a loop that looks for an offset where a test holds: at i, with t what the test gave there, the answer r is still due, or given

module _ (f : List ℕ → Bool) (s : List ℕ) (i : ℕ) (r : Bool) (v : holds f (drop i s) ≡ r) where
  pub holds_on : {t : Bool} → i < length s → t ≡ f (drop i s) → t ≡ false → holds f (drop (i + 1) s) ≡ r
  holds_on h q e = let n = drop_next s i h in rw (n, rw n at (sym q ∙ e)) at v

  pub holds_here : {t : Bool} → i < length s → t ≡ f (drop i s) → t ≡ true → true ≡ r
  holds_here h q e = let n = drop_next s i h in rw (n, rw n at (sym q ∙ e)) at v

  pub holds_none : length s ≤ i → false ≡ r
  holds_none h = rw (drop_of_length-le s h) at v

-- ---- a loop to the end, with a and b what the tests for the end and for a fault gave at i

module _ (end fault : List ℕ → Bool) (s : List ℕ) (i : ℕ) (r : Result ℕ ContentError) (v : up_to end fault i (drop i s) ≡ r) where
  pub up_stop : {a : Bool} → i < length s → a ≡ end (drop i s) → a ≡ true → Ok i ≡ r
  up_stop h p d = let n = drop_next s i h in rw (n, rw n at (sym p ∙ d)) at v

  pub up_none : length s ≤ i → Err Unended ≡ r
  up_none h = rw (drop_of_length-le s h) at v

  module _ {a b : Bool} (h : i < length s) (p : a ≡ end (drop i s)) (d : a ≡ false) (q : b ≡ fault (drop i s)) where
    pub up_on : b ≡ false → up_to end fault (i + 1) (drop (i + 1) s) ≡ r
    up_on e = let n = drop_next s i h in rw (n, rw n at (sym p ∙ d), rw n at (sym q ∙ e)) at v

    pub up_fault : b ≡ true → {o : ContentError} → o ≡ cond (holds end (drop i s)) (Fault i) Unended → Err o ≡ r
    up_fault e w = let n = drop_next s i h in ap Err w ∙ rw (n, rw n at (sym p ∙ d)) (rw (n, rw n at (sym p ∙ d), rw n at (sym q ∙ e)) at v)

-- ---- where the end and the first fault lie

module _ (end fault : List ℕ → Bool) where
  abbrev Lies : ℕ → List ℕ → Result ℕ ContentError → Type 0
  Lies i m (Ok e) = (i ≤ e) × (e < i + length m) × (end (drop (e - i) m) ≡ true) × ((k : ℕ) → i + k < e → fault (drop k m) ≡ false)
  Lies i m (Err (Fault p)) = (i ≤ p) × (p < i + length m)
  Lies i m (Err Unended) = Prim.Unit

  one_more : (i b : ℕ) (m : List ℕ) → fault (b ∷ m) ≡ false → (r : Result ℕ ContentError) → Lies (i + 1) m r → Lies i (b ∷ m) r
  one_more i b m f (Ok e) w =
      let z : e - i ≡ suc (e - (i + 1)) = omega (arith, w.0) in
      (omega (arith, w.0), omega (arith, w.1), rw z w.2, fine)
    where
      fine : (k : ℕ) → i + k < e → fault (drop k (b ∷ m)) ≡ false
      fine zero h = f
      fine (suc k) h = w.3 k (omega arith)
  one_more i b m f (Err (Fault p)) w = (omega (arith, w.0), omega (arith, w.1))
  one_more i b m f (Err Unended) w = tt

  lies : (i : ℕ) (m : List ℕ) → Lies i m (up_to end fault i m)
  lies i [] = tt
  lies i (b ∷ m) =
      let z : i - i ≡ 0 = omega arith in
      cond_cases (Lies i (b ∷ m)) (end (b ∷ m)) _ _
      (λ t. (omega arith, omega arith, rw z t, λ k h. absurd (omega arith))) λ t.
      cond_cases (Lies i (b ∷ m)) (fault (b ∷ m)) _ _
      (λ u. cond_cases (λ e. Lies i (b ∷ m) (Err e)) (holds end (b ∷ m)) _ _ (λ w. (omega arith, omega arith)) (λ w. tt))
      (λ u. one_more i b m u (up_to end fault (i + 1) m) (lies (i + 1) m))

  -- at an offset of the document l
  module _ (l : List ℕ) (at : ℕ) where
    here : (k : ℕ) (f : List ℕ → Bool) (t : Bool) → at ≤ k → f (drop (k - at) (drop at l)) ≡ t → f (drop k l) ≡ t
    here k f t h e = let z : at + (k - at) ≡ k = omega arith in rw (← z, ← drop-drop (k - at) at l) e

    pub ends_within : (e : ℕ) → up_to end fault at (drop at l) ≡ Ok e → (at ≤ e) × (e < length l) × (end (drop e l) ≡ true)
    ends_within e q =
        let w = subst (Lies at (drop at l)) q (lies at (drop at l)) in
        (w.0, omega (arith, w.1, length-drop at l), here e end true w.0 w.2)

    pub no_fault : (e : ℕ) → up_to end fault at (drop at l) ≡ Ok e → (i : ℕ) → at ≤ i → i < e → fault (drop i l) ≡ false
    no_fault e q i g h =
        here i fault false g ((subst (Lies at (drop at l)) q (lies at (drop at l))).3 (i - at) (omega arith))

    pub faults_within : (p : ℕ) → up_to end fault at (drop at l) ≡ Err (Fault p) → (at ≤ p) × (p < length l)
    faults_within p q = let w = subst (Lies at (drop at l)) q (lies at (drop at l)) in (w.0, omega (arith, w.1, length-drop at l))

-- what ends with p holds it inside the document
pub ends_with :
    (p : List ℕ) (fault : List ℕ → Bool) (l : List ℕ) (at e : ℕ) → 0 < length p
    → up_to (starts_with p) fault at (drop at l) ≡ Ok e → (at ≤ e) × (e + length p ≤ length l)
ends_with p fault l at e h q = let w = ends_within (starts_with p) fault l at e q in (w.0, starts_at_le p l e h w.2)
