-- The class of a name: the names are all different, and a text that has a class is the name of it.
use mathlib.Core.Path.{◌≡◌, refl, sym, ap, ◌∙◌}
use mathlib.Core.Bool.{Bool, true}
use mathlib.Core.List.{List, [], ◌∷◌}
use Prim.Native.Nat.{ℕ, suc, ◌+◌, ◌-◌, ◌≤◌, ◌<◌}
use native.Mathlib.Omega.{arith}
use lib.Dec.{eqb}
use lib.ListN.{length, get_or, get_or-eq_default}
use borrow.Author.Tests.{eqb-true, ne_eqb}
use Rattle.text.specs.Logic.{cond_cases, below_at, eql, eql_true}
use Rattle.schema.specs.Classes.{names, name_of, find, class_of}
use Rattle.schema.specs.Sequences.{classes}

-- ---- finding in any list

-- an index found is below the end of the list
pub find_below : (k m : ℕ) (t : List ℕ) (ns : List (List ℕ)) → k + length ns ≤ m → 0 < m → find k t ns < m
unfolding find
find_below k m t [] h g = g
find_below k m t (n ∷ ns) h g =
    cond_cases (λ (r : ℕ). r < m) (eql t n) k (find (k + 1) t ns) (λ e. omega arith) (λ e. find_below (k + 1) m t ns (omega arith) g)

-- at an index found, but for 0, the text stands in the list
pub find_at :
    (k : ℕ) (t : List ℕ) (ns : List (List ℕ)) → (find k t ns ≡ 0 → ⊥) → (k ≤ find k t ns) × (t ≡ get_or ns (find k t ns - k) [])
unfolding find
find_at k t [] = λ h. absurd (h refl)
find_at k t (n ∷ ns) =
    cond_cases (λ (r : ℕ). (r ≡ 0 → ⊥) → (k ≤ r) × (t ≡ get_or (n ∷ ns) (r - k) [])) (eql t n) k (find (k + 1) t ns)
    (λ e h. let z : k - k ≡ 0 = omega arith in (omega arith, rw z (eql_true t n e)))
    (λ e h.
    let p = find_at (k + 1) t ns h in
    let z : find (k + 1) t ns - k ≡ suc (find (k + 1) t ns - (k + 1)) = omega (arith, p.0) in
    (omega (arith, p.0), rw z p.1))

-- ---- the names

is_found : ℕ → Bool
unfolding names find class_of
is_found c = eqb (class_of (name_of c)) c

-- each name has its own class: no two names are the same
pub name_class : (c : ℕ) → c < classes → class_of (name_of c) ≡ c
unfolding is_found
name_class c h = eqb-true (class_of (name_of c)) c (below_at classes is_found tt c h)

-- a text that is the name of a class has this class
pub named_class : (t : List ℕ) (c : ℕ) → c < classes → eql t (name_of c) ≡ true → class_of t ≡ c
named_class t c h e = ap class_of (eql_true t (name_of c) e) ∙ name_class c h

-- a text that has a class is its name
pub class_named : (t : List ℕ) → (class_of t ≡ 0 → ⊥) → t ≡ name_of (class_of t)
unfolding class_of
class_named t h = let z : find 0 t names - 0 ≡ find 0 t names = omega arith in rw z at (find_at 0 t names h).1

-- a class found is one of the classes
pub class_below : (t : List ℕ) → class_of t < classes
unfolding class_of names
class_below t = find_below 0 classes t names (omega arith) (omega arith)

-- ---- no class

entries : length names ≡ classes
unfolding names
entries = refl

eql_nil : (t : List ℕ) → eqb (length t) 0 ≡ eql t []
eql_nil [] = refl
eql_nil (x ∷ t) = ne_eqb (length (x ∷ t)) 0 (λ e. omega (arith, e))

-- a number that is no class has the empty name
pub no_name : (t : List ℕ) (c : ℕ) → classes ≤ c → eqb (length t) 0 ≡ eql t (name_of c)
no_name t c h = eql_nil t ∙ ap (eql t) (sym (get_or-eq_default names [] {n = c} (rw entries h)))
