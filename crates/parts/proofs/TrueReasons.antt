-- The reason is the true one: the shape named holds the place, and none before it does.
use mathlib.Core.Path.{◌≡◌, refl, sym, ◌∙◌}
use mathlib.Core.Bool.{Bool, true, false, cond}
use mathlib.Core.List.{List, [], ◌∷◌}
use Rattle.std.specs.Prelude.{Option, Some, None}
use Prim.Native.Nat.{ℕ, zero, suc, ◌+◌, ◌-◌, ◌<◌, ◌≤◌}
use native.Mathlib.Nat.{sub_self}
use native.Mathlib.Omega.{arith}
use lib.Dec.{eqb}
use lib.ListN.{length, get_or}
use borrow.Author.Tests.{eqb-true, eqb-false}
use Rattle.text.specs.Logic.{by_test, clash, first_arm, second_arm}
use Rattle.coordinates.specs.declared.Place.{Place}
use Rattle.parts.specs.declared.ShapeKind.{ShapeKind}
use Rattle.parts.specs.declared.ShapeKind.TheVariants as kind
use Rattle.parts.specs.declared.ShapeAt.{ShapeAt}
use Rattle.parts.specs.Elements.{part_of}
use Rattle.parts.specs.Areas.{Area, no_area, shapes_of}
use Rattle.parts.specs.Reasons.{of_kind, kind_holds, or_else, first_of_kind, first_in_area, first_from, first_shape, held, tried, shapeless, reason_of, reason_in}
use Rattle.parts.specs.TrueReasons.{Stands, holds_at, Before, by_area, by_kind, by_position, TrueReason, DocumentReason}
use Rattle.parts.proofs.AreaOrder.{part_placed}
use Rattle.parts.proofs.KeptShapes.{counted_texts}
use Rattle.parts.proofs.Meant.{why_place}

-- ---- the first along a list

-- f of a position and an element may give something; the first element of a list has position i, and past its end stands d
module _ {A B : Type 0} (d : A) (f : ℕ → A → Option B) where
  abbrev given_at : (i : ℕ) → List A → (q : ℕ) → Option B
  given_at i xs q = f q (get_or xs (q - i) d)

  -- it gives nothing before the position n
  abbrev NoneTo : (i : ℕ) → List A → (n : ℕ) → Type 0
  NoneTo i xs n = (q : ℕ) → i ≤ q → q < n → given_at i xs q ≡ None

  -- what it gives first
  data Along (i : ℕ) (xs : List A) : Option B → Type 0 where
    found : {s : B} (q : ℕ) → i ≤ q → q < i + length xs → given_at i xs q ≡ Some s → NoneTo i xs q → Along i xs (Some s)
    nothing : NoneTo i xs (i + length xs) → Along i xs None

  module _ (i : ℕ) (x : A) (xs : List A) where
    here : f i x ≡ given_at i (x ∷ xs) i
    here = rw (sub_self i)

    later : (q : ℕ) → i + 1 ≤ q → given_at i (x ∷ xs) q ≡ given_at (i + 1) xs q
    later q l = let z : q - i ≡ suc (q - (i + 1)) = omega arith in rw z

    none_more : (n : ℕ) → f i x ≡ None → NoneTo (i + 1) xs n → NoneTo i (x ∷ xs) n
    none_more n e h q l u =
        by_test (eqb q i)
        (λ t. rw (eqb-true q i t) (sym here ∙ e))
        (λ t. let g : i + 1 ≤ q = omega (arith, eqb-false q i t) in later q g ∙ h q g u)

    along_next : (o r : Option B) → f i x ≡ o → Along (i + 1) xs r → Along i (x ∷ xs) (or_else o r)
    along_next (Some s) r e h = found i (omega arith) (omega arith) (sym here ∙ e) (λ q l u. absurd (omega arith))
    along_next None r e (found q l u g h) = found q (omega arith) (omega arith) (later q l ∙ g) (none_more q e h)
    along_next None r e (nothing h) = nothing (λ q l u. none_more _ e h q l (omega arith))

  -- a search that goes on to the next position where f gives nothing
  module _ (search : ℕ → List A → Option B) (at_end : (i : ℕ) → search i [] ≡ None)
      (at_next : (i : ℕ) (x : A) (xs : List A) → search i (x ∷ xs) ≡ or_else (f i x) (search (i + 1) xs)) where
    along : (i : ℕ) (xs : List A) → Along i xs (search i xs)
    along i [] = rw (at_end i) (nothing (λ q l u. absurd (omega arith)))
    along i (x ∷ xs) = rw (at_next i x xs) (along_next i x xs (f i x) (search (i + 1) xs) refl (along (i + 1) xs))

-- ---- the shapes of an area

module _ (p : Place) where
  -- the shape of a kind at a position of an area holds the place
  abbrev holds_in : Area → ShapeKind → ℕ → Bool
  holds_in x k q = kind_holds p k (get_or (of_kind k x) (q - 1) [])

  -- no shape of a kind does, before a position; and none at all
  abbrev NoneBefore : Area → ShapeKind → ℕ → Type 0
  NoneBefore x k n = (q : ℕ) → 1 ≤ q → q < n → holds_in x k q ≡ false

  abbrev NoneOf : Area → ShapeKind → Type 0
  NoneOf x k = NoneBefore x k (1 + length (of_kind k x))

  module _ (a : ℕ) (x : Area) where
    abbrev if_held : ShapeKind → ℕ → List ℕ → Option ShapeAt
    if_held k q t = cond (kind_holds p k t) (Some (record { area = a; kind = k; position = q })) None

    abbrev AlongKind : ShapeKind → Option ShapeAt → Type 0
    AlongKind k o = Along [] (if_held k) 1 (of_kind k x) o

    along_kind : (k : ShapeKind) → AlongKind k (first_of_kind p a k 1 (of_kind k x))
    unfolding first_of_kind
    along_kind k =
        along [] (if_held k) (first_of_kind p a k) (λ i. refl) (λ i t ts. by_test (kind_holds p k t) (λ h. rw h) (λ h. rw h)) 1 (of_kind k x)

    none_before : (k : ShapeKind) (n : ℕ) → NoneTo [] (if_held k) 1 (of_kind k x) n → NoneBefore x k n
    none_before k n h q l u = second_arm _ _ _ (holds_in x k q) (h q l u) (λ e. clash (cc))

    -- the first polygon that holds the place, or else the first circle
    data InArea : Option ShapeAt → Type 0 where
      one : {s : ShapeAt} (k : ShapeKind) → AlongKind k (Some s) → (k ≡ kind.Circle → NoneOf x kind.Polygon) → InArea (Some s)
      neither : ((k : ShapeKind) → NoneOf x k) → InArea None

    both : NoneOf x kind.Polygon → NoneOf x kind.Circle → (k : ShapeKind) → NoneOf x k
    both h g kind.Polygon = h
    both h g kind.Circle = g

    or_else_lem : {o r : Option ShapeAt} → AlongKind kind.Polygon o → AlongKind kind.Circle r → InArea (or_else o r)
    or_else_lem (found q l u t h) c = one kind.Polygon (found q l u t h) (λ e. clash (cc))
    or_else_lem (nothing h) (found q l u t g) = one kind.Circle (found q l u t g) (λ e. none_before kind.Polygon _ h)
    or_else_lem (nothing h) (nothing g) = neither (both (none_before kind.Polygon _ h) (none_before kind.Circle _ g))

    in_area : InArea (first_in_area p a x)
    in_area = or_else_lem (along_kind kind.Polygon) (along_kind kind.Circle)

    none_in : first_in_area p a x ≡ None → (k : ShapeKind) → NoneOf x k
    none_in e = go (rw e at in_area)
      where
        go : InArea None → (k : ShapeKind) → NoneOf x k
        go (neither h) = h

  -- ---- the areas of a part

  module _ (xs : List Area) where
    abbrev AlongAreas : Option ShapeAt → Type 0
    AlongAreas o = Along no_area (first_in_area p) 1 xs o

    along_areas : AlongAreas (first_shape p xs)
    unfolding first_from
    along_areas = along no_area (first_in_area p) (first_from p) (λ i. refl) (λ i x xs. refl) 1 xs

    -- no shape in an area before a position holds the place, where nothing is found before it
    none_to : (n : ℕ) → NoneTo no_area (first_in_area p) 1 xs n → (u : ShapeAt) → Stands xs u → u.area < n → holds_at p xs u ≡ false
    none_to n h u w l = none_in u.area _ (h u.area w.area.0 l) u.kind u.position w.position.0 (omega (arith, w.position.1))

    none_found : AlongAreas None → (u : ShapeAt) → Stands xs u → holds_at p xs u ≡ false
    none_found (nothing h) u w = none_to _ h u w (omega (arith, w.area.1))

    record FirstHeld (s : ShapeAt) : Type 0 where
      stands : Stands xs s
      holds : holds_at p xs s ≡ true
      before : (u : ShapeAt) → Stands xs u → Before u s → holds_at p xs u ≡ false

    first_found : {s : ShapeAt} → AlongAreas (Some s) → FirstHeld s
    first_found (found a l b e h) = in_one (rw e at (in_area a x))
      where
        x : Area
        x = get_or xs (a - 1) no_area

        in_one : {s : ShapeAt} → InArea a x (Some s) → FirstHeld s
        in_one {s} (one k (found q m c t g) n) =
            let holds = first_arm _ _ _ (holds_in x k q) t (λ e. clash (cc)) in
            let same : record { area = a; kind = k; position = q } ≡ s = cc holds.1 in
            rw (← same) (record { stands = record { area = (l, omega arith); position = (m, omega arith) }; holds = holds.0; before = before })
          where
            before : (u : ShapeAt) → Stands xs u → Before u (record { area = a; kind = k; position = q }) → holds_at p xs u ≡ false
            before u w (by_area v) = none_to a h u w v
            before u w (by_kind i j v) = rw (i, j) (n v u.position w.position.0 (omega (arith, rw (i, j) at w.position.1)))
            before u w (by_position i j v) = rw (i, j) (none_before a _ k q g u.position w.position.0 v)

-- ---- the reason

-- an area has no more shapes of a kind than all areas have shapes
shapes_le : (xs : List Area) (k : ShapeKind) (i : ℕ) → length (of_kind k (get_or xs i no_area)) ≤ shapes_of xs
unfolding shapes_of
shapes_le [] kind.Polygon i = omega arith
shapes_le [] kind.Circle i = omega arith
shapes_le (x ∷ xs) kind.Polygon zero = omega arith
shapes_le (x ∷ xs) kind.Circle zero = omega arith
shapes_le (x ∷ xs) k (suc i) = omega (arith, shapes_le xs k i)

-- what a reason was made from
held_by : (o : Option ShapeAt) (n : ℕ) (s : ShapeAt) → reason_of o n ≡ held s → o ≡ Some s
held_by (Some u) n s e = cc
held_by None n s e = clash (let t = first_arm _ _ _ (eqb n 0) e (λ q. clash (cc)) in cc)

tried_by : (o : Option ShapeAt) (n m : ℕ) → reason_of o n ≡ tried m → (o ≡ None) × (m ≡ n)
tried_by (Some u) n m e = clash (cc)
tried_by None n m e = (refl, let t = rw (second_arm _ _ _ (eqb n 0) e (λ q. clash (cc))) at e in cc)

shapeless_by : (o : Option ShapeAt) (n : ℕ) → reason_of o n ≡ shapeless → n ≡ 0
shapeless_by (Some u) n e = clash (cc)
shapeless_by None n e = eqb-true n 0 (first_arm _ _ _ (eqb n 0) e (λ q. clash (cc))).0

pub true_reason : (p : Place) (xs : List Area) → TrueReason p xs
true_reason p xs = record {
  stands = λ s e. (first s e).stands;
  holds = λ s e. (first s e).holds;
  first = λ s u e. (first s e).before u;
  all = λ n e. (tried_by (first_shape p xs) (shapes_of xs) n e).1;
  none = λ n u e. none_found p xs (rw (tried_by (first_shape p xs) (shapes_of xs) n e).0 at (along_areas p xs)) u;
  empty = λ u e w. omega (arith, shapeless_by (first_shape p xs) (shapes_of xs) e, w.position.0, w.position.1, shapes_le xs u.kind (u.area - 1));
}
  where
    first : (s : ShapeAt) → reason_in p xs ≡ held s → FirstHeld p xs s
    first s e = first_found p xs (rw (held_by (first_shape p xs) (shapes_of xs) s e) at (along_areas p xs))

-- ---- of a document

pub document_reason : (n : ℕ) (p : Place) (l : List ℕ) → DocumentReason n p l
document_reason n p l = record { same = why_place n p l; counted = λ es d. counted_texts p (part_of n es) (part_placed l es d n) }
