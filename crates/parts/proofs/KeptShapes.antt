-- What is kept of the shapes of a part says why: the areas of the definitions and what is counted along the elements lead to the same.
use mathlib.Core.Path.{◌≡◌, refl, sym, ap, ◌∙◌}
use mathlib.Core.Bool.{Bool, true, false, not, ◌&&◌, ◌||◌}
use mathlib.Core.List.{List, [], ◌∷◌}
use Prim.Native.Nat.{ℕ, ◌+◌}
use native.Mathlib.Omega.{arith}
use borrow.Author.Tests.{eqb-true, lt-ltb}
use lib.Dec.{eqb, ltb}
use lib.ListN.{length}
use mir.Val.{bool_byte}
use Rattle.std.specs.Prelude.{Option, Some, None, is_some}
use Rattle.text.specs.Logic.{by_test, or_false, or_assoc}
use Rattle.coordinates.specs.declared.Place.{Place}
use Rattle.schema.specs.Classes as class
use Rattle.document.specs.Elements.{Element, opened, text, closed, fold}
use Rattle.parts.specs.declared.areas.Shapes.{Shapes}
use Rattle.parts.specs.declared.ShapeAt.{ShapeAt}
use Rattle.parts.specs.declared.ShapeKind.{ShapeKind}
use Rattle.parts.specs.declared.ShapeKind.TheVariants as kind
use Rattle.parts.specs.Areas.{Area, up_to_end, texts_of, no_area, area_of, areas_of, shapes_of}
use Rattle.parts.specs.Places.{is_shape, shape_holds, any_text, any_shape, any_holds}
use Rattle.parts.specs.Reasons.{kind_holds, or_else, first_of_kind, first_from, first_shape}
use Rattle.parts.specs.Gathering.{with_area, with_shape, with_text, looked, no_shapes}
use Rattle.parts.proofs.AreaOrder.{Phase, between_areas, among_polygons, behind_polygons, misplaced, on_area, on_polygon, on_circle, on_other, phase_after, Placed}

-- ---- the rest of the area in which a list of elements starts

abbrev rest_of : Phase → List Element → Area
rest_of between_areas es = no_area
rest_of among_polygons es = area_of (up_to_end class.area es)
rest_of behind_polygons es = record { polygons = []; circles = texts_of class.circle (up_to_end class.area es) }
rest_of misplaced es = no_area

none_misplaced : (es : List Element) → Placed misplaced es → ⊥
unfolding Placed
none_misplaced [] h = omega (arith, h)
none_misplaced (x ∷ es) h = omega (arith, h.0)

-- behind the polygons of an area there are none
no_polygons : (es : List Element) → Placed behind_polygons es → texts_of class.polygon (up_to_end class.area es) ≡ []
unfolding Placed up_to_end texts_of
no_polygons [] h = refl
no_polygons (opened c p ∷ es) h =
    by_test (eqb c class.area) (λ e. absurd (none_misplaced es (rw e at h.1))) (λ e. no_polygons es (rw e at h.1))
no_polygons (text c p t ∷ es) h =
    by_test (eqb c class.polygon) (λ e. absurd (none_misplaced es (rw e at h.1))) λ e.
    rw e
    (by_test (eqb c class.circle) (λ f. no_polygons es (rw (e, f) at h.1)) λ f.
    by_test (eqb c class.area_desc) (λ g. no_polygons es (rw (e, f, g) at h.1)) (λ g. no_polygons es (rw (e, f, g) at h.1)))
no_polygons (closed c ∷ es) h = by_test (eqb c class.area) (λ e. rw e) (λ e. rw e (no_polygons es (rw e at h.1)))

-- so an element that ends the polygons leaves what comes
rest_other : (h : Phase) (es : List Element) → Placed (on_other h) es → rest_of (on_other h) es ≡ rest_of h es
rest_other between_areas es k = refl
rest_other among_polygons es k = rw (no_polygons es k)
rest_other behind_polygons es k = refl
rest_other misplaced es k = refl

-- an element that is none of the texts looked for, nor the area's end
rest_skip :
    (h : Phase) (x : Element) (es : List Element)
    → texts_of class.polygon (up_to_end class.area (x ∷ es)) ≡ texts_of class.polygon (up_to_end class.area es)
    → texts_of class.circle (up_to_end class.area (x ∷ es)) ≡ texts_of class.circle (up_to_end class.area es) → rest_of h (x ∷ es) ≡ rest_of h es
rest_skip between_areas x es j k = refl
rest_skip among_polygons x es j k = rw (j, k)
rest_skip behind_polygons x es j k = rw k
rest_skip misplaced x es j k = refl

-- ---- what the rest of a part adds: the first shape that holds the place, and how many shapes there are

or_none : {A : Type 0} (x : Option A) → or_else x None ≡ x
or_none None = refl
or_none (Some x) = refl

or_else_assoc : {A : Type 0} (x y z : Option A) → or_else (or_else x y) z ≡ or_else x (or_else y z)
or_else_assoc None y z = refl
or_else_assoc (Some x) y z = refl

-- the same shape and the same number
alike : {o : Option ShapeAt} {m n : ℕ} → m ≡ n → ◌≡◌ {A = Option ShapeAt × ℕ} (o, m) (o, n)
alike {o = o} e = ap (λ (k : ℕ). (o, k)) e

module _ (p : Place) where
  -- by what was seen, the rest of the area and the areas after it
  abbrev says : Shapes → Area → List Area → Option ShapeAt × ℕ
  says f a xs = (
    or_else f.first
        (or_else (first_of_kind p f.areas kind.Polygon (f.polygons + 1) a.polygons)
        (or_else (first_of_kind p f.areas kind.Circle (f.circles + 1) a.circles) (first_from p (f.areas + 1) xs))),
    f.count + (length a.polygons + length a.circles + shapes_of xs),
  )

  on_area_lem : (f : Shapes) (a : Area) (xs : List Area) → says (with_area f) a xs ≡ says f no_area (a ∷ xs)
  unfolding first_of_kind first_from shapes_of
  on_area_lem f a xs =
      ap (λ (o : Option ShapeAt). (or_else f.first o, f.count + (length a.polygons + length a.circles + shapes_of xs)))
      (sym
      (or_else_assoc (first_of_kind p (f.areas + 1) kind.Polygon 1 a.polygons) (first_of_kind p (f.areas + 1) kind.Circle 1 a.circles)
      (first_from p (f.areas + 1 + 1) xs)))
      ∙ alike (omega arith)

  on_polygon_lem :
      (f : Shapes) (t : List ℕ) (ps cs : List (List ℕ)) (xs : List Area)
      → says (with_text p class.polygon t f) (record { polygons = ps; circles = cs }) xs ≡ says f (record { polygons = t ∷ ps; circles = cs }) xs
  unfolding first_of_kind
  on_polygon_lem f t ps cs xs = go f.first refl
    where
      go :
          (o : Option ShapeAt) → f.first ≡ o
          → says (with_text p class.polygon t f) (record { polygons = ps; circles = cs }) xs ≡ says f (record { polygons = t ∷ ps; circles = cs }) xs
      go None e = rw e (by_test (kind_holds p kind.Polygon t) (λ q. rw q (alike (omega arith))) (λ q. rw q (alike (omega arith))))
      go (Some s) e = rw e (alike (omega arith))

  on_circle_lem :
      (f : Shapes) (t : List ℕ) (cs : List (List ℕ)) (xs : List Area)
      → says (with_text p class.circle t f) (record { polygons = []; circles = cs }) xs ≡ says f (record { polygons = []; circles = t ∷ cs }) xs
  unfolding first_of_kind
  on_circle_lem f t cs xs = go f.first refl
    where
      go :
          (o : Option ShapeAt) → f.first ≡ o
          → says (with_text p class.circle t f) (record { polygons = []; circles = cs }) xs ≡ says f (record { polygons = []; circles = t ∷ cs }) xs
      go None e = rw e (by_test (kind_holds p kind.Circle t) (λ q. rw q (alike (omega arith))) (λ q. rw q (alike (omega arith))))
      go (Some s) e = rw e (alike (omega arith))

  -- an element of a part
  on_element :
      (h : Phase) (f : Shapes) (x : Element) (es : List Element) → Placed (phase_after h x) es
      → says (looked p f x) (rest_of (phase_after h x) es) (areas_of es) ≡ says f (rest_of h (x ∷ es)) (areas_of (x ∷ es))
  unfolding areas_of up_to_end texts_of
  on_element h f (opened c q) es k =
      by_test (eqb c class.area)
      (λ e. rw e (start h (rw e at k)))
      (λ e. let j = rw e at k in rw (e, rest_other h es j, rest_skip h (opened c q) es refl refl))
    where
      start : (h : Phase) → Placed (on_area h) es → says (with_area f) (rest_of (on_area h) es) (areas_of es) ≡ says f (rest_of h (opened c q ∷ es)) (area_of (up_to_end class.area es) ∷ areas_of es)
      start between_areas j = on_area_lem f (area_of (up_to_end class.area es)) (areas_of es)
      start among_polygons j = absurd (none_misplaced es j)
      start behind_polygons j = absurd (none_misplaced es j)
      start misplaced j = absurd (none_misplaced es j)
  on_element h f (text c q t) es k =
      by_test (eqb c class.polygon) (λ e. rw (eqb-true c class.polygon e) (polygon h (rw e at k))) λ e.
      by_test (eqb c class.circle) (λ i. rw (eqb-true c class.circle i) (circle h (rw (e, i) at k))) λ i.
      let skip = rest_skip h (text c q t) es (rw e) (rw i) in
      by_test (eqb c class.area_desc)
      (λ j. rw (e, i, j, skip))
      (λ j. rw (e, i, j, skip, rest_other h es (rw (e, i, j) at k)))
    where
      polygon :
          (h : Phase) → Placed (on_polygon h) es
          → says (with_text p class.polygon t f) (rest_of (on_polygon h) es) (areas_of es) ≡ says f (rest_of h (text class.polygon q t ∷ es)) (areas_of es)
      polygon between_areas j = absurd (none_misplaced es j)
      polygon among_polygons j = on_polygon_lem f t _ _ (areas_of es)
      polygon behind_polygons j = absurd (none_misplaced es j)
      polygon misplaced j = absurd (none_misplaced es j)

      circle :
          (h : Phase) → Placed (on_circle h) es
          → says (with_text p class.circle t f) (rest_of (on_circle h) es) (areas_of es) ≡ says f (rest_of h (text class.circle q t ∷ es)) (areas_of es)
      circle between_areas j = absurd (none_misplaced es j)
      circle among_polygons j = rw (no_polygons es j) (on_circle_lem f t _ (areas_of es))
      circle behind_polygons j = on_circle_lem f t _ (areas_of es)
      circle misplaced j = absurd (none_misplaced es j)
  on_element h f (closed c) es k = by_test (eqb c class.area) (λ e. rw (eqb-true c class.area e) (end h)) (λ e. rw (e, rest_skip h (closed c) es (rw e) (rw e)))
    where
      end : (h : Phase) → says f no_area (areas_of es) ≡ says f (rest_of h (closed class.area ∷ es)) (areas_of es)
      end between_areas = refl
      end among_polygons = refl
      end behind_polygons = refl
      end misplaced = refl

  along :
      (h : Phase) (f : Shapes) (es : List Element) → Placed h es
      → ◌≡◌ {A = Option ShapeAt × ℕ} ((fold (looked p) f es).first, (fold (looked p) f es).count) (says f (rest_of h es) (areas_of es))
  unfolding fold Placed areas_of up_to_end texts_of first_of_kind first_from shapes_of
  along h f [] k = rw (empty h, or_none f.first) (alike (omega arith))
    where
      empty : (h : Phase) → rest_of h [] ≡ no_area
      empty between_areas = refl
      empty among_polygons = refl
      empty behind_polygons = refl
      empty misplaced = refl
  along h f (x ∷ es) k = along (phase_after h x) (looked p f x) es k.1 ∙ on_element h f x es k.1

  -- ---- a part of an accepted document

  module _ (es : List Element) (placed : Placed between_areas es) where
    abbrev kept : Shapes
    kept = fold (looked p) no_shapes es

    kept_both : ◌≡◌ {A = Option ShapeAt × ℕ} (kept.first, kept.count) (first_shape p (areas_of es), shapes_of (areas_of es))
    unfolding first_of_kind
    kept_both = along between_areas no_shapes es placed ∙ alike (omega arith)

    pub kept_first : kept.first ≡ first_shape p (areas_of es)
    kept_first = ap (λ (r : Option ShapeAt × ℕ). r.0) kept_both

    pub kept_count : kept.count ≡ shapes_of (areas_of es)
    kept_count = ap (λ (r : Option ShapeAt × ℕ). r.1) kept_both

-- ---- without areas: the texts of a part, one by one

module _ (p : Place) where
  -- a start changes no count and names nothing
  start_count : (f : Shapes) (c q : ℕ) → (looked p f (opened c q)).count ≡ f.count
  start_count f c q = by_test (eqb c class.area) (λ e. rw e) (λ e. rw e)

  start_named : (f : Shapes) (c q : ℕ) → is_some (looked p f (opened c q)).first ≡ is_some f.first
  start_named f c q = by_test (eqb c class.area) (λ e. rw e) (λ e. rw e)

  text_count : (f : Shapes) (c : ℕ) (t : List ℕ) → (with_text p c t f).count ≡ f.count + bool_byte (is_shape c)
  text_count f c t =
      by_test (eqb c class.polygon) (λ e. rw e) λ e.
      by_test (eqb c class.circle) (λ i. rw (e, i)) (λ i. rw (e, i) (omega arith))

  -- something that texts may be: whether one is
  any_looked :
      (is : ℕ → List ℕ → Bool) (get : Shapes → Bool)
      → ((f : Shapes) (c q : ℕ) → get (looked p f (opened c q)) ≡ get f)
      → ((f : Shapes) (c q : ℕ) (t : List ℕ) → get (looked p f (text c q t)) ≡ get f || is c t)
      → (f : Shapes) (es : List Element) → get (fold (looked p) f es) ≡ get f || any_text is es
  unfolding fold any_text
  any_looked is get on-start on_text f [] = sym (or_false (get f))
  any_looked is get on-start on_text f (opened c q ∷ es) = any_looked is get on-start on_text (looked p f (opened c q)) es ∙ (rw (on-start f c q))
  any_looked is get on-start on_text f (text c q t ∷ es) =
      any_looked is get on-start on_text (looked p f (text c q t)) es ∙ (rw (on_text f c q t) (or_assoc (get f) (is c t) (any_text is es)))
  any_looked is get on-start on_text f (closed c ∷ es) = any_looked is get on-start on_text f es

  -- there is a shape, if one was counted
  pub any_counted : (es : List Element) → ltb 0 (fold (looked p) no_shapes es).count ≡ any_shape es
  any_counted es = any_looked (λ (c : ℕ) (t : List ℕ). is_shape c) (λ (f : Shapes). ltb 0 f.count) (λ f c q. ap (ltb 0) (start_count f c q))
      (λ f c q t. ap (ltb 0) (text_count f c t) ∙ more f.count (is_shape c)) no_shapes es
    where
      more : (n : ℕ) (b : Bool) → ltb 0 (n + bool_byte b) ≡ ltb 0 n || b
      more n true = rw (lt-ltb 0 (n + 1) (omega arith)) (by_test (ltb 0 n) (λ e. rw e) (λ e. rw e))
      more n false = let z : n + 0 ≡ n = omega arith in rw z (sym (or_false (ltb 0 n)))

  -- and one that holds the place, if one was named
  pub any_named : (es : List Element) → is_some (fold (looked p) no_shapes es).first ≡ any_holds p es
  any_named es = any_looked (shape_holds p) (λ (f : Shapes). is_some f.first) start_named (λ f c q t. on_text f c t) no_shapes es
    where
      held_more : (k : ShapeKind) (b : Bool) (f : Shapes) → is_some (with_shape k (not (is_some f.first) && b) f).first ≡ is_some f.first || b
      held_more kind.Polygon b f =
          by_test (is_some f.first) (λ n. rw n n) (λ n. rw n (by_test b (λ h. rw h) (λ h. rw h n)))
      held_more kind.Circle b f =
          by_test (is_some f.first) (λ n. rw n n) (λ n. rw n (by_test b (λ h. rw h) (λ h. rw h n)))

      on_text : (f : Shapes) (c : ℕ) (t : List ℕ) → is_some (with_text p c t f).first ≡ is_some f.first || shape_holds p c t
      on_text f c t =
          by_test (eqb c class.polygon) (λ e. rw e (held_more kind.Polygon (kind_holds p kind.Polygon t) f)) λ e.
          by_test (eqb c class.circle)
          (λ i. rw (e, i) (held_more kind.Circle (kind_holds p kind.Circle t) f))
          (λ i. rw (e, i) (sym (or_false (is_some f.first))))

  -- all polygons and circles are counted
  all_counted :
      (f : Shapes) (es : List Element)
      → (fold (looked p) f es).count ≡ f.count + (length (texts_of class.polygon es) + length (texts_of class.circle es))
  unfolding fold texts_of
  all_counted f [] = omega arith
  all_counted f (opened c q ∷ es) = all_counted (looked p f (opened c q)) es ∙ rw (start_count f c q)
  all_counted f (text c q t ∷ es) =
      all_counted (looked p f (text c q t)) es
      ∙ (rw (text_count f c t)
      (by_test (eqb c class.polygon) (λ e. rw (eqb-true c class.polygon e) (omega arith)) λ e.
      by_test (eqb c class.circle) (λ i. rw (eqb-true c class.circle i) (omega arith)) (λ i. rw (e, i) (omega arith))))
  all_counted f (closed c ∷ es) = all_counted f es

  pub counted_texts :
      (es : List Element) → Placed between_areas es → shapes_of (areas_of es) ≡ length (texts_of class.polygon es) + length (texts_of class.circle es)
  counted_texts es placed = sym (kept_count p es placed) ∙ (all_counted no_shapes es ∙ omega arith)
