-- What the ring of a text says of a place, as a fold over its tokens: after those that were read, the tokens that are left say what the text says.
use mathlib.Core.Path.{◌≡◌, refl, sym, ap, ◌∙◌}
use mathlib.Core.Bool.{Bool, true, false, cond, not, beq, ◌&&◌, ◌||◌}
use mathlib.Core.List.{List, [], ◌∷◌}
use Prim.Native.Nat.{ℕ, suc, ◌+◌, ◌%◌}
use native.Mathlib.Nat.{add-zero, zero-add}
use native.Mathlib.Omega.{arith}
use borrow.Author.Tests.{eqb-true, eqb-false, eq-eqb, ne_eqb}
use lib.Dec.{eqb, leb}
use lib.ListN.{length, drop}
use mir.Val.{bool_byte}
use Rattle.std.specs.Prelude.{Option, Some, None, Ok}
use Rattle.std.specs.Option.{is_some}
use Rattle.text.specs.Answers.{Answer, gives, refuses, answer_and_then, giving, is_given, answer_number}
use Rattle.text.specs.Logic.{by_test, cond_cases}
use Rattle.text.specs.Tokens.{tokens}
use Rattle.coordinates.specs.declared.Place.{Place}
use Rattle.coordinates.specs.Place.{pair_of}
use Rattle.coordinates.proofs.Readers.{pair_cases}
use Rattle.polygon.specs.declared.edges.Tally.{Tally}
use Rattle.polygon.specs.Polygon.{places_of, same_place, last_of, is_closed, is_ring, polygon_of, is_polygon, crosses, on_ring, crossings, in_ring, polygon_holds}
use Rattle.polygon.specs.Edges.{edge_of, plus_of}
use Rattle.polygon.specs.Next.{at_end, not_pair, next_of}
use Rattle.polygon.specs.Ring.{closes, over_edges_from, over_edges, walk_answer}
use Rattle.polygon.proofs.Tallies.{none, xor_false, plus_none, plus_assoc}
use Rattle.polygon.proofs.Tokens.{says}

-- what a ring says
abbrev ring_says : List Place → Place → Tally
ring_says l p = record { on = on_ring l p; crossed = eqb (crossings l p % 2) 1 }

-- the step that adds an edge
abbrev pub adding : Place → Tally → Place → Place → Tally
adding p sum a b = plus_of sum (edge_of a b p)

odd_add : (t : Bool) (n : ℕ) → not (beq t (eqb (n % 2) 1)) ≡ eqb ((bool_byte t + n) % 2) 1
odd_add false n = rw (zero-add n) (xor_false (eqb (n % 2) 1))
odd_add true n =
    by_test (eqb (n % 2) 1)
    (λ e. let k = eqb-true (n % 2) 1 e in rw (e, ne_eqb ((1 + n) % 2) 1 (λ f. omega arith)))
    (λ e. let k : n % 2 ≡ 0 = omega (arith, eqb-false (n % 2) 1 e) in rw (e, eq-eqb ((1 + n) % 2) 1 (omega arith)))

-- ---- the edges

-- what the edges say together, after edges that said `sum`, of a ring that goes on from a
ring_all : (p a : Place) (sum : Tally) (l : List Place) → over_edges_from (adding p) a sum l ≡ plus_of sum (ring_says (a ∷ l) p)
unfolding over_edges_from on_ring crossings
ring_all p a sum [] = sym (plus_none sum)
ring_all p a sum (b ∷ l) =
    ring_all p b (plus_of sum (edge_of a b p)) l
    ∙ plus_assoc sum (edge_of a b p) (ring_says (b ∷ l) p)
    ∙ rw (odd_add (crosses a b p) (crossings (b ∷ l) p))

-- and of a whole ring
ring_is : (p : Place) (l : List Place) → (over_edges (adding p) none l).on || (over_edges (adding p) none l).crossed ≡ in_ring l p
unfolding over_edges in_ring on_ring crossings
ring_is p [] = refl
ring_is p (q ∷ ps) = rw (ring_all p q none ps, xor_false (eqb (crossings (q ∷ ps) p % 2) 1))

-- ---- the tokens, for any step h

module _ {T : Type 0} (h : T → Place → Place → T) where
  -- the places that are left, after n places from `first` to `last` and edges of which h made t, give the answer
  abbrev judged : Place → Place → ℕ → T → List Place → Answer T
  judged first last n t ps = cond (closes (n + length ps) first (last_of last ps)) (gives (over_edges_from h last t ps)) (refuses 22 0)

  -- and so do the tokens that are left
  unfoldable pub walks_with : Place → Place → ℕ → T → List (List ℕ) → Answer T
  walks_with first last n t [] = cond (closes n first last) (gives t) (refuses 22 0)
  walks_with first last n t (k ∷ ks) = answer_and_then (pair_of k) (λ q. walks_with first q (n + 1) (h t last q) ks)

  module _ (first last : Place) (n : ℕ) (t : T) where
    -- a place q more
    judged_more :
        (q : Place) (a : Answer (List Place))
        → answer_and_then a (judged first q (n + 1) (h t last q)) ≡ answer_and_then (giving (λ l. q ∷ l) a) (judged first last n t)
    unfolding last_of over_edges_from
    judged_more q (gives ps) = let k : n + 1 + length ps ≡ n + suc (length ps) = omega arith in rw k
    judged_more q (refuses m i) = refl

    -- a token more, by its pair
    walks_more :
        (ks : List (List ℕ)) (f : Place → Answer T)
        → ((q : Place) → f q ≡ answer_and_then (places_of ks) (judged first q (n + 1) (h t last q)))
        → (a : Answer Place) → answer_and_then a f ≡ answer_and_then (answer_and_then a (λ q. giving (λ l. q ∷ l) (places_of ks))) (judged first last n t)
    walks_more ks f e (gives q) = e q ∙ judged_more q (places_of ks)
    walks_more ks f e (refuses m i) = refl

  walks_all :
      (first last : Place) (n : ℕ) (t : T) (ks : List (List ℕ))
      → walks_with first last n t ks ≡ answer_and_then (places_of ks) (judged first last n t)
  unfolding walks_with places_of last_of over_edges_from
  walks_all first last n t [] = rw (add-zero n)
  walks_all first last n t (k ∷ ks) = walks_more first last n t ks _ (λ q. walks_all first q (n + 1) (h t last q) ks) (pair_of k)

  -- one token more
  module _ (first last : Place) (n : ℕ) (t : T) (l : List ℕ) (at : ℕ) (r : Answer T) (v : walks_with first last n t (tokens (drop at l)) ≡ r) where
    pub walks_next :
        (q : Place) (e : ℕ) {u : T} → next_of l at ≡ Ok (Some (q, e)) → u ≡ h t last q
        → walks_with first q (n + 1) u (tokens (drop e l)) ≡ r
    unfolding walks_with
    walks_next q e f g = let k = says l at (Ok (Some (q, e))) f in rw g (rw (k.1.0.first, k.1.1) at v)

    pub walks_end : {closed : Bool} → next_of l at ≡ at_end → closed ≡ closes n first last → cond closed (gives t) (refuses 22 0) ≡ r
    unfolding walks_with
    walks_end f e = rw e (rw (says l at at_end f) at v)

    pub walks_fault : next_of l at ≡ not_pair → refuses 22 0 ≡ r
    unfolding walks_with
    walks_fault f = let k = says l at not_pair f in rw (k.1.1.0.first, k.1.1.1) at v

  -- the first token
  module _ (l : List ℕ) (t : T) where
    -- its place q, and the places after it
    whole_ring :
        (q : Place) (a : Answer (List Place))
        → answer_and_then a (judged q q 1 t)
        ≡ giving (over_edges h t) (answer_and_then (giving (λ l. q ∷ l) a) (λ ring. cond (is_ring ring) (gives ring) (refuses 22 0)))
    unfolding is_closed over_edges
    whole_ring q (gives ps) =
        let s : 1 + length ps ≡ suc (length ps) = omega arith in
        by_test (leb 4 (suc (length ps)) && same_place q (last_of q ps)) (λ e. rw (s, e)) (λ e. rw (s, e))
    whole_ring q (refuses n i) = refl

    pub whole_next : (q : Place) (e : ℕ) → next_of l 0 ≡ Ok (Some (q, e)) → walks_with q q 1 t (tokens (drop e l)) ≡ giving (over_edges h t) (polygon_of l)
    unfolding polygon_of places_of
    whole_next q e f =
        let k = says l 0 (Ok (Some (q, e))) f in
        let ks = tokens (drop e l) in
        walks_all q q 1 t ks ∙ rw (k.1.0.first, k.1.1) (whole_ring q (places_of ks))

    -- a text that starts with no pair
    pub whole_none : next_of l 0 ≡ at_end → refuses 22 0 ≡ giving (over_edges h t) (polygon_of l)
    unfolding polygon_of places_of is_closed
    whole_none f = rw (says l 0 at_end f)

    pub whole_fault : next_of l 0 ≡ not_pair → refuses 22 0 ≡ giving (over_edges h t) (polygon_of l)
    unfolding polygon_of places_of
    whole_fault f = let v = says l 0 not_pair f in rw (v.1.1.0.first, v.1.1.1)

-- ---- whether there is a polygon

-- from any answer for it
pub answer_given : {T : Type 0} (l : List ℕ) (f : List Place → T) {o : Answer T} → o ≡ giving f (polygon_of l) → is_given o ≡ is_polygon l
answer_given {T} l f e = ap is_given e ∙ go (polygon_of l)
  where
    go : (a : Answer (List Place)) → is_given (giving f a) ≡ is_given a
    go (gives ring) = refl
    go (refuses n i) = refl

-- and from what a walk answers
pub walk_given : {T : Type 0} (o : Option T) → is_some o ≡ is_given (walk_answer o)
walk_given (Some t) = refl
walk_given None = refl

-- what the walk that adds edges answers
pub walk_holds :
    (l : List ℕ) (p : Place) (o : Option Tally) → walk_answer o ≡ giving (over_edges (adding p) none) (polygon_of l)
    → giving (λ sum. sum.on || sum.crossed) (walk_answer o) ≡ polygon_holds l p
unfolding polygon_holds
walk_holds l p o e = ap (giving (λ sum. sum.on || sum.crossed)) e ∙ go (polygon_of l)
  where
    go : (a : Answer (List Place)) → giving (λ sum. sum.on || sum.crossed) (giving (over_edges (adding p) none) a) ≡ giving (λ ring. in_ring ring p) a
    go (gives ring) = ap gives (ring_is p ring)
    go (refuses n i) = refl

places_cases : (ts : List (List ℕ)) (P : Answer (List Place) → Type 0) → ((l : List Place) → P (gives l)) → P (refuses 22 0) → P (places_of ts)
unfolding places_of
places_cases [] P f g = f []
places_cases (t ∷ ts) P f g =
    pair_cases t (λ a. P (answer_and_then a (λ p. giving (λ l. p ∷ l) (places_of ts))))
    (λ p. places_cases ts (λ a. P (giving (λ l. p ∷ l) a)) (λ l. f (p ∷ l)) g)
    g

-- a text is a polygon, or it is refused with 22
pub polygon_cases : (l : List ℕ) (P : Answer (List Place) → Type 0) → ((ring : List Place) → P (gives ring)) → P (refuses 22 0) → P (polygon_of l)
unfolding polygon_of
polygon_cases l P f g =
    places_cases (tokens l) (λ a. P (answer_and_then a (λ ring. cond (is_ring ring) (gives ring) (refuses 22 0))))
    (λ ring. cond_cases P (is_ring ring) (gives ring) (refuses 22 0) (λ t. f ring) (λ t. g))
    g

-- a text that is asked about a place is refused just as it is where it is read
pub holds_number : (l : List ℕ) (p : Place) → answer_number (polygon_holds l p) ≡ answer_number (polygon_of l)
unfolding polygon_holds
holds_number l p = polygon_cases l (λ a. answer_number (giving (λ ring. in_ring ring p) a) ≡ answer_number a) (λ ring. refl) refl
