-- The table along the elements of a document and the schema's sequences agree: the elements follow one exactly if they follow the other.
use mathlib.Core.Path.{◌≡◌, refl, sym, ap, subst, ◌∙◌}
use mathlib.Core.Bool.{true, cond, false≢true}
use mathlib.Core.List.{List, [], ◌∷◌, ◌++◌, append_assoc, append-nil}
use Prim.Native.Nat.{ℕ, zero, suc, ◌≤◌, ◌<◌}
use native.Mathlib.Omega.{arith}
use borrow.Author.Tests.{eq-eqb}
use lib.Dec.{eqb}
use lib.ListN.{length, length-append}
use Rattle.text.specs.Answers.{gives}
use Rattle.schema.specs.Classes as class
use Rattle.schema.specs.Sequences.{particles, Matches, container_of, next_of, before, over, follows, complete}
use Rattle.schema.proofs.Left.{left, left_all, follows_matches, matches_follows, complete_matches, matches_complete}
use Rattle.schema.proofs.States.{state, Among, after_end, is_sequence_lem, container_is, known, leaf_next, container_next, among_next, back, may_follow, end_next, may_end, when_over, among_first}
use Rattle.document.specs.Elements.{Element, opened, text, closed}
use Rattle.document.specs.Documents.{document_of}
use Rattle.document.specs.Following.{Children, none, leaf, container, FollowsSchema}
use Rattle.document.proofs.Accepted.{Every}
use Rattle.document.proofs.Sound.{Sorted, all_sorted}
use Rattle.document.proofs.Schema.{follow, follows_schema, taken, ended_right, ended_class}

-- ---- from the table to the sequences

-- the end of a container after its children, and the elements after it
record Ended (c : ℕ) (inner es : List Element) : Type 0 where
  after : List Element
  split : es ≡ inner ++ closed c ∷ after
  leads : follow (after_end c) after ≡ over
  sorted : Every Sorted after
  less : length after < length es

-- what stands after the children of a container: nothing in the document itself
abbrev Rest : (container : ℕ) → (inner es : List Element) → Type 0
Rest zero inner es = es ≡ inner
Rest (suc c) inner es = Ended (suc c) inner es

-- the children that are left of a container of which k particles are passed, and what stands after them
record Contents (c k : ℕ) (es : List Element) : Type 0 where
  inner : List Element
  classes : List ℕ
  children : Children inner classes
  matches : Matches (left k 1 (particles c)) classes
  rest : Rest c inner es

-- an element of class d in front, which the table takes
module _ {c k : ℕ} (a : Among c k) (d : ℕ) (n : follows k d 1 (particles c) ≡ 0 → ⊥) where
  in_front :
      (front : List Element) (es : List Element)
      → ((inner : List Element) (cs : List ℕ) → Children inner cs → Children (front ++ inner) (d ∷ cs))
      → Contents c (follows k d 1 (particles c)) es → Contents c k (front ++ es)
  in_front front es f r =
      record {
        inner = front ++ r.inner;
        classes = d ∷ r.classes;
        children = f r.inner r.classes r.children;
        matches = follows_matches k d 1 (particles c) r.classes (is_sequence_lem c a.container) n r.matches;
        rest = go c r.rest;
      }
    where
      go : (c : ℕ) → Rest c r.inner es → Rest c (front ++ r.inner) (front ++ es)
      go zero e = ap (λ (xs : List Element). front ++ xs) e
      go (suc c) e =
          record {
            after = e.after;
            split =
                ap (λ (ys : List Element). front ++ ys) e.split
                ∙ sym (append_assoc front r.inner (closed (suc c) ∷ e.after));
            leads = e.leads;
            sorted = e.sorted;
            less = omega (arith, length-append front es, e.less);
          }

-- a container whose contents are known, in front
container_in_front :
    {c k : ℕ} (a : Among c k) (d p : ℕ) (n : follows k d 1 (particles c) ≡ 0 → ⊥) (es : List Element) → 0 < d → d ≤ class.last_container
    → Contents d 0 es
    → ((xs : List Element) → length xs < length es → Every Sorted xs → follow (after_end d) xs ≡ over → Contents c (follows k d 1 (particles c)) xs)
    → Contents c k (opened d p ∷ es)
container_in_front {c} {k} a zero p n es g h r f = absurd (omega arith)
container_in_front {c} {k} a (suc d) p n es g h r f =
    let o = r.rest in
    let front : List Element = opened (suc d) p ∷ (r.inner ++ (closed (suc d) ∷ [])) in
    subst (Contents c k)
    (ap (λ (ys : List Element). opened (suc d) p ∷ ys) (append_assoc r.inner (closed (suc d) ∷ []) o.after ∙ sym o.split))
    (in_front a (suc d) n front o.after
    (λ inner cs m.
    rw (append_assoc r.inner (closed (suc d) ∷ []) inner)
    (container h r.children (rw (left_all 0 1 (particles (suc d)) (omega arith)) at r.matches) m))
    (f o.after o.less o.sorted o.leads))

-- elements that the table takes, from a container's state to the document's end; n bounds their number
contents :
    (n c k : ℕ) (es : List Element) → length es < n → Among c k → Every Sorted es → follow (state c k) es ≡ over → Contents c k es
unfolding follow
contents zero c k es b a s h = absurd (omega arith)
contents (suc n) c k [] b a s h = let z = when_over a h in ended c k z.0 z.1
  where
    ended : (c k : ℕ) → c ≡ 0 → k ≡ 1 → Contents c k []
    ended zero k e z = record { inner = []; classes = []; children = none; matches = rw z (complete_matches 1 1 (particles 0) refl); rest = refl }
    ended (suc c) k e z = absurd (omega arith)
contents (suc n) c k (text d p t ∷ es) b a s h =
    let m = may_follow a d (omega (arith, s.0)) (taken (next_of (state c k) d) es h) in
    in_front a d m (text d p t ∷ []) es (λ inner cs m. leaf s.0 m)
    (contents n c (follows k d 1 (particles c)) es (omega arith) (among_next a d m) s.1
    (ap (λ (x : ℕ). follow x es) (sym (leaf_next a d m s.0)) ∙ h))
contents (suc n) c k (opened d p ∷ es) b a s h =
    let m = may_follow a d s.0.0 (taken (next_of (state c k) d) es h) in
    container_in_front a d p m es s.0.0 s.0.1
    (contents n d 0 es (omega arith) (among_first d s.0.1) s.1
    (ap (λ (x : ℕ). follow x es) (sym (container_next a d m s.0.1)) ∙ h))
    (λ xs l t q.
    contents n c (follows k d 1 (particles c)) xs (omega arith) (among_next a d m) t
    (ap (λ (x : ℕ). follow x xs) (sym (back a d m s.0.1)) ∙ q))
contents (suc n) c k (closed d ∷ es) b a s h = go c a h
  where
    go :
        (c : ℕ) → Among c k → cond (eqb d (container_of (state c k))) (follow (next_of (state c k) 0) es) 0 ≡ over
        → Contents c k (closed d ∷ es)
    go c a h =
        let q = ended_right (state c k) d es h in
        let w = may_end a (taken (next_of (state c k) 0) es q) in
        record {
          inner = [];
          classes = [];
          children = none;
          matches = complete_matches k 1 (particles c) w.1;
          rest = last c w.0 (ended_class (state c k) d es h ∙ container_is a) (ap (λ (x : ℕ). follow x es) (sym (end_next a w.0 w.1)) ∙ q);
        }
      where
        last : (c : ℕ) → 0 < c → d ≡ c → follow (after_end c) es ≡ over → Rest c [] (closed d ∷ es)
        last zero g e q = absurd (omega arith)
        last (suc c) g e q =
            record { after = es; split = ap (λ (x : ℕ). closed x ∷ es) e; leads = q; sorted = s.1; less = omega arith }

-- the elements of an accepted document follow the schema
pub matches_schema : (l : List ℕ) (es : List Element) → document_of l ≡ gives es → FollowsSchema es
matches_schema l es d =
    let r = contents (suc (length es)) 0 0 es (omega arith) (among_first 0 (omega arith)) (all_sorted l es d) (follows_schema l es d) in
    record {
      classes = r.classes;
      children = subst (λ (xs : List Element). Children xs r.classes) (sym r.rest) r.children;
      matches = rw (left_all 0 1 (particles 0) (omega arith)) at r.matches;
    }

-- ---- from the sequences to the table

-- the table takes children that match what is left of a container, and then nothing is missing there
record Passed (c k : ℕ) (inner : List Element) : Type 0 where
  index : ℕ
  among : Among c index
  whole : Matches (left index 1 (particles c)) []
  leads : (es : List Element) → follow (state c k) (inner ++ es) ≡ follow (state c index) es

-- a container's end, where nothing is missing
container_ended :
    {d k : ℕ} (a : Among d k) → 0 < d → Matches (left k 1 (particles d)) [] → (es : List Element)
    → follow (state d k) (closed d ∷ es) ≡ follow (after_end d) es
unfolding follow
container_ended {d} {k} a g m es =
    rw (eq-eqb d (container_of (state d k)) (sym (container_is a)), end_next a g (matches_complete k 1 (particles d) m))

-- children that match what is left of a container pass
pass : {inner : List Element} {cs : List ℕ} → Children inner cs → (c k : ℕ) → Among c k → Matches (left k 1 (particles c)) cs → Passed c k inner
unfolding follow
pass none c k a m = record { index = k; among = a; whole = m; leads = λ es. refl }
pass (leaf {c = d} {es = rest} {cs = cs} h r) c k a m =
    let f = matches_follows k d 1 (particles c) cs (is_sequence_lem c a.container) (omega arith) m in
    let q = pass r c (follows k d 1 (particles c)) (among_next a d f.0) f.1 in
    record {
      index = q.index;
      among = q.among;
      whole = q.whole;
      leads = λ es. ap (λ (x : ℕ). follow x (rest ++ es)) (leaf_next a d f.0 h) ∙ q.leads es;
    }
pass (container {c = d} {inner = inner} {es = rest} {cs = cs} h i o r) c k a m =
    let f = matches_follows k d 1 (particles c) cs (is_sequence_lem c a.container) (omega arith) m in
    let q = pass r c (follows k d 1 (particles c)) (among_next a d f.0) f.1 in
    let g = pass i d 0 (among_first d h) (rw (left_all 0 1 (particles d) (omega arith)) o) in
    record {
      index = q.index;
      among = q.among;
      whole = q.whole;
      leads =
          λ es.
          ap (λ (x : ℕ). follow x ((inner ++ closed d ∷ rest) ++ es)) (container_next a d f.0 h)
          ∙ (ap (follow (state d 0)) (append_assoc inner (closed d ∷ rest) es)
          ∙ (g.leads (closed d ∷ (rest ++ es))
          ∙ (container_ended g.among (known a d f.0).0 g.whole (rest ++ es)
          ∙ (ap (λ (x : ℕ). follow x (rest ++ es)) (back a d f.0 h) ∙ q.leads es))));
    }

-- elements that follow the schema lead from before the alert to after it
pub schema_follows : (es : List Element) → FollowsSchema es → follow before es ≡ over
unfolding follow
schema_follows es r =
    let p = pass r.children 0 0 (among_first 0 (omega arith)) (rw (left_all 0 1 (particles 0) (omega arith)) r.matches) in
    ap (follow before) (sym (append-nil es)) ∙ (p.leads [] ∙ last p.index p.among (matches_complete p.index 1 (particles 0) p.whole))
  where
    last : (k : ℕ) → Among 0 k → complete k 1 (particles 0) ≡ true → state 0 k ≡ over
    last zero a e = absurd (false≢true e)
    last (suc zero) a e = refl
    last (suc (suc k)) a e = absurd (omega (arith, a.passed))
