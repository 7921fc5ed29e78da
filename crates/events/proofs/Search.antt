-- Laws of the first entry that passes a test, and of the key list.
use mathlib.Core.Path.{◌≡◌, refl, sym, ◌∙◌, ap}
use mathlib.Core.Bool.{Bool, true, false, cond, false≢true}
use mathlib.Core.Logic.{◌⊎◌, inl, inr}
use mathlib.Core.List.{List, [], ◌∷◌, ◌++◌}
use Prim.Native.Nat.{ℕ, zero, suc, ◌+◌, ◌≤◌, ◌<◌, zero-le, suc-le-suc}
use native.Mathlib.Nat.{le_of_suc-le-suc, not-suc-le-zero}
use native.Mathlib.Omega.{arith}
use borrow.Author.Tests.{ltb-true, ltb-false, lt-ltb, le-ltb}
use lib.Dec.{ltb, eqb}
use lib.ListN.{length, get_or, set, get_or-append, length-append}
use lib.Seq.{get_or-append_seam}
use Rattle.std.specs.Prelude.{Some, None, Ok, Err}
use Rattle.std.specs.Bool.{then_some}
use Rattle.std.specs.Option.{unwrap_or, option_or, option_map}
use Rattle.std.specs.List.{position, position_or_len, list_any}
use Rattle.text.specs.Logic.{by_test}
use Rattle.events.specs.declared.Entry.{Entry}
use Rattle.events.specs.declared.New.{New}
use Rattle.events.specs.declared.Refusal.TheVariants.{NotAbove, Full}
use Rattle.events.specs.Table.{blank, is_of, is_free, first_index, index_of, free_index, position_of, is_listed, renewed, fresh}
use Rattle.events.specs.Steps.{with_index, found_in, decided_by, decided, no_candidates, found_with}
use Rattle.events.specs.Demand2.{FirstAt, NoneOf}

-- ---- the first index

module _ (f : Entry → Bool) where
  pub index_le : (es : List Entry) → first_index f es ≤ length es
  unfolding first_index
  index_le [] = zero-le
  index_le (e ∷ es) = by_test (f e) (λ t. rw t zero-le) (λ t. rw t (suc-le-suc (index_le es)))

  -- there is only one first index
  pub index_is : (es : List Entry) (i : ℕ) → FirstAt f es i → first_index f es ≡ i
  unfolding first_index
  index_is [] i a = absurd (not-suc-le-zero a.within)
  index_is (e ∷ es) zero a = rw a.passes
  index_is (e ∷ es) (suc i) a =
      rw (a.earlier 0 (suc-le-suc zero-le)) (ap suc (index_is es i (record {
        within = le_of_suc-le-suc a.within;
        passes = a.passes;
        earlier = λ k h. a.earlier (suc k) (suc-le-suc h);
      })))

  pub index_none : (es : List Entry) → NoneOf f es → first_index f es ≡ length es
  unfolding first_index
  index_none [] n = refl
  index_none (e ∷ es) n = rw (n 0 (suc-le-suc zero-le)) (ap suc (index_none es (λ k h. n (suc k) (suc-le-suc h))))

  -- a store of what passes as what it replaces leaves it
  pub index_alike : (es : List Entry) (j : ℕ) (x : Entry) → f x ≡ f (get_or es j blank) → first_index f (set es j x) ≡ first_index f es
  unfolding first_index
  index_alike [] j x h = refl
  index_alike (e ∷ es) zero x h = rw h
  index_alike (e ∷ es) (suc j) x h = ap (λ (k : ℕ). cond (f e) 0 (suc k)) (index_alike es j x h)

  -- and so does every store behind an entry that passes
  pub index_behind : (es : List Entry) (i j : ℕ) (x : Entry) → i < j → f (get_or es i blank) ≡ true → first_index f (set es j x) ≡ first_index f es
  unfolding first_index
  index_behind [] i j x l h = refl
  index_behind (e ∷ es) i zero x l h = absurd (not-suc-le-zero l)
  index_behind (e ∷ es) zero (suc j) x l h = rw h
  index_behind (e ∷ es) (suc i) (suc j) x l h = ap (λ (k : ℕ). cond (f e) 0 (suc k)) (index_behind es i j x (le_of_suc-le-suc l) h)

  -- an index among the entries is the first
  pub first_at : (es : List Entry) → first_index f es < length es → FirstAt f es (first_index f es)
  unfolding first_index
  first_at [] h = absurd (not-suc-le-zero h)
  first_at (e ∷ es) h = cases (f e) refl h (first_at es)
    where
      cases : (t : Bool) → f e ≡ t → cond t 0 (suc (first_index f es)) < suc (length es)
          → (first_index f es < length es → FirstAt f es (first_index f es)) → FirstAt f (e ∷ es) (cond t 0 (suc (first_index f es)))
      cases true t h rest = record { within = h; passes = t; earlier = λ k l. absurd (not-suc-le-zero l) }
      cases false t h rest = let a = rest (le_of_suc-le-suc h) in
          record { within = h; passes = a.passes; earlier = λ k l. before k l a }
        where
          before : (k : ℕ) → k < suc (first_index f es) → FirstAt f es (first_index f es) → f (get_or (e ∷ es) k blank) ≡ false
          before zero l a = t
          before (suc k) l a = a.earlier k (le_of_suc-le-suc l)

  -- and past them there is none
  pub none_of : (es : List Entry) → length es ≤ first_index f es → NoneOf f es
  unfolding first_index
  none_of [] h k l = absurd (not-suc-le-zero l)
  none_of (e ∷ es) h k l = cases (f e) refl h k l (none_of es)
    where
      cases : (t : Bool) → f e ≡ t → suc (length es) ≤ cond t 0 (suc (first_index f es)) → (k : ℕ) → k < suc (length es)
          → (length es ≤ first_index f es → NoneOf f es) → f (get_or (e ∷ es) k blank) ≡ false
      cases true t h k l rest = absurd (not-suc-le-zero h)
      cases false t h zero l rest = t
      cases false t h (suc k) l rest = rest (le_of_suc-le-suc h) k (le_of_suc-le-suc l)

  -- an entry that passes is at the first index or later
  pub index_below : (es : List Entry) (k : ℕ) → k < length es → f (get_or es k blank) ≡ true → first_index f es < length es
  index_below es k h e =
      by_test (ltb (first_index f es) (length es))
      (ltb-true (first_index f es) (length es))
      (λ t. absurd (false≢true (sym (none_of es (ltb-false (first_index f es) (length es) t) k h) ∙ e)))

  -- the first index with one entry more
  index_snoc : (es : List Entry) (e : Entry) → first_index f (es ++ (e ∷ [])) ≡ cond (ltb (first_index f es) (length es)) (first_index f es) (cond (f e) (length es) (length es + 1))
  unfolding first_index
  index_snoc [] e = refl
  index_snoc (b ∷ es) e = by_test (f b) (λ t. rw (t, lt-ltb 0 (suc (length es)) (omega arith))) (λ t. rw (t, index_snoc es e) (cases (first_index f es) (length es) (ltb (first_index f es) (length es)) (f e) refl))
    where
      cases : (k n : ℕ) (y t : Bool) → ltb k n ≡ y → suc (cond y k (cond t n (n + 1))) ≡ cond (ltb (suc k) (suc n)) (suc k) (cond t (suc n) (suc n + 1))
      cases k n true t p = rw (lt-ltb (suc k) (suc n) (omega (arith, ltb-true k n p)))
      cases k n false true p = rw (le-ltb (suc k) (suc n) (omega (arith, ltb-false k n p)))
      cases k n false false p = rw (le-ltb (suc k) (suc n) (omega (arith, ltb-false k n p))) (omega arith)

  -- the library's words for it
  first_or_len : (es : List Entry) → position_or_len f es ≡ first_index f es
  unfolding first_index
  first_or_len [] = refl
  first_or_len (e ∷ es) = by_test (f e) (λ t. rw t) (λ t. rw t (omega (arith, first_or_len es)))

  pub first_position : (es : List Entry) → position f es ≡ cond (ltb (first_index f es) (length es)) (Some (first_index f es)) None
  first_position es = rw (first_or_len es)

  -- with one entry more the first is where it was, or else that entry's
  position_snoc : (es : List Entry) (e : Entry) → position f (es ++ (e ∷ [])) ≡ option_or (position f es) (then_some (f e) (length es))
  position_snoc es e =
      rw (first_position (es ++ (e ∷ [])), first_position es, index_snoc es e, length-append es (e ∷ [])) (cases (first_index f es) (length es) (ltb (first_index f es) (length es)) (f e) refl)
    where
      cases : (k n : ℕ) (y t : Bool) → ltb k n ≡ y
          → cond (ltb (cond y k (cond t n (n + 1))) (n + 1)) (Some (cond y k (cond t n (n + 1)))) None ≡ option_or (cond y (Some k) None) (then_some t n)
      cases k n true t p = rw (lt-ltb k (n + 1) (omega (arith, ltb-true k n p)))
      cases k n false true p = rw (lt-ltb n (n + 1) (omega arith))
      cases k n false false p = rw (le-ltb (n + 1) (n + 1) (omega arith))

-- an event's entry that was found, or none
pub found : (key event : ℕ) (es : List Entry)
    → (position_of key event es ≡ position_of key event es)
    × (((index_of key event es < length es) × (position_of key event es ≡ Some (index_of key event es)))
    ⊎ ((length es ≤ index_of key event es) × (position_of key event es ≡ None)))
unfolding position_of
found key event es =
    let k = index_of key event es in
    by_test (ltb k (length es)) (λ t. (refl, inl (ltb-true k (length es) t, rw t))) (λ t. (refl, inr (ltb-false k (length es) t, rw t)))

-- or else the number of entries
pub found_or_all : (key event : ℕ) (es : List Entry) → unwrap_or (position_of key event es) (length es) ≡ index_of key event es
unfolding position_of
found_or_all key event es =
    let f = is_of key event in
    let k = first_index f es in
    by_test (ltb k (length es)) (λ t. rw t) (λ t. rw t (omega (arith, index_le f es, ltb-false k (length es) t)))

pub found_free : (es : List Entry)
    → (position is_free es ≡ position is_free es)
    × (((free_index es < length es) × (position is_free es ≡ Some (free_index es)))
    ⊎ ((length es ≤ free_index es) × (position is_free es ≡ None)))
found_free es =
    let k = free_index es in
    by_test (ltb k (length es))
    (λ t. (refl, inl (ltb-true k (length es) t, first_position is_free es ∙ rw t)))
    (λ t. (refl, inr (ltb-false k (length es) t, first_position is_free es ∙ rw t)))

-- ---- the key list

pub listed_any : (keys : List ℕ) (key : ℕ) → list_any (λ k. eqb k key) keys ≡ is_listed keys key
unfolding is_listed
listed_any [] key = refl
listed_any (k ∷ keys) key = by_test (eqb k key) (λ t. rw t) (λ t. rw t (listed_any keys key))

-- ---- a search among entries that are seen one after the other

module _ (key event : ℕ) where
  pub found_none : found_in key event [] ≡ no_candidates
  unfolding position_of first_index
  found_none = refl

  known_snoc :
      (es : List Entry) (e : Entry)
      → option_map (with_index (es ++ (e ∷ []))) (position_of key event (es ++ (e ∷ [])))
      ≡ option_or (option_map (with_index es) (position_of key event es)) (then_some (is_of key event e) (length es, e))
  unfolding position_of
  known_snoc es e =
      let f = is_of key event in
      rw (← first_position f (es ++ (e ∷ [])), position_snoc f es e, first_position f es) (cases (first_index f es) (ltb (first_index f es) (length es)) (f e) refl)
    where
      cases : (k : ℕ) (y t : Bool) → ltb k (length es) ≡ y
          → option_map (with_index (es ++ (e ∷ []))) (option_or (cond y (Some k) None) (then_some t (length es)))
          ≡ option_or (option_map (with_index es) (cond y (Some k) None)) (then_some t (length es, e))
      cases k true t p = rw (get_or-append es (e ∷ []) blank k (ltb-true k (length es) p))
      cases k false true p = rw (get_or-append_seam es e [] blank)
      cases k false false p = refl

  -- a step from what is found among some entries is what is found among them and the next
  pub found_next : (es : List Entry) (e : Entry) → found_with key event (found_in key event es) (length es) e ≡ found_in key event (es ++ (e ∷ []))
  found_next es e = rw (known_snoc es e, position_snoc is_free es e)

-- ---- what a packet comes to, by the first indices

pub decided_is :
    (new : New) (es : List Entry)
    → decided new es
    ≡ cond (ltb (index_of new.key new.event es) (length es))
    (cond (ltb (get_or es (index_of new.key new.event es) blank).sequence new.sequence)
    (Ok (index_of new.key new.event es, renewed new (get_or es (index_of new.key new.event es) blank))) (Err NotAbove))
    (cond (ltb (free_index es) (length es)) (Ok (free_index es, fresh new)) (Err Full))
unfolding decided position_of
decided_is new es =
    rw (first_position is_free es) (cases (index_of new.key new.event es) (free_index es) (ltb (index_of new.key new.event es) (length es)) (ltb (free_index es) (length es)))
  where
    cases : (k j : ℕ) (y t : Bool)
        → decided_by (record { known = option_map (with_index es) (cond y (Some k) None); free = cond t (Some j) None }) new
        ≡ cond y (cond (ltb (get_or es k blank).sequence new.sequence) (Ok (k, renewed new (get_or es k blank))) (Err NotAbove)) (cond t (Ok (j, fresh new)) (Err Full))
    cases k j true t = refl
    cases k j false true = refl
    cases k j false false = refl
