-- Laws of a sweep, over entries of any number.
use mathlib.Core.Path.{◌≡◌, refl, sym, ◌∙◌, ap}
use mathlib.Core.Bool.{true, false, false≢true}
use mathlib.Core.List.{List, [], ◌∷◌, ◌++◌, append-nil}
use Prim.Native.Nat.{ℕ, zero, suc, ◌+◌, ◌≤◌, ◌<◌, zero-le, suc-le-suc}
use native.Mathlib.Nat.{le_of_suc-le-suc, not-suc-le-zero}
use native.Mathlib.Numerals.{add-one}
use native.Mathlib.Omega.{arith}
use lib.ListN.{length, get_or, take, drop, set, drop_of_length-le, length-append, take-append-drop}
use lib.Seq.{drop-cons, take-suc, take_all, length-take-le, set_at, get_or_at, append_snoc}
use Rattle.text.specs.Logic.{by_test}
use Rattle.events.specs.declared.Entry.{Entry}
use Rattle.events.specs.Table.{blank, is_of, is_free, free_index, is_stale, swept, swept_all}
use Rattle.events.specs.Demand2.{NoneOf}
use Rattle.events.proofs.Search.{index_below}

module _ (time : ℕ) where
  swept_length : (es : List Entry) → length (swept_all time es) ≡ length es
  unfolding swept_all
  swept_length [] = refl
  swept_length (e ∷ es) = ap suc (swept_length es)

  swept_append : (es fs : List Entry) → swept_all time (es ++ fs) ≡ swept_all time es ++ swept_all time fs
  unfolding swept_all
  swept_append [] fs = refl
  swept_append (e ∷ es) fs = ap (λ (r : List Entry). swept time e ∷ r) (swept_append es fs)

  -- where no entry is stale nothing changes
  pub swept_same : (es : List Entry) → NoneOf (is_stale time) es → swept_all time es ≡ es
  unfolding swept_all
  swept_same [] n = refl
  swept_same (e ∷ es) n =
      rw (n 0 (suc-le-suc zero-le)) (ap (λ (r : List Entry). e ∷ r) (swept_same es (λ k h. n (suc k) (suc-le-suc h))))

  swept_at : (es : List Entry) (k : ℕ) → k < length es → get_or (swept_all time es) k blank ≡ swept time (get_or es k blank)
  unfolding swept_all
  swept_at [] k h = absurd (not-suc-le-zero h)
  swept_at (e ∷ es) zero h = refl
  swept_at (e ∷ es) (suc k) h = swept_at es k (le_of_suc-le-suc h)

  -- an event all of whose entries are stale has none afterwards
  pub swept_none : (key event : ℕ) (es : List Entry)
      → ((j : ℕ) → j < length es → is_of key event (get_or es j blank) ≡ true → is_stale time (get_or es j blank) ≡ true)
      → NoneOf (is_of key event) (swept_all time es)
  swept_none key event es stale k h =
      let l : k < length es = rw (← swept_length es) h in
      rw (swept_at es k l) (gone (get_or es k blank) (stale k l))
    where
      gone : (e : Entry) → (is_of key event e ≡ true → is_stale time e ≡ true) → is_of key event (swept time e) ≡ false
      gone e s = by_test (is_stale time e) (λ t. rw t) (λ t. rw t (by_test (is_of key event e) (λ u. absurd (false≢true (sym t ∙ s u))) (λ u. u)))

  -- a stale entry is free afterwards
  pub swept_free : (es : List Entry) (k : ℕ) → k < length es → is_stale time (get_or es k blank) ≡ true → free_index (swept_all time es) < length (swept_all time es)
  swept_free es k h e = index_below is_free (swept_all time es) k (rw (swept_length es) h) (rw (swept_at es k h, e))

-- with the first i entries swept
abbrev pub swept_to : ℕ → List Entry → ℕ → List Entry
swept_to time es i = swept_all time (take i es) ++ drop i es

module _ (time : ℕ) (es : List Entry) where
  pub swept_to_none : es ≡ swept_to time es 0
  unfolding swept_all
  swept_to_none = refl

  pub swept_to_all : (i : ℕ) → length es ≤ i → swept_to time es i ≡ swept_all time es
  swept_to_all i h = rw (drop_of_length-le es h, take_all i es h) (append-nil _)

  pub swept_to_length : (i : ℕ) → length (swept_to time es i) ≡ length es
  swept_to_length i =
      length-append (swept_all time (take i es)) (drop i es) ∙ ap (λ (k : ℕ). k + length (drop i es)) (swept_length time (take i es))
      ∙ sym (length-append (take i es) (drop i es)) ∙ ap length (take-append-drop i es)

  module _ (i : ℕ) (h : i < length es) where
    at_index : length (swept_all time (take i es)) ≡ i
    at_index = swept_length time (take i es) ∙ length-take-le i es (omega arith)

    -- the next entry is as it was
    next_at : get_or (swept_to time es i) i blank ≡ get_or es i blank
    next_at = rw (drop-cons es i blank h) (get_or_at (swept_all time (take i es)) (get_or es i blank) (drop (suc i) es) blank i at_index)

    next_set : set (swept_to time es i) i (swept time (get_or es i blank)) ≡ swept_to time es (i + 1)
    unfolding swept_all
    next_set =
        rw (add-one, drop-cons es i blank h, take-suc es i blank h, swept_append time)
        (set_at (swept_all time (take i es)) (get_or es i blank) (drop (suc i) es) (swept time (get_or es i blank)) i at_index
        ∙ sym (append_snoc (swept_all time (take i es)) (swept time (get_or es i blank)) (drop (suc i) es)))

    -- one entry more
    pub swept_to_next :
        (fs : List Entry) (x : Entry) → fs ≡ swept_to time es i → x ≡ swept time (get_or fs i blank) → set fs i x ≡ swept_to time es (i + 1)
    swept_to_next fs x a b = rw (b, a, next_at) next_set

-- what the loop needs: the start, a turn and the end
pub ruleset sweep_steps = (swept_to_none, swept_to_next, swept_to_all)
