-- What the tests over the tables of containers say of each entry, for any table that passes its test.
use mathlib.Core.Path.{◌≡◌, sym}
use mathlib.Core.Bool.{true, ◌&&◌}
use mathlib.Core.List.{List}
use Prim.Native.Nat.{ℕ, ◌+◌, ◌-◌, ◌≤◌, ◌<◌}
use native.Mathlib.Omega.{arith}
use borrow.Author.Tests.{le-ltb, eqb-true, ltb-true, ltb-false}
use lib.Dec.{eqb, ltb}
use lib.ListN.{get_or}
use mir.Syntax.{w64}
use mir.Val.{Fits}
use Rattle.text.specs.Logic.{by_test, below_at, below_both, and_left, and_right}
use Rattle.schema.specs.Sequences.{next_of, container_of, states, classes}
use Rattle.schema.specs.Tables.{entry_at, is_right, Tabled, is_owner, Owned}

-- ---- what may follow

module _
    {first n width : ℕ} {table : List (List ℕ)} {columns : List ℕ} (p : Tabled first n width table columns) {s c : ℕ} (f : first ≤ s) (b : s < first + n)
    (d : c < classes) where
  abbrev here : ℕ
  here = entry_at table columns (s - first) c

  right_here : is_right first width table columns (s - first) c ≡ true
  right_here = below_both n classes (is_right first width table columns) p.right (s - first) c (omega arith) d

  -- the column is one of the table's
  pub column_below : get_or columns c 0 < width
  column_below = ltb-true (get_or columns c 0) width (and_left _ _ right_here)

  -- it fits a word
  pub column_fits : width < 256 → Fits w64 (get_or columns c 0)
  column_fits h = record { fits = omega (arith, column_below) }

  entry_right : ltb here states && eqb here (next_of (first + (s - first)) c) ≡ true
  entry_right = and_right (ltb (get_or columns c 0) width) _ right_here

  -- the entry fits a word
  pub entry_fits : Fits w64 here
  entry_fits = record { fits = omega (arith, ltb-true here states (and_left _ _ entry_right)) }

  -- it is the next state
  pub entry_is : here ≡ next_of s c
  entry_is =
      let e : first + (s - first) ≡ s = omega arith in
      rw e at (eqb-true here (next_of (first + (s - first)) c) (and_right (ltb here states) _ entry_right))

-- ---- outside the tables

module _ (s c : ℕ) where
  pub zero_state : s ≡ 0 → 0 ≡ next_of s c
  unfolding next_of
  zero_state e = rw e (by_test (ltb c classes) (λ t. rw t) (λ t. rw t))

  pub no_state : states ≤ s → 0 ≡ next_of s c
  unfolding next_of
  no_state h = rw (le-ltb s states h)

  pub no_class : classes ≤ c → 0 ≡ next_of s c
  unfolding next_of
  no_class h = by_test (ltb s states) (λ t. rw (t, le-ltb c classes h)) (λ t. rw t)

  -- an element may stand only in a state, and has a class
  pub inside : (next_of s c ≡ 0 → ⊥) → (s < states) × (c < classes)
  inside n = (
    by_test (ltb s states) (ltb-true s states) (λ t. absurd (n (sym (no_state (ltb-false s states t))))),
    by_test (ltb c classes) (ltb-true c classes) (λ t. absurd (n (sym (no_class (ltb-false c classes t))))),
  )

-- ---- the container of a state

module _ {table : List ℕ} {s : ℕ} (p : Owned table s) where
  owner_here : is_owner table s ≡ true
  owner_here = below_at states (is_owner table) p.right s p.state_below

  pub owner_fits : Fits w64 (get_or table s 0)
  owner_fits = record { fits = omega (arith, ltb-true (get_or table s 0) classes (and_left _ _ owner_here)) }

  pub owner_is : get_or table s 0 ≡ container_of s
  owner_is = eqb-true (get_or table s 0) (container_of s) (and_right (ltb (get_or table s 0) classes) _ owner_here)

pub no_owner : (s : ℕ) → states ≤ s → 0 ≡ container_of s
unfolding container_of
no_owner s h = rw (le-ltb s states h)
