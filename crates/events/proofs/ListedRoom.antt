-- The list of running events in the making, entry by entry: how long it is, and the room where it stands.
use mathlib.Core.Path.{◌≡◌, sym, ◌∙◌, ap}
use mathlib.Core.Bool.{true, false}
use mathlib.Core.List.{List, [], ◌∷◌}
use mathlib.Core.Logic.{⊎_elim}
use Prim.Native.Nat.{ℕ, zero, suc, ◌+◌, ◌≤◌, ◌<◌}
use native.Mathlib.Nat.{le_of_suc-le-suc, eq-or-lt_of_le}
use native.Mathlib.Numerals.{add-one}
use native.Mathlib.Omega.{arith}
use lib.Dec.{eqb, ltb}
use lib.ListN.{length, get_or, set, length-append}
use borrow.Author.Tests.{eqb-true, ne_eqb, ltb-false}
use Rattle.std.specs.Prelude.{Some}
use Rattle.std.specs.Option.{option_eq}
use Rattle.text.specs.Logic.{by_test, and_left, and_right, and_comm}
use Rattle.text.specs.Rooms.{filled, after_listing}
use Rattle.text.proofs.Rooms.{filled_none, filled_next, filled_length, listed_fits}
use Rattle.events.specs.declared.Entry.{Entry}
use Rattle.events.specs.declared.EventId.{EventId}
use Rattle.events.specs.Table.{blank, is_set, is_of, index_of, position_of}
use Rattle.events.specs.Running.{event_of, is_running, is_first, runs_at, running_to, running}
use Rattle.events.specs.Steps.{is_active}
use Rattle.events.proofs.Search.{first_at}
use Rattle.events.proofs.Listing.{running_none, running_hit, running_miss, running_le, running_all}

-- ---- whether an entry runs and is its event's first used one, from what is asked of it

module _ (time : ℕ) (es : List Entry) (i : ℕ) (h : i < length es) where
  -- the search for its event ends at it
  first_found : option_eq eqb (position_of (get_or es i blank).key (get_or es i blank).event es) (Some i) ≡ is_first es i
  unfolding position_of
  first_found =
      let k = index_of (get_or es i blank).key (get_or es i blank).event es in
      by_test (ltb k (length es)) (λ t. rw t) (λ t. rw t (sym (ne_eqb k i (λ e. absurd (omega (arith, e, ltb-false k (length es) t))))))

  pub runs_first : is_active time (get_or es i blank) ≡ true
      → option_eq eqb (position_of (get_or es i blank).key (get_or es i blank).event es) (Some i) ≡ runs_at time es i
  runs_first s = first_found ∙ rw (and_right (is_set (get_or es i blank).used) (is_running time (get_or es i blank)) s)

  -- an event's first used entry is used
  first_used : is_first es i ≡ true → is_set (get_or es i blank).used ≡ true
  first_used t =
      let e : index_of (get_or es i blank).key (get_or es i blank).event es ≡ i = eqb-true _ i t in
      let first = first_at (is_of (get_or es i blank).key (get_or es i blank).event) es (rw e h) in
      and_left _ _ (and_left _ _ (rw e at first.passes))

  pub runs_not : is_active time (get_or es i blank) ≡ false → runs_at time es i ≡ false
  runs_not s =
      by_test (is_first es i)
      (λ t. let idle : is_running time (get_or es i blank) ≡ false = rw (first_used t) at s in rw idle)
      (λ t. and_comm (is_running time (get_or es i blank)) (is_first es i) ∙ rw t)

-- ---- one entry more

module _ (time : ℕ) (es : List Entry) (i : ℕ) where
  pub count_hit : runs_at time es i ≡ true → length (running_to time es (i + 1)) ≡ length (running_to time es i) + 1
  count_hit hit = rw (running_hit time es i hit) (length-append (running_to time es i) (event_of (get_or es i blank) ∷ []))

  pub count_miss : runs_at time es i ≡ false → length (running_to time es (i + 1)) ≡ length (running_to time es i)
  count_miss miss = rw (running_miss time es i miss)

  count_next : length (running_to time es i) ≤ length (running_to time es (i + 1))
  count_next = by_test (runs_at time es i) (λ t. omega (arith, count_hit t)) (λ t. omega (arith, count_miss t))

-- it never gets shorter
count_grows : (time : ℕ) (es : List Entry) (i n : ℕ) → i ≤ n → length (running_to time es i) ≤ length (running_to time es n)
count_grows time es i zero h = let e : i ≡ 0 = omega arith in rw e (omega arith)
count_grows time es i (suc n) h =
    ⊎_elim (λ e. rw e (omega arith))
    (λ l. let shorter = count_grows time es i n (le_of_suc-le-suc l) in rw (← add-one n) (omega (arith, shorter, count_next time es n)))
    (eq-or-lt_of_le h)

module _ (time : ℕ) (es : List Entry) (i : ℕ) (within : i < length es) (hit : runs_at time es i ≡ true) where
  -- an event that is listed is one of all
  pub count_below : length (running_to time es i) < length (running time es)
  unfolding running
  count_below = omega (arith, count_hit time es i hit, count_grows time es (i + 1) (length es) (omega arith))

  -- it takes the next place of a room for all
  pub room_hit : (rs : List EventId) → length (running time es) ≤ length rs
      → set (filled rs (running_to time es i)) (length (running_to time es i)) (event_of (get_or es i blank)) ≡ filled rs (running_to time es (i + 1))
  room_hit rs room =
      sym (filled_next rs (running_to time es i) (event_of (get_or es i blank)) (omega (arith, count_below)))
      ∙ ap (filled rs) (sym (running_hit time es i hit))

-- at the end the room holds the list and what was behind it
pub room_all : (rs list : List EventId) → length list ≤ length rs → filled rs list ≡ after_listing rs list
room_all rs list h = (listed_fits rs list h).1

-- what the loops need: the start, a turn and the end
pub ruleset counting_steps = (running_none, running_le, running_all, count_hit, count_miss)

pub ruleset listing_steps = (counting_steps, filled_none, filled_length, count_below, room_hit, running_miss, room_all)
