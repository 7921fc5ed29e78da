-- What holds of the list of running events, for every table and every time.
use mathlib.Core.Path.{◌≡◌, refl, sym, ◌∙◌, ap}
use mathlib.Core.Bool.{Bool, true, false, cond, not, ◌&&◌, false≢true}
use mathlib.Core.List.{List, [], ◌∷◌, ◌++◌}
use mathlib.Core.Logic.Iff
use mathlib.Core.Logic.{◌⊎◌, inl, inr, ⊎_elim, ◌↔◌}
use Prim.Native.Nat.{ℕ, zero, suc, ◌+◌, ◌<◌, ◌≤◌}
use native.Mathlib.Nat.{le_of_suc-le-suc, eq-or-lt_of_le, not-suc-le-zero, lt_irrefl}
use native.Mathlib.Numerals.{add-one}
use native.Mathlib.Omega.{arith}
use borrow.Author.Tests.{eqb-true, eqb-false, eq-eqb, leb-true, le-leb, ltb-true, ltb-false, lt-ltb, not-true, not-false}
use lib.Dec.{eqb, leb, ltb}
use lib.ListN.{length, get_or, set, length-set, length-append, get_or-append, get_or-eq_default}
use lib.Seq.{get_or-append_seam, get_or-set_same, get_or-set_other}
use mir.Val.{bool_byte}
use Rattle.text.specs.Logic.{by_test, and_left, and_right, clash}
use Rattle.packet.specs.declared.Fields.{Fields}
use Rattle.events.specs.declared.Entry.{Entry}
use Rattle.events.specs.declared.EventId.{EventId}
use Rattle.events.specs.Table.{blank, is_set, is_of, is_free, first_index}
use Rattle.events.specs.Running.{event_of, no_event, is_running, is_first, runs_at, running_to, running}
use Rattle.events.specs.Demand2.{OnlyAt, FirstAt, Stored, in_entry, in_free}
use Rattle.events.specs.RunningList.{event, StandsAt, Listed, Runs, RunningList, ListAfter, AcceptedList}
use Rattle.events.proofs.Search.{index_is, index_alike, index_behind, first_at}
use Rattle.events.proofs.Sweeping.{swept_same}
use Rattle.events.proofs.Listing.{running_none, running_hit, running_miss}
use Rattle.events.proofs.Receipt2.{is_stored}

-- ---- tests

-- three tests that are passed together are passed each
all_three : (r s t : Bool) → r && s && t ≡ true → (r ≡ true) × (s ≡ true) × (t ≡ true)
all_three true true t e = (refl, refl, e)
all_three true false t e = absurd (false≢true e)
all_three false s t e = absurd (false≢true e)

-- a mark is 0 exactly if it is not set
unset : (b : Bool) → (bool_byte b ≡ 0) ↔ (b ≡ false)
unset true = (λ e. clash (sym e), λ e. absurd (false≢true (sym e)))
unset false = (λ _. refl, λ _. refl)

-- ---- a list of events with one more at its end

module _ (list : List EventId) (y : EventId) where
  longer : length (list ++ (y ∷ [])) ≡ length list + 1
  longer = length-append list (y ∷ [])

  -- the new event stands behind the others
  last : StandsAt y (list ++ (y ∷ [])) (length list)
  last = record { within = rw longer (omega arith); here = get_or-append_seam list y [] no_event }

  module _ {x : EventId} {j : ℕ} where
    -- which stand where they stood
    stays : StandsAt x list j → StandsAt x (list ++ (y ∷ [])) j
    stays s = record { within = rw longer (omega arith); here = get_or-append list (y ∷ []) no_event j s.within ∙ s.here }

    stood : j < length list → StandsAt x (list ++ (y ∷ [])) j → StandsAt x list j
    stood h s = record { within = h; here = sym (get_or-append list (y ∷ []) no_event j h) ∙ s.here }

    -- there is no other place
    old_or_last : StandsAt x (list ++ (y ∷ [])) j → StandsAt x list j ⊎ (y ≡ x)
    old_or_last s =
        let h : j ≤ length list = omega (arith, longer) in
        ⊎_elim
        (λ e. inr (sym last.here ∙ ap (λ (k : ℕ). get_or (list ++ (y ∷ [])) k no_event) (sym e) ∙ s.here))
        (λ l. inl (stood l s))
        (eq-or-lt_of_le h)

-- ---- one entry

abbrev is_entry_of : EventId → Entry → Bool
is_entry_of x e = is_of x.key x.event e

-- a used entry of an event
module _ (x : EventId) (e : Entry) (h : is_entry_of x e ≡ true) where
  -- it passes the test's parts
  its_tests : (is_set e.used ≡ true) × (eqb e.key x.key ≡ true) × (eqb e.event x.event ≡ true)
  its_tests = all_three (is_set e.used) (eqb e.key x.key) (eqb e.event x.event) h

  -- it holds the event
  its_event : event_of e ≡ x
  its_event = rw (eqb-true e.key x.key its_tests.1, eqb-true e.event x.event its_tests.2)

  -- and is one of an equal event
  entry_of_same : (y : EventId) → y ≡ x → is_entry_of y e ≡ true
  entry_of_same y q = ap (λ (z : EventId). is_entry_of z e) q ∙ h

-- an entry of an event, or a free one
abbrev OfOrFree : EventId → Entry → Type 0
OfOrFree x e = is_free e ≡ false → is_entry_of x e ≡ true

-- is of no other event
module _ (x : EventId) (e : Entry) (o : OfOrFree x e) (y : EventId) where
  of_one : is_entry_of y e ≡ true → y ≡ x
  of_one h = sym (its_event y e h) ∙ its_event x e (o (rw (its_tests y e h).0))

  of_no_other : (y ≡ x → ⊥) → is_entry_of y e ≡ false
  of_no_other n = by_test (is_entry_of y e) (λ t. absurd (n (of_one t))) (λ t. t)

-- past the last entry there is none of an event
entry_within : (x : EventId) (es : List Entry) (j : ℕ) → is_entry_of x (get_or es j blank) ≡ true → j < length es
entry_within x es j h =
    by_test (ltb j (length es))
    (ltb-true j (length es))
    (λ t. absurd (false≢true (rw (get_or-eq_default es blank (ltb-false j (length es) t)) at h)))

-- an entry that runs passes the tests, and one that passes them runs
module _ (time : ℕ) (e : Entry) where
  tested_runs : is_running time e ≡ true → Runs time e
  tested_runs h = let t = all_three (not (is_set e.cancelled)) (leb e.timestamp time) (ltb time e.expiry) h in
      record {
        uncancelled = eqb-true e.cancelled 0 (not-false _ (not-true _ t.0));
        begun = leb-true e.timestamp time t.1;
        unexpired = ltb-true time e.expiry t.2;
      }

  runs_tested : Runs time e → is_running time e ≡ true
  runs_tested r = rw (r.uncancelled, le-leb _ _ r.begun, lt-ltb _ _ r.unexpired)

-- ---- the events of the first n entries, and their places in the list

module _ (time : ℕ) (es : List Entry) where
  -- the events listed for the first n entries
  abbrev up_to : ℕ → List EventId
  up_to n = running_to time es n

  -- the event of an entry
  abbrev own : ℕ → EventId
  own i = event_of (get_or es i blank)

  -- where an event's first used entry is
  abbrev index_in : EventId → ℕ
  index_in x = first_index (is_entry_of x) es

  -- an event whose first used entry, among the first n, runs
  record RunsAmong (n : ℕ) (x : EventId) : Type 0 where
    index : ℕ
    below : index < n
    runs : runs_at time es index ≡ true
    is : own index ≡ x

  -- it is found at that entry
  found_at_lem : (i : ℕ) (x : EventId) → runs_at time es i ≡ true → own i ≡ x → index_in x ≡ i
  found_at_lem i x t e = rw (← e) (eqb-true _ i (and_right (is_running time (get_or es i blank)) _ t))

  -- with one entry more it still runs, and every event stands where it stood
  module _ (n : ℕ) {x : EventId} where
    more : RunsAmong n x → RunsAmong (suc n) x
    more a = record { index = a.index; below = omega (arith, a.below); runs = a.runs; is = a.is }

    module _ {j : ℕ} where
      next_hit : runs_at time es n ≡ true → StandsAt x (up_to (suc n)) j → StandsAt x (up_to n ++ (own n ∷ [])) j
      next_hit t s = rw (← add-one n, running_hit time es n t) at s

      next_miss : runs_at time es n ≡ false → StandsAt x (up_to (suc n)) j → StandsAt x (up_to n) j
      next_miss t s = rw (← add-one n, running_miss time es n t) at s

      keeps : StandsAt x (up_to n) j → StandsAt x (up_to (suc n)) j
      keeps s =
          rw (← add-one n)
          (by_test (runs_at time es n) (λ t. rw (running_hit time es n t) (stays (up_to n) (own n) s)) (λ t. rw (running_miss time es n t) s))

  -- a listed event runs
  entry_of : (n : ℕ) (x : EventId) (j : ℕ) → StandsAt x (up_to n) j → RunsAmong n x
  entry_of zero x j s = absurd (not-suc-le-zero (rw (running_none time es) at s.within))
  entry_of (suc n) x j s =
      by_test (runs_at time es n)
      (λ t. ⊎_elim (λ o. more n (entry_of n x j o)) (λ e. record { index = n; below = omega arith; runs = t; is = e })
      (old_or_last (up_to n) (own n) (next_hit n t s)))
      (λ t. more n (entry_of n x j (next_miss n t s)))

  -- and one that runs is listed
  place_of : (n : ℕ) (x : EventId) → RunsAmong n x → Listed x (up_to n)
  place_of zero x a = absurd (not-suc-le-zero a.below)
  place_of (suc n) x a =
      ⊎_elim
      (λ e. let t : runs_at time es n ≡ true = rw (← e) a.runs in let q : own n ≡ x = rw (← e) a.is in
      (length (up_to n), rw (← add-one n, running_hit time es n t, ← q) (last (up_to n) (own n))))
      (λ h. let w = place_of n x (record { index = a.index; below = h; runs = a.runs; is = a.is }) in (w.0, keeps n w.1))
      (eq-or-lt_of_le (le_of_suc-le-suc a.below))

  -- of two events the first in the list is the first in the table
  rising : (n : ℕ) (x y : EventId) (j k : ℕ) → j < k → StandsAt x (up_to n) j → StandsAt y (up_to n) k → index_in x < index_in y
  rising zero x y j k h s t = absurd (not-suc-le-zero (rw (running_none time es) at s.within))
  rising (suc n) x y j k h s t =
      by_test (runs_at time es n)
      (λ r. let u = next_hit n r t in
      let p = stood (up_to n) (own n) (omega (arith, u.within, longer (up_to n) (own n))) (next_hit n r s) in
      let a = entry_of n x j p in
      ⊎_elim
      (λ o. rising n x y j k h p o)
      (λ e. omega (arith, found_at_lem a.index x a.runs a.is, found_at_lem n y r e, a.below))
      (old_or_last (up_to n) (own n) u))
      (λ r. rising n x y j k h (next_miss n r s) (next_miss n r t))

  -- ---- the whole list

  module _ (x : EventId) where
    -- a listed event's first used entry runs
    listed_runs : Listed x (running time es) → (i : ℕ) × FirstAt (is_entry_of x) es i × Runs time (get_or es i blank)
    unfolding running
    listed_runs w =
        let a = entry_of (length es) x w.0 w.1 in
        let q : index_in x ≡ a.index = found_at_lem a.index x a.runs a.is in
        let first = first_at (is_entry_of x) es (rw q a.below) in
        (a.index, rw q at first, tested_runs time _ (and_left _ (is_first es a.index) a.runs))

    module _ (i : ℕ) (first : FirstAt (is_entry_of x) es i) where
      -- and if it runs the event is listed
      runs_listed : Runs time (get_or es i blank) → Listed x (running time es)
      unfolding running
      runs_listed r =
          let e = its_event x (get_or es i blank) first.passes in
          place_of (length es) x (record {
            index = i;
            below = first.within;
            runs = rw (runs_tested time (get_or es i blank) r) (eq-eqb _ _ (ap index_in e ∙ index_is (is_entry_of x) es i first));
            is = e;
          })

      -- so it is listed exactly if the entry at i runs
      listed_by : Listed x (running time es) ↔ Runs time (get_or es i blank)
      listed_by = (
        λ w. let r = listed_runs w in rw (sym (index_is (is_entry_of x) es i first) ∙ index_is (is_entry_of x) es r.0 r.1) r.2,
        runs_listed,
      )

  -- the list is in table order
  in_order : (x y : EventId) (j k : ℕ) → j < k → StandsAt x (running time es) j → StandsAt y (running time es) k → index_in x < index_in y
  unfolding running
  in_order = rising (length es)

  -- so an event stands there once
  only_once : (x : EventId) (j k : ℕ) → StandsAt x (running time es) j → StandsAt x (running time es) k → j ≡ k
  only_once x j k s t =
      by_test (ltb j k)
      (λ l. absurd (lt_irrefl _ (in_order x x j k (ltb-true j k l) s t)))
      (λ l. ⊎_elim sym (λ m. absurd (lt_irrefl _ (in_order x x k j m t s))) (eq-or-lt_of_le (ltb-false j k l)))

-- ---- a later used entry of an event

-- what an entry adds to the list
abbrev adds : ℕ → List Entry → ℕ → List EventId
adds time es k = cond (runs_at time es k) (event_of (get_or es k blank) ∷ []) []

-- where each entry adds the same the lists are the same
running_same : (time : ℕ) (es fs : List Entry) → ((k : ℕ) → adds time fs k ≡ adds time es k) → (n : ℕ) → running_to time fs n ≡ running_to time es n
unfolding running_to
running_same time es fs same zero = refl
running_same time es fs same (suc n) = rw (running_same time es fs same n, same n)

module _ (time : ℕ) (x : EventId) (i j : ℕ) (l : i < j) where
  -- it is not listed, and neither is a free entry in its place
  not_listed :
      (es : List Entry) → is_entry_of x (get_or es i blank) ≡ true → j < length es → OfOrFree x (get_or es j blank) → runs_at time es j ≡ false
  not_listed es h within o =
      by_test (runs_at time es j)
      (λ t. let y = event_of (get_or es j blank) in
      let q : first_index (is_entry_of y) es ≡ j = found_at_lem time es j y t refl in
      let first : FirstAt (is_entry_of y) es j = rw q at (first_at (is_entry_of y) es (rw q within)) in
      let p = entry_of_same x (get_or es i blank) h y (of_one x (get_or es j blank) o y first.passes) in
      absurd (false≢true (sym (first.earlier i l) ∙ p)))
      (λ t. t)

  module _ (es : List Entry) (e : Entry) (h : is_entry_of x (get_or es i blank) ≡ true) (g : is_entry_of x (get_or es j blank) ≡ true)
      (o : OfOrFree x e) where
    -- no event's first used entry is changed
    index_stays : (y : EventId) → first_index (is_entry_of y) (set es j e) ≡ first_index (is_entry_of y) es
    index_stays y =
        by_test (is_entry_of y (get_or es i blank))
        (index_behind (is_entry_of y) es i j e l)
        (λ t. let n : y ≡ x → ⊥ = λ q. false≢true (sym t ∙ entry_of_same x (get_or es i blank) h y q) in
        index_alike (is_entry_of y) es j e (of_no_other x e o y n ∙ sym (of_no_other x (get_or es j blank) (λ _. g) y n)))

    -- so each entry adds what it added
    same_events : (k : ℕ) → adds time (set es j e) k ≡ adds time es k
    same_events k =
        let within = entry_within x es j g in
        let unlisted = not_listed (set es j e) (rw (get_or-set_other es j i e blank (λ (q : i ≡ j). absurd (omega (arith, q)))) h)
        (rw (length-set es j e) within) (rw (get_or-set_same es j e blank within) o) in
        by_test (eqb k j)
        (λ t. rw (eqb-true k j t, not_listed es h within (λ _. g), unlisted))
        (λ t. rw (get_or-set_other es j k e blank (eqb-false k j t), index_stays (event_of (get_or es k blank))))

    same_list : running time (set es j e) ≡ running time es
    unfolding running
    same_list = rw (length-set es j e) (running_same time es (set es j e) same_events (length es))

pub running_list : (time : ℕ) (es : List Entry) → RunningList time es
running_list time es = record {
  exactly = λ key number. let x = event key number in (listed_runs time es x, λ w. runs_listed time es x w.0 w.1 w.2);
  once = only_once time es;
  ordered = λ j k h w. in_order time es _ _ j k h (record { within = omega arith; here = refl }) (record { within = w; here = refl });
  later = λ key number i j e l h g o. same_list time (event key number) i j l es e h g o;
  unswept = λ at n. ap (running time) (swept_same at es n);
}

-- ---- acceptance

-- entries that differ at one index, where neither is of an event
module _ (x : EventId) (es fs : List Entry) (i : ℕ) (long : length fs ≡ length es)
    (elsewhere : (k : ℕ) → (k ≡ i → ⊥) → get_or fs k blank ≡ get_or es k blank) (before : is_entry_of x (get_or es i blank) ≡ false)
    (after : is_entry_of x (get_or fs i blank) ≡ false) where
  -- the same entries are of the event
  tested_alike : (k : ℕ) → is_entry_of x (get_or fs k blank) ≡ is_entry_of x (get_or es k blank)
  tested_alike k =
      by_test (eqb k i)
      (λ t. rw (eqb-true k i t) (after ∙ sym before))
      (λ t. ap (is_entry_of x) (elsewhere k (eqb-false k i t)))

  -- so its first used entry is the same
  still_first : (k : ℕ) → FirstAt (is_entry_of x) es k → FirstAt (is_entry_of x) fs k
  still_first k first = record {
    within = rw long first.within;
    passes = tested_alike k ∙ first.passes;
    earlier = λ m h. tested_alike m ∙ first.earlier m h;
  }

  -- and if it was listed it still is
  still_listed : (time : ℕ) → Listed x (running time es) → Listed x (running time fs)
  still_listed time w =
      let r = listed_runs time es x w in
      let e = elsewhere r.0 (λ (q : r.0 ≡ i). false≢true (sym before ∙ rw q at r.1.passes)) in
      runs_listed time fs x r.0 (still_first r.0 r.1) (rw e r.2)

-- what a packet stores runs by that packet alone
abbrev PacketRuns : Fields → ℕ → Type 0
PacketRuns f time = (f.cancel ≡ false) × (f.timestamp ≤ time) × (time < f.expiry)

stored_runs : (f : Fields) (time : ℕ) (e : Entry) → e.cancelled ≡ bool_byte f.cancel → e.timestamp ≡ f.timestamp → e.expiry ≡ f.expiry
    → Runs time e ↔ PacketRuns f time
stored_runs f time e c b u = (
  λ r. ((unset f.cancel).0 (sym c ∙ r.uncancelled), rw (← b) r.begun, rw (← u) r.unexpired),
  λ w. record { uncancelled = c ∙ (unset f.cancel).1 w.0; begun = rw b w.1; unexpired = rw u w.2 },
)

-- a packet is stored at index i, in its event's first used entry or, where it has none, in a free one
module _ (es fs : List Entry) (f : Fields) (i : ℕ) (e : Entry) (only : OnlyAt i e es fs) (within : i < length es)
    (none : (k : ℕ) → k < i → is_of f.key f.event (get_or es k blank) ≡ false) (old : OfOrFree (event f.key f.event) (get_or es i blank))
    (new : is_of f.key f.event e ≡ true) where
  -- it is now its event's first used entry
  now_first : FirstAt (is_of f.key f.event) fs i
  now_first = record {
    within = rw only.long within;
    passes = rw only.here new;
    earlier = λ k h. rw (only.elsewhere k (λ (q : k ≡ i). absurd (omega (arith, q)))) (none k h);
  }

  -- which alone judges its event, and no other
  list_after : (time : ℕ) → Runs time e ↔ PacketRuns f time → ListAfter es fs f time
  list_after time r = let x = event f.key f.event in record {
    own = Iff.trans (listed_by time fs x i now_first) (rw only.here r);
    others = λ y n.
        let b = of_no_other x (get_or es i blank) old y n in
        let c = of_no_other x (get_or fs i blank) (λ _. now_first.passes) y n in (
          still_listed y fs es i (sym only.long) (λ k m. sym (only.elsewhere k m)) c b time,
          still_listed y es fs i only.long only.elsewhere b c time,
        );
  }

-- by what an accepted packet has changed
pub accepted_list : AcceptedList
accepted_list es p keys verdict clock a fs call f passed r time = go (is_stored es p keys verdict clock a fs call f passed r)
  where
    go : Stored es p keys verdict clock a fs f → ListAfter es fs f time
    go (in_entry i first known) =
        list_after es fs f i _ (known.entry r) first.within first.earlier (λ _. first.passes) first.passes time
        (stored_runs f time _ refl refl refl)
    go (in_free i none new) =
        list_after es fs f i _ new.entry new.lowest.within (λ k h. none k (omega (arith, new.lowest.within)))
        (λ n. absurd (false≢true (sym n ∙ new.lowest.passes))) (rw (eq-eqb f.key f.key refl, eq-eqb f.event f.event refl)) time
        (stored_runs f time _ refl refl refl)
