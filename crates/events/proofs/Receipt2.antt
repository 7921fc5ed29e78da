-- Demand 2 for receipt: acceptance is exact at every call, and changes one entry only.
use mathlib.Core.Path.{◌≡◌, refl, sym, subst, ◌∙◌, ap}
use mathlib.Core.Bool.{Bool, true, false, cond, not}
use mathlib.Core.List.{List}
use Prim.Native.Nat.{ℕ, zero, suc, ◌<◌, ◌≤◌}
use native.Mathlib.Nat.{le_refl, not-suc-le-zero}
use native.Mathlib.Omega.{arith}
use borrow.Author.Tests.{ltb-true, ltb-false, lt-ltb, le-ltb, not-false}
use lib.Dec.{ltb}
use lib.ListN.{length, get_or, set, length-set}
use lib.Seq.{get_or-set_same, get_or-set_other}
use Rattle.std.specs.Prelude.{Result}
use Rattle.text.specs.Logic.{by_test, cond_cases, clash}
use Rattle.text.specs.Answers.{Answer, gives, refuses, answer_and_then, answer_number}
use Rattle.packet.specs.declared.Fields.{Fields}
use Rattle.packet.specs.Packet.{packet_of}
use Rattle.packet.proofs.Acceptance.{refusal_numbers}
use Rattle.packet.proofs.Widths.{sequence_lt}
use Rattle.events.specs.declared.Entry.{Entry}
use Rattle.events.specs.declared.New.{New as Item}
use Rattle.events.specs.declared.Refusal.{Refusal}
use Rattle.events.specs.Table.{blank, is_of, is_free, index_of, free_index, new_of, renewed, fresh, Outcome, outcome, again, anew, table_outcome, is_clock_out_of_range, is_listed, checked, answered, received, receipt_answer}
use Rattle.events.specs.Demand2.{OnlyAt, FirstAt, NoneOf, Call, Passes, Known, New, Stored, in_entry, in_free, Demand2, answer_of}
use Rattle.events.proofs.Search.{index_is, index_none, first_at, none_of}
use Rattle.events.proofs.Sweeping.{swept_none, swept_free}

-- a store changes one entry
only_set : (es : List Entry) (i : ℕ) (e : Entry) → i < length es → OnlyAt i e es (set es i e)
only_set es i e h = record {
  long = length-set es i e;
  here = get_or-set_same es i e blank h;
  elsewhere = λ k n. get_or-set_other es i k e blank n;
}

-- ---- a refusal changes nothing, and has a number of the paper's

abbrev Sound : List Entry → Outcome → Type 0
Sound es o = (n at : ℕ) → o.answer ≡ refuses n at → (o.entries ≡ es) × (1 ≤ n) × (n ≤ 12) × (at ≡ 0)

module _ (es : List Entry) where
  refusing : (n : ℕ) → 1 ≤ n → n ≤ 12 → Sound es (outcome (refuses n 0) es)
  refusing n low high m at e = let f : n ≡ m = cc in let g : 0 ≡ at = cc in (refl, rw (← f) low, rw (← f) high, sym g)

  accepting : (fs : List Entry) → Sound es (outcome (gives tt) fs)
  accepting fs n at e = clash (cc)

  table_sound : (new : Item) → Sound es (table_outcome new es)
  unfolding table_outcome again anew
  table_sound new =
      cond_cases (Sound es) (ltb (index_of new.key new.event es) (length es)) _ _
      (λ _. cond_cases (Sound es) (ltb (get_or es (index_of new.key new.event es) blank).sequence new.sequence) _ _ (λ _. accepting _)
      (λ _. refusing 10 (omega arith) (omega arith)))
      (λ _. cond_cases (Sound es) (ltb (free_index es) (length es)) _ _ (λ _. accepting _) (λ _. refusing 11 (omega arith) (omega arith)))

  module _ (p keys : List ℕ) (verdict : Bool) (clock : ℕ) where
    stops : (n : ℕ) → 1 ≤ n → n ≤ 12 → (q : Answer Item) (t : Bool) → Sound es (answered es q) → Sound es (answered es (cond t (refuses n 0) q))
    stops n low high q t h = cond_cases (λ x. Sound es (answered es x)) t (refuses n 0) q (λ _. refusing n low high) (λ _. h)

    answered_sound : (q : Answer Fields) → packet_of p ≡ q → Sound es (answered es (answer_and_then q (checked keys verdict clock)))
    unfolding checked
    answered_sound (refuses n at) e = λ m k g.
        let r = refusal_numbers p n at e in
        let f : n ≡ m = cc in
        let h : at ≡ k = cc in
        (refl, rw (← f) r.0, omega (arith, r.1, f), sym h ∙ r.2)
    answered_sound (gives f) e =
        stops 12 (omega arith) (omega arith) _ (is_clock_out_of_range clock)
        (stops 8 (omega arith) (omega arith) _ (not (is_listed keys f.key))
        (stops 9 (omega arith) (omega arith) _ (not verdict)
        (table_sound (new_of clock f))))

    received_sound : Sound es (received es p keys verdict clock)
    unfolding received
    received_sound = answered_sound (packet_of p) refl

-- ---- a call

module _ (es : List Entry) (p keys : List ℕ) (verdict : Bool) (clock : ℕ) (a : Answer Prim.Unit) (fs : List Entry)
    (call : Call es p keys verdict clock a fs) where
  abbrev got : Outcome
  got = outcome a fs

  is_received : got ≡ received es p keys verdict clock
  is_received = λ i. record { answer = call.answer i; entries = call.entries i }

  sound : Sound es got
  sound = subst (Sound es) (sym is_received) (received_sound es p keys verdict clock)

  -- ---- a packet that passes every earlier check
  module _ (f : Fields) (passed : Passes es p keys verdict clock a fs f) where
    by_table : got ≡ table_outcome (new_of clock f) es
    unfolding received checked
    by_table = is_received ∙ rw (passed.alert, passed.timely, passed.listed, passed.verified)

    -- an event with an entry
    module _ (i : ℕ) (first : FirstAt (is_of f.key f.event) es i) where
      by_entry : got ≡ again (new_of clock f) es i
      unfolding table_outcome
      by_entry = by_table ∙ (rw (index_is (is_of f.key f.event) es i first, lt-ltb _ _ first.within))

      above : (get_or es i blank).sequence < f.sequence → got ≡ outcome (gives tt) (set es i (renewed (new_of clock f) (get_or es i blank)))
      unfolding again
      above h = by_entry ∙ (rw (lt-ltb _ _ h))

      not_above : f.sequence ≤ (get_or es i blank).sequence → got ≡ outcome (refuses 10 0) es
      unfolding again
      not_above h = by_entry ∙ (rw (le-ltb _ _ h))

      accepted_above : a ≡ gives tt → (get_or es i blank).sequence < f.sequence
      accepted_above r =
          by_test (ltb (get_or es i blank).sequence f.sequence)
          (ltb-true (get_or es i blank).sequence f.sequence)
          (λ t.
          let e : a ≡ refuses 10 0 = ap (λ (o : Outcome). o.answer) (not_above (ltb-false (get_or es i blank).sequence f.sequence t)) in
          clash (cc))

      is_known : Known es p keys verdict clock a fs f i
      is_known = record {
        exactly = (accepted_above, λ h. ap (λ (o : Outcome). o.answer) (above h));
        else = λ h. ap (λ (o : Outcome). o.answer) (not_above h);
        entry = λ r. rw (ap (λ (o : Outcome). o.entries) (above (accepted_above r)))
            (only_set es i (renewed (new_of clock f) (get_or es i blank)) first.within);
      }

      all_refused : ((k : ℕ) → get_or p k 0 < 0x100) → (get_or es i blank).sequence ≡ 65_535 → a ≡ refuses 10 0
      all_refused bytes e = is_known.else (omega (arith, e, sequence_lt p bytes f passed.alert))

    -- an event without one
    module _ (none : NoneOf (is_of f.key f.event) es) where
      by_free : got ≡ anew (new_of clock f) es (free_index es)
      unfolding table_outcome
      by_free = by_table ∙ (rw (index_none (is_of f.key f.event) es none, le-ltb (length es) (length es) (le_refl (length es))))

      is_new : (i : ℕ) → FirstAt is_free es i → New es p keys verdict clock a fs f i
      unfolding anew
      is_new i free =
          let e : got ≡ outcome (gives tt) (set es i (fresh (new_of clock f))) = by_free ∙ (rw (index_is is_free es i free, lt-ltb _ _ free.within)) in
          record {
            lowest = free;
            accepted = ap (λ (o : Outcome). o.answer) e;
            entry = rw (ap (λ (o : Outcome). o.entries) e) (only_set es i (fresh (new_of clock f)) free.within);
          }

      is_full : NoneOf is_free es → a ≡ refuses 11 0
      unfolding anew
      is_full taken =
          let e : got ≡ outcome (refuses 11 0) es =
          by_free ∙ (rw (index_none is_free es taken, le-ltb (length es) (length es) (le_refl (length es)))) in
          ap (λ (o : Outcome). o.answer) e

      -- accepted, so an entry is free
      new_stored : a ≡ gives tt → Stored es p keys verdict clock a fs f
      new_stored r =
          by_test (ltb (free_index es) (length es))
          (λ t. in_free (free_index es) none (is_new (free_index es) (first_at is_free es (ltb-true (free_index es) (length es) t))))
          (λ t.
          let e : a ≡ refuses 11 0 = is_full (none_of is_free es (ltb-false (free_index es) (length es) t)) in
          clash (cc))

    pub is_stored : a ≡ gives tt → Stored es p keys verdict clock a fs f
    is_stored r =
        let test = is_of f.key f.event in
        let at = index_of f.key f.event es in
        by_test (ltb at (length es))
        (λ t. let first = first_at test es (ltb-true at (length es) t) in in_entry at first (is_known at first))
        (λ t. new_stored (none_of test es (ltb-false at (length es) t)) r)

  -- ---- an accepted packet passes every check
  passes_all : a ≡ gives tt → (f : Fields) × Passes es p keys verdict clock a fs f
  unfolding received checked
  passes_all r = go (packet_of p) refl (sym call.answer ∙ r)
    where
      past : (n : ℕ) (q : Answer Item) (t : Bool) → (answered es (cond t (refuses n 0) q)).answer ≡ gives tt → (t ≡ false) × ((answered es q).answer ≡ gives tt)
      past n q true e = clash (cc)
      past n q false e = (refl, e)

      go : (q : Answer Fields) → packet_of p ≡ q → (answered es (answer_and_then q (checked keys verdict clock))).answer ≡ gives tt
          → (f : Fields) × Passes es p keys verdict clock a fs f
      go (refuses n at) e g = clash (cc)
      go (gives f) e g =
          let e₁ = past 12 _ (is_clock_out_of_range clock) g in
          let e₂ = past 8 _ (not (is_listed keys f.key)) e₁.1 in
          let e₃ = past 9 _ (not verdict) e₂.1 in
          (f, record { alert = e; timely = e₁.0; listed = not-false _ e₂.0; verified = not-false _ e₃.0 })

  pub demand_2 : Demand2 es p keys verdict clock a fs
  demand_2 = record {
    known = λ f i passed first. is_known f passed i first;
    new = λ f i passed none free. is_new f passed none i free;
    full = λ f passed none taken. is_full f passed none taken;
    accepted = λ r. let w = passes_all r in (w.0, w.1, is_stored w.0 w.1 r);
    refused = λ n at e. (sound n at e).0;
    numbers = λ n at e. let w = sound n at e in (w.1, w.2, w.3);
    last = λ bytes f i passed first e. all_refused f passed i first bytes e;
    swept = λ time old e f passed k within here stale.
        let none : NoneOf (is_of f.key f.event) es = rw e (swept_none time f.key f.event old stale) in
        let free : free_index es < length es = rw e (swept_free time old k within (stale k within here)) in
        (free_index es, is_new f passed none (free_index es) (first_at is_free es free));
  }

-- ---- the receivers, from what their contracts promise

module _ (es : List Entry) (p keys : List ℕ) (verdict : Bool) (clock : ℕ) (fs : List Entry) (left : fs ≡ (received es p keys verdict clock).entries) where
  -- `receive`: the table of 64 by value
  pub receive_demand_2 : (r : Result Prim.Unit Refusal) → receipt_answer r ≡ (received es p keys verdict clock).answer → Demand2 es p keys verdict clock (receipt_answer r) fs
  receive_demand_2 r e = demand_2 es p keys verdict clock (receipt_answer r) fs (record { answer = e; entries = left })

  number_answer : (a : Answer Prim.Unit) → ((n at : ℕ) → a ≡ refuses n at → (1 ≤ n) × (at ≡ 0)) → answer_of (answer_number a) ≡ a
  number_answer (gives u) h = refl
  number_answer (refuses zero at) h = absurd (not-suc-le-zero (h zero at refl).0)
  number_answer (refuses (suc n) at) h = ap (refuses (suc n)) (sym (h (suc n) at refl).1)

  -- `warnbox_receive`: the lent slice, the answer as a number
  pub number_demand_2 : (n : ℕ) → n ≡ answer_number (received es p keys verdict clock).answer → Demand2 es p keys verdict clock (answer_of n) fs
  number_demand_2 n e =
      demand_2 es p keys verdict clock (answer_of n) fs (record {
        answer = ap answer_of e ∙ number_answer (received es p keys verdict clock).answer
            (λ m at q. let w = received_sound es p keys verdict clock m at q in (w.1, w.3));
        entries = left;
      })
