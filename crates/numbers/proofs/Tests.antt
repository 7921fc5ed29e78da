-- What the tests of numbers tell where they pass.
use mathlib.Core.Path.{◌≡◌, refl}
use mathlib.Core.Bool.{Bool, true, false, ◌&&◌, ◌||◌}
use mathlib.Core.List.{List, [], ◌∷◌}
use Prim.Native.Nat.{ℕ, zero, suc, ◌<◌}
use native.Mathlib.Omega.{arith}
use lib.Dec.{eqb, ltb}
use lib.ListN.{get_or}
use borrow.Author.Tests.{eqb-true, ltb-true}
use Rattle.std.specs.Prelude.{Option, Some, None, cond}
use Rattle.text.specs.Logic.{by_test, and_left, and_right}
use Rattle.codes.specs.Lists as list
use Rattle.codes.specs.Lists.{is_number}
use Rattle.numbers.specs.Numbers.{at, is_flag, has_no_part, are_lasting, are_part, are_cap, lasting_from, are_warn, stated_of, seconds_of}

-- ---- a value that was found by a test

pub record Stands {A : Type 0} (b : Bool) (x y : A) : Type 0 where
  pub passes : b ≡ true
  pub value : y ≡ x

pub stands : {A : Type 0} {b : Bool} {x y : A} {o : Option A} → o ≡ cond b (Some x) None → o ≡ Some y → Stands b x y
stands {b} {x} {y} e f =
    by_test b
    (λ p. let q = rw p at e in record { passes = p; value = cc })
    (λ p. let q = rw p at e in cc)

-- ---- many tests, one after the other

-- a test and then those of a list, joined as `a && b && c` is
abbrev pub joined : Bool → List Bool → Bool
joined t [] = t
joined t (s ∷ l) = joined (t && s) l

joined_first : (t : Bool) (l : List Bool) → joined t l ≡ true → t ≡ true
joined_first t [] e = e
joined_first t (s ∷ l) e = and_left t s (joined_first (t && s) l e)

-- where all pass, each passes
pub joined_at : (t : Bool) (l : List Bool) → joined t l ≡ true → (i : ℕ) → get_or l i true ≡ true
joined_at t [] e i = refl
joined_at t (s ∷ l) e zero = and_right t s (joined_first (t && s) l e)
joined_at t (s ∷ l) e (suc i) = joined_at (t && s) l e i

-- ---- a lasting time

-- two numbers that stand for one fit its fields, and are its numbers
pub record LastingPassed (stated seconds : ℕ) : Type 0 where
  pub fits : seconds < 0x1_0000_0000
  pub stated_back : stated_of (lasting_from stated seconds) ≡ stated
  pub seconds_back : seconds_of (lasting_from stated seconds) ≡ seconds

pub lasting_passed : (stated seconds : ℕ) → are_lasting stated seconds ≡ true → LastingPassed stated seconds
lasting_passed stated seconds e =
    by_test (eqb stated 1 && ltb seconds 0x1_0000_0000)
    (λ f.
    let one = eqb-true stated 1 (and_left (eqb stated 1) (ltb seconds 0x1_0000_0000) f) in
    record {
      fits = ltb-true seconds 0x1_0000_0000 (and_right (eqb stated 1) (ltb seconds 0x1_0000_0000) f);
      stated_back = rw one;
      seconds_back = rw one;
    })
    (λ f.
    let none = rw f at e in
    let zero-stated = eqb-true stated 0 (and_left (eqb stated 0) (eqb seconds 0) none) in
    let zero-seconds = eqb-true seconds 0 (and_right (eqb stated 0) (eqb seconds 0) none) in
    record { fits = omega arith; stated_back = rw zero-stated; seconds_back = rw (zero-stated, zero-seconds) })

-- ---- a part

-- its numbers fit its fields, and those of codes are in their lists
pub record PartPassed (n : List ℕ) : Type 0 where
  pub number : at n 4 < 0x100
  pub total : at n 5 < 0x100
  pub urgency : is_number list.urgency (at n 6) ≡ true
  pub severity : is_number list.severity (at n 7) ≡ true
  pub certainty : is_number list.certainty (at n 8) ≡ true
  pub lasting : LastingPassed (at n 9) (at n 10)

pub part_passed : (n : List ℕ) → are_part n ≡ true → PartPassed n
unfolding are_part
part_passed n e =
    let passed =
    joined_at true
    (ltb (at n 4) 0x100 ∷ ltb (at n 5) 0x100 ∷ is_number list.urgency (at n 6) ∷ is_number list.severity (at n 7)
    ∷ is_number list.certainty (at n 8) ∷ are_lasting (at n 9) (at n 10) ∷ [])
    e
    in
    record {
      number = ltb-true (at n 4) 0x100 (passed 0);
      total = ltb-true (at n 5) 0x100 (passed 1);
      urgency = passed 2;
      severity = passed 3;
      certainty = passed 4;
      lasting = lasting_passed (at n 9) (at n 10) (passed 5);
    }

-- ---- a CAP sheet

-- its kind is CAP's, and its numbers of codes are in their lists
pub record CapPassed (n : List ℕ) : Type 0 where
  pub first : at n 0 ≡ 1
  pub message : is_number list.msg_type (at n 1) ≡ true
  pub status : is_number list.status (at n 2) ≡ true
  pub scope : is_number list.scope (at n 3) ≡ true
  pub parts : has_no_part n || are_part n ≡ true

pub cap_passed : (n : List ℕ) → are_cap n ≡ true → CapPassed n
unfolding are_cap
cap_passed n e =
    let passed =
    joined_at true
    (eqb (at n 0) 1 ∷ is_number list.msg_type (at n 1) ∷ is_number list.status (at n 2) ∷ is_number list.scope (at n 3) ∷ (has_no_part n || are_part n) ∷ [])
    e
    in
    record {
      first = eqb-true (at n 0) 1 (passed 0);
      message = passed 1;
      status = passed 2;
      scope = passed 3;
      parts = passed 4;
    }

-- one that has a part has numbers that stand for the part
pub part_there : (n : List ℕ) → are_cap n ≡ true → has_no_part n ≡ false → are_part n ≡ true
part_there n e h = rw h at (cap_passed n e).parts

-- ---- a WARN sheet

-- its kind is WARN's, its flags are 0 or 1, and its numbers fit its fields
pub record WarnPassed (n : List ℕ) : Type 0 where
  pub first : at n 0 ≡ 2
  pub urgent : is_flag (at n 1) ≡ true
  pub update : is_flag (at n 2) ≡ true
  pub cancel : is_flag (at n 3) ≡ true
  pub test : is_flag (at n 4) ≡ true
  pub event : at n 5 < 0x1_0000_0000
  pub number : at n 6 < 0x1_0000
  pub origin : at n 7 < 0x1_0000_0000
  pub lasting : at n 8 < 0x1_0000_0000
  pub hazard : at n 9 < 0x100
  pub kind : at n 10 < 0x100
  pub urgency : at n 11 < 0x100
  pub severity : at n 12 < 0x100
  pub certainty : at n 13 < 0x100
  pub response : at n 14 < 0x100

pub warn_passed : (n : List ℕ) → are_warn n ≡ true → WarnPassed n
unfolding are_warn
warn_passed n e =
    let passed =
    joined_at true
    (eqb (at n 0) 2 ∷ is_flag (at n 1) ∷ is_flag (at n 2) ∷ is_flag (at n 3) ∷ is_flag (at n 4)
    ∷ ltb (at n 5) 0x1_0000_0000 ∷ ltb (at n 6) 0x1_0000 ∷ ltb (at n 7) 0x1_0000_0000 ∷ ltb (at n 8) 0x1_0000_0000
    ∷ ltb (at n 9) 0x100 ∷ ltb (at n 10) 0x100 ∷ ltb (at n 11) 0x100 ∷ ltb (at n 12) 0x100 ∷ ltb (at n 13) 0x100 ∷ ltb (at n 14) 0x100 ∷ [])
    e
    in
    record {
      first = eqb-true (at n 0) 2 (passed 0);
      urgent = passed 1;
      update = passed 2;
      cancel = passed 3;
      test = passed 4;
      event = ltb-true (at n 5) 0x1_0000_0000 (passed 5);
      number = ltb-true (at n 6) 0x1_0000 (passed 6);
      origin = ltb-true (at n 7) 0x1_0000_0000 (passed 7);
      lasting = ltb-true (at n 8) 0x1_0000_0000 (passed 8);
      hazard = ltb-true (at n 9) 0x100 (passed 9);
      kind = ltb-true (at n 10) 0x100 (passed 10);
      urgency = ltb-true (at n 11) 0x100 (passed 11);
      severity = ltb-true (at n 12) 0x100 (passed 12);
      certainty = ltb-true (at n 13) 0x100 (passed 13);
      response = ltb-true (at n 14) 0x100 (passed 14);
    }
