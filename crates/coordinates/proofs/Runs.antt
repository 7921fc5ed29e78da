-- A run of digits: one step of it at an offset of a text, for the loop that reads it, and what a run that was read says of the text.
use mathlib.Core.Path.{◌≡◌, sym, ap}
use mathlib.Core.Bool.{true}
use mathlib.Core.List.{List, [], ◌∷◌}
use Prim.Native.Char.{code}
use Prim.Native.Nat.{ℕ, zero, suc, ◌+◌, ◌-◌, ◌*◌, ◌^◌, ◌≤◌, ◌<◌}
use native.Mathlib.Nat.{add-zero, add-sub_cancel_left, pow-suc, mul-le-mul_right, mul_comm, mul_assoc, lt_of_lt_of_le}
use native.Mathlib.Numerals.{add-one}
use native.Mathlib.Omega.{arith}
use borrow.Author.Tests.{leb-true, leb-false, le-leb, lt-leb}
use lib.Dec.{leb-zero, leb}
use lib.ListN.{length, get_or, take, drop, drop_of_length-le}
use lib.Seq.{drop-cons}
use Rattle.std.specs.Prelude.{Some, None}
use Rattle.text.specs.Bytes.{is_digit, digits, number_from, number}
use Rattle.text.specs.Logic.{by_test, and_left, and_right}
use Rattle.coordinates.proofs.Arms.{some_arm, none_arm}
use Rattle.coordinates.specs.Run.{run_of}
use Rattle.coordinates.proofs.Tens.{tens_le}

-- ---- one step: the first i digits of l are read, and v is the number that they write

-- the next byte is a digit too
number_more : (n i : ℕ) (l : List ℕ) → i < length l → number_from n (take (i + 1) l) ≡ number_from n (take i l) * 10 + (get_or l i 0 - code "0")
unfolding number_from
number_more n i [] h = absurd (omega arith)
number_more n zero (b ∷ l) h = omega arith
number_more n (suc i) (b ∷ l) h = rw (add-one (suc i)) (rw (add-one i) at (number_more (10 * n + (b - code "0")) i l (omega arith)))

module _ (l : List ℕ) (i v : ℕ) (g : v ≡ number (take i l)) where
  pub more_is : i < length l → v * 10 + (get_or l i 0 - code "0") ≡ number (take (i + 1) l)
  more_is h = rw g (sym (number_more 0 i l h))

  module _ (most at : ℕ) (r : i + digits (drop i l) ≡ digits l) where
    -- they are all, or there are too many of them
    pub run_read : i ≤ most → i ≡ digits l → Some (v, at + i) ≡ run_of most at l
    unfolding run_of
    run_read h e = rw (← e, le-leb i most h, ← g)

    pub run_long : i < length l → i ≡ most → is_digit (get_or l i 0) ≡ true → None ≡ run_of most at l
    unfolding run_of
    run_long h e d = let n : most < digits l = omega (arith, rw (drop-cons l i 0 h, d) at r) in rw (lt-leb (digits l) most n)

-- no digit stands past the end
pub run_past : (most at : ℕ) (s : List ℕ) → length s ≤ at → Some (0, at) ≡ run_of most at (drop at s)
unfolding run_of number_from
run_past most at s h = rw (drop_of_length-le s h, leb-zero most, add-zero at)

-- ---- how large a run's number is

digit_le : (b : ℕ) → is_digit b ≡ true → b - code "0" ≤ 9
digit_le b e = omega (arith, leb-true b (code "9") (and_right (leb (code "0") b) (leb b (code "9")) e))

pub digit_ge : (b : ℕ) → is_digit b ≡ true → code "0" ≤ b
digit_ge b e = leb-true (code "0") b (and_left (leb (code "0") b) (leb b (code "9")) e)

-- one digit more
pub more_lt : (i v b : ℕ) → v < 10 ^ i → is_digit b ≡ true → v * 10 + (b - code "0") < 10 ^ (i + 1)
more_lt i v b g e = rw (add-one i, pow-suc) (omega (arith, digit_le b e))

less_by_ten : (n b t x : ℕ) → is_digit b ≡ true → x < suc (10 * n + (b - code "0")) * t → x < suc n * (t * 10)
less_by_ten n b t x e h =
    let g : suc (10 * n + (b - code "0")) ≤ suc n * 10 = omega (arith, digit_le b e) in
    lt_of_lt_of_le h (rw (mul_comm t 10, ← mul_assoc) (mul-le-mul_right t g))

number_from_lt : (n : ℕ) (l : List ℕ) → number_from n (take (digits l) l) < suc n * 10 ^ digits l
unfolding number_from
number_from_lt n [] = omega arith
number_from_lt n (b ∷ l) =
    by_test (is_digit b)
    (λ e. rw (e, pow-suc) (less_by_ten n b (10 ^ digits l) _ e (number_from_lt (10 * n + (b - code "0")) l)))
    (λ e. rw e (omega arith))

number_lt : (l : List ℕ) → number (take (digits l) l) < 10 ^ digits l
number_lt l = omega (arith, number_from_lt 0 l)

-- ---- what a run that was read says

-- v is the number that the digits at offset i write, at most `most` of them, and e the offset after them
pub record Ran (most i : ℕ) (l : List ℕ) (v e : ℕ) : Type 0 where
  pub few : digits l ≤ most
  pub value : v ≡ number (take (digits l) l)
  pub end : e ≡ i + digits l

module _ (most i : ℕ) (l : List ℕ) where
  pub ran : (v e : ℕ) → run_of most i l ≡ Some (v, e) → Ran most i l v e
  unfolding run_of
  ran v e q =
      let (t, p) = some_arm _ (leb (digits l) most) (v, e) q in
      record { few = leb-true (digits l) most t; value = sym (ap (λ r. r.0) p); end = sym (ap (λ r. r.1) p) }

  pub ran_long : run_of most i l ≡ None → most < digits l
  unfolding run_of
  ran_long q = leb-false (digits l) most (none_arm _ (leb (digits l) most) q)

  module _ (v e : ℕ) (q : run_of most i l ≡ Some (v, e)) where
    pub ran_lt : most ≤ 7 → v < 10_000_000
    ran_lt h = let r = ran v e q in rw r.value (omega (arith, number_lt l, tens_le (digits l) (omega arith)))

    -- how many digits were read
    pub ran_count : e - i ≡ digits l
    ran_count = rw (ran v e q).end (add-sub_cancel_left i (digits l))

    pub ran_start : i ≤ e
    ran_start = omega (arith, (ran v e q).end)

    pub ran_few : e - i ≤ most
    ran_few = omega (arith, ran_count, (ran v e q).few)
