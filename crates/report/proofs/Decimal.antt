-- Numbers in digits: how many there are at most, and that they are those that std writes.
use mathlib.Core.Path.{◌≡◌, refl, sym, ◌∙◌}
use mathlib.Core.Bool.{true, false}
use mathlib.Core.List.{List, [], ◌∷◌, ◌++◌, append-nil}
use Prim.Native.Nat.{ℕ, zero, suc, ◌+◌, ◌*◌, ◌/◌, ◌%◌, ◌≤◌, ◌<◌}
use Prim.Native.Char.{code}
use native.Mathlib.Omega.{arith}
use lib.Dec.{ltb}
use lib.ListN.{length, length-append}
use lib.Seq.{append_snoc}
use borrow.Author.Tests.{lt-ltb, ltb-true, ltb-false, eq-eqb, ne_eqb}
use Rattle.std.specs.Fmt.{decimal, digits, digits_onto}
use Rattle.text.specs.Logic.{by_test}
use Rattle.report.specs.Lines.{digits_within, in_digits}

-- there are k digits at most
pub digits_le : (k n : ℕ) → length (digits_within k n) ≤ k
unfolding digits_within
digits_le zero n = omega arith
digits_le (suc k) n =
    by_test (ltb n 10)
    (λ e. rw e (omega arith))
    (λ e. rw (e, length-append) (omega (arith, digits_le k (n / 10))))

-- the power of ten with k zeros
unfoldable ten : ℕ → ℕ
ten zero = 1
ten (suc k) = 10 * ten k

-- a number below the power has its digits however many there may be
more_digits : (k m n : ℕ) → k ≤ m → n < ten (suc k) → digits_within (suc m) n ≡ digits_within (suc k) n
unfolding digits_within ten
more_digits zero m n l h = let e : ltb n 10 ≡ true = lt-ltb n 10 (omega arith) in rw e
more_digits (suc k) zero n l h = absurd (omega arith)
more_digits (suc k) (suc m) n l h =
    by_test (ltb n 10) (λ e. rw e) (λ e. rw (e, more_digits k m (n / 10) (omega arith) (omega arith)))

-- std finds the last digit first
onto : (k n : ℕ) (acc : List ℕ) → digits_onto k 10 false n acc ≡ digits_within k n ++ acc
unfolding digits_within
onto zero n acc = refl
onto (suc k) n acc =
    let d : ltb (n % 10) 10 ≡ true = lt-ltb (n % 10) 10 (omega arith) in
    by_test (ltb n 10)
    (λ e. rw (e, d, eq-eqb (n / 10) 0 (omega (arith, ltb-true n 10 e))))
    (λ e.
    rw (e, d, ne_eqb (n / 10) 0 (λ z. omega (arith, ltb-false n 10 e)))
    (onto k (n / 10) ((code "0" + n % 10) ∷ acc) ∙ sym (append_snoc (digits_within k (n / 10)) (code "0" + n % 10) acc)))

pub in_digits_decimal : (n : ℕ) → n < 0x1_0000_0000_0000_0000 → decimal n ≡ in_digits n
unfolding digits ten
in_digits_decimal n h = onto 64 n [] ∙ (append-nil _ ∙ more_digits 19 63 n (omega arith) (omega arith))
