-- A rule of codes, tested once over the numbers of all lists.
use mathlib.Core.Path.{◌≡◌, ◌∙◌}
use mathlib.Core.Bool.{Bool, true, false, cond, ◌&&◌, false≢true}
use mathlib.Core.List.{[], ◌∷◌}
use Prim.Native.Nat.{ℕ, ◌≤◌, ◌<◌}
use native.Mathlib.Omega.{arith}
use lib.Dec.{T, leb, ltb, eqb}
use lib.ListN.{length, get_or, get_or-eq_default}
use borrow.Author.Tests.{leb-true, lt-leb, eqb-true, ltb-true, ltb-false}
use Rattle.text.specs.Logic.{by_test, and_right, true_T, below, below_at}
use Rattle.text.specs.Search.{find}
use Rattle.codes.specs.Lists.{lists, codes, is_number, small_code_of, small_text}
use Rattle.codes.specs.Values.{message_number, status_number, scope_number, urgency_number, severity_number, certainty_number}
use Rattle.codes.specs.Values.{message_at, status_at, scope_at, urgency_at, severity_at, certainty_at}

-- past the last list there is none
no_list : (l : ℕ) → 8 ≤ l → codes l ≡ []
unfolding lists
no_list l h = get_or-eq_default lists [] h

no_number : (k : ℕ) → false ≡ leb 1 k && leb k 0
no_number k = by_test (leb 1 k) (λ e. rw (e, lt-leb k 0 (omega (arith, leb-true 1 k e)))) (λ e. rw e)

-- no list has more than 12 codes
few : ℕ → Bool
unfolding lists
few l = leb (length (codes l)) 12

number_within : (l k : ℕ) → is_number l k ≡ true → (l < 8) × (k < 13)
unfolding is_number few
number_within l k n =
    by_test (ltb l 8)
    (λ e.
    let h = ltb-true l 8 e in
    let m = leb-true (length (codes l)) 12 (below_at 8 few tt l h) in
    (h, omega (arith, leb-true k (length (codes l)) (and_right (leb 1 k) (leb k (length (codes l))) n))))
    (λ e. absurd (false≢true (no_number k ∙ rw (no_list l (ltb-false l 8 e)) at n)))

-- the test f passes at each number of each list
abbrev pub each : (ℕ → ℕ → Bool) → Bool
each f = below 8 (λ l. below 13 (λ k. cond (is_number l k) (f l k) true))

pub each_at : (f : ℕ → ℕ → Bool) → T (each f) → (l k : ℕ) → is_number l k ≡ true → f l k ≡ true
each_at f t l k n =
    let w = number_within l k n in
    let e = below_at 8 (λ (l : ℕ). below 13 (λ k. cond (is_number l k) (f l k) true)) t l w.0 in
    rw n at (below_at 13 (λ (k : ℕ). cond (is_number l k) (f l k) true) (true_T _ e) k w.1)

-- a text in small letters says one code of its list only
is_read : ℕ → ℕ → Bool
is_read l k = eqb (small_code_of l (small_text l k)) k

pub small_read : (l k : ℕ) → is_number l k ≡ true → small_code_of l (small_text l k) ≡ k
unfolding lists is_number small_code_of small_text find is_read
small_read l k n = eqb-true (small_code_of l (small_text l k)) k (each_at is_read tt l k n)

-- the number of the value that the number k gives, by the list; there are no values of categories and of response types
abbrev pub number_back : ℕ → ℕ → ℕ
number_back l k =
    get_or
    (status_number (status_at k) ∷ message_number (message_at k) ∷ scope_number (scope_at k) ∷ k ∷ k ∷ urgency_number (urgency_at k) ∷
    severity_number (severity_at k) ∷ certainty_number (certainty_at k) ∷ [])
    l k

is_back : ℕ → ℕ → Bool
is_back l k = eqb (number_back l k) k

-- each number of a list is that of its value
pub number_back_lem : (l k : ℕ) → is_number l k ≡ true → number_back l k ≡ k
unfolding lists is_number is_back
number_back_lem l k n = eqb-true (number_back l k) k (each_at is_back tt l k n)
