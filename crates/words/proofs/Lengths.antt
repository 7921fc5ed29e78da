-- How long what is said can be.
use mathlib.Core.Path.{◌≡◌, refl}
use mathlib.Core.Bool.{Bool}
use mathlib.Core.List.{[], ◌∷◌}
use Prim.Native.Nat.{ℕ, ◌+◌, ◌/◌, ◌%◌, ◌≤◌, ◌<◌}
use native.Mathlib.Omega.{arith}
use lib.Dec.{eqb, leb}
use lib.ListN.{length, length-append}
use borrow.Author.Tests.{leb-true, eqb-true, eqb-false}
use Rattle.text.specs.Logic.{by_test, below_at}
use Rattle.words.specs.Words.{dictionary, word, spaced, hundred, thousand, million, billion, ones, below_hundred, below_thousand, group, number_codes, said}
use Rattle.words.specs.Duration.{day, days, hour, hours, minute, minutes, second, seconds, counted, lasting}
use Rattle.words.proofs.Cases.{thousand_low, thousand_high, group_none, group_some, said_zero, said_some, counted_none, counted_one, counted_many, lasting_parts}

-- ---- parts of a number, by tests over all their values

-- " seven" is as long as any word for a number below ten
digit_fits : ℕ → Bool
unfolding spaced word dictionary
digit_fits n = leb (length (spaced (n ∷ []))) 6

digit_le : (n : ℕ) → n < 10 → length (spaced (n ∷ [])) ≤ 6
unfolding digit_fits
digit_le n h = leb-true (length (spaced (n ∷ []))) 6 (below_at 10 digit_fits tt n h)

-- " seventy seven" as any for one below a hundred
hundred_fits : ℕ → Bool
unfolding spaced word dictionary ones below_hundred
hundred_fits n = leb (length (spaced (below_hundred n))) 14

hundred_le : (n : ℕ) → n < 100 → length (spaced (below_hundred n)) ≤ 14
unfolding hundred_fits
hundred_le n h = leb-true (length (spaced (below_hundred n))) 14 (below_at 100 hundred_fits tt n h)

-- " three billion": a number below 2^32 has at most four
billion_fits : ℕ → Bool
unfolding spaced word dictionary ones below_hundred below_thousand group
billion_fits n = leb (length (spaced (group n billion))) 14

billion_le : (n : ℕ) → n < 5 → length (spaced (group n billion)) ≤ 14
unfolding billion_fits
billion_le n h = leb-true (length (spaced (group n billion))) 14 (below_at 5 billion_fits tt n h)

-- " twenty three thousand": a number below 65,536 has at most sixty five
thousand_fits : ℕ → Bool
unfolding spaced word dictionary ones below_hundred below_thousand group
thousand_fits n = leb (length (spaced (group n thousand))) 22

thousands_le : (n : ℕ) → n < 66 → length (spaced (group n thousand)) ≤ 22
unfolding thousand_fits
thousands_le n h = leb-true (length (spaced (group n thousand))) 22 (below_at 66 thousand_fits tt n h)

-- ---- a number

hundred_word : length (spaced (hundred ∷ [])) ≡ 8
unfolding spaced word dictionary
hundred_word = refl

-- " three hundred seventy seven"
thousand_le : (n : ℕ) → n < 1_000 → length (spaced (below_thousand n)) ≤ 28
thousand_le n h =
    by_test (eqb (n / 100) 0)
    (λ e. rw (thousand_low n (eqb-true (n / 100) 0 e)) (omega (arith, hundred_le (n % 100) (omega arith))))
    (λ e.
    rw (thousand_high n (eqb-false (n / 100) 0 e))
    (simp length-append (omega (arith, hundred_word, digit_le (n / 100) (omega arith), hundred_le (n % 100) (omega arith)))))

group_le : (n u k : ℕ) → n < 1_000 → length (spaced (u ∷ [])) ≤ k → length (spaced (group n u)) ≤ 28 + k
group_le n u k h l =
    by_test (eqb n 0)
    (λ e. rw (group_none n u (eqb-true n 0 e)) (omega arith))
    (λ e. rw (group_some n u (eqb-false n 0 e)) (simp length-append (omega (arith, thousand_le n h))))

-- 115: " three billion three hundred seventy three million three hundred seventy three thousand three hundred seventy three"
pub said_le : (n : ℕ) → n < 4_294_967_296 → length (said n) ≤ 115
unfolding spaced word dictionary
said_le n h =
    by_test (eqb n 0)
    (λ e. rw (said_zero n (eqb-true n 0 e)) (omega arith))
    (λ e.
    rw (said_some n (eqb-false n 0 e))
    (simp length-append
    (omega (
      arith,
      billion_le (n / 1_000_000_000) (omega arith),
      group_le (n / 1_000_000 % 1_000) million 8 (omega arith) (omega arith),
      group_le (n / 1_000 % 1_000) thousand 9 (omega arith) (omega arith),
      thousand_le (n % 1_000) (omega arith),
    ))))

-- 50: " twenty three thousand three hundred seventy three"
pub short_le : (n : ℕ) → n < 65_536 → length (said n) ≤ 50
unfolding spaced word dictionary
short_le n h =
    by_test (eqb n 0)
    (λ e. rw (said_zero n (eqb-true n 0 e)) (omega arith))
    (λ e.
    rw
    (said_some n (eqb-false n 0 e), group_none (n / 1_000_000_000) billion (omega arith), group_none (n / 1_000_000 % 1_000) million (omega arith))
    (let k : n / 1_000 % 1_000 < 66 = omega arith in
    simp length-append (omega (arith, thousands_le (n / 1_000 % 1_000) k, thousand_le (n % 1_000) (omega arith)))))

-- ---- a duration

counted_le :
    (n one many m k : ℕ)
    → length (said n) ≤ m → length (spaced (one ∷ [])) ≤ k → length (spaced (many ∷ [])) ≤ k
    → length (spaced (counted n one many)) ≤ m + k
counted_le n one many m k h a b =
    by_test (eqb n 0)
    (λ z. rw (counted_none n one many (eqb-true n 0 z)) (omega arith))
    (λ z.
    by_test (eqb n 1)
    (λ o. rw (counted_one n one many (eqb-true n 1 o)) (simp length-append (omega arith)))
    (λ o. rw (counted_many n one many (eqb-false n 0 z) (eqb-false n 1 o)) (simp length-append (omega arith))))

-- " twenty three" is as long as any number of hours, minutes or seconds
sixty_fits : ℕ → Bool
unfolding spaced word dictionary ones below_hundred below_thousand group number_codes said
sixty_fits n = leb (length (said n)) 13

sixty_le : (n : ℕ) → n < 60 → length (said n) ≤ 13
unfolding sixty_fits
sixty_le n h = leb-true (length (said n)) 13 (below_at 60 sixty_fits tt n h)

-- " three hundred twenty three" as any number of days to 365
year_fits : ℕ → Bool
unfolding spaced word dictionary ones below_hundred below_thousand group number_codes said
year_fits n = leb (length (said n)) 27

year_le : (n : ℕ) → n < 366 → length (said n) ≤ 27
unfolding year_fits
year_le n h = leb-true (length (said n)) 27 (below_at 366 year_fits tt n h)

-- 66 are " days", " twenty three hours", " twenty three minutes" and " twenty three seconds"
days_then : (s k : ℕ) → length (said (s / 86_400)) ≤ k → length (lasting s) ≤ k + 66
unfolding spaced word dictionary
days_then s k h =
    rw (lasting_parts s)
    (simp length-append
    (omega (
      arith,
      counted_le (s / 86_400) day days k 5 h (omega arith) (omega arith),
      counted_le (s / 3_600 % 24) hour hours 13 6 (sixty_le (s / 3_600 % 24) (omega arith)) (omega arith) (omega arith),
      counted_le (s / 60 % 60) minute minutes 13 8 (sixty_le (s / 60 % 60) (omega arith)) (omega arith) (omega arith),
      counted_le (s % 60) second seconds 13 8 (sixty_le (s % 60) (omega arith)) (omega arith) (omega arith),
    )))

-- any duration: 2^32 seconds have 49,710 days
pub duration_le : (s : ℕ) → s < 4_294_967_296 → length (lasting s) ≤ 116
duration_le s h = days_then s 50 (short_le (s / 86_400) (omega arith))

-- a lasting time
pub lasting_le : (s : ℕ) → s ≤ 31_536_000 → length (lasting s) ≤ 93
lasting_le s h = days_then s 27 (year_le (s / 86_400) (omega arith))
