-- What is said of a number and of a duration, by the cases of the definitions, and that it begins with a space.
use mathlib.Core.Path.{◌≡◌, refl, ap, ◌∙◌}
use mathlib.Core.List.{List, [], ◌∷◌, ◌++◌, append_assoc, append-nil}
use Prim.Native.Nat.{ℕ, ◌/◌, ◌%◌, ◌≤◌, ◌<◌}
use Prim.Native.Char.{code}
use lib.ListN.{drop}
use borrow.Author.Tests.{lt-ltb, le-ltb, eq-eqb, ne_eqb}
use Rattle.words.specs.Words.{word, spaced, tens, hundred, thousand, million, billion, ones, below_hundred, below_thousand, group, number_codes, said}
use Rattle.words.specs.Duration.{day, days, hour, hours, minute, minutes, second, seconds, counted, duration_codes, lasting}

pub spaced_append : (a b : List ℕ) → spaced (a ++ b) ≡ spaced a ++ spaced b
unfolding spaced
spaced_append [] b = refl
spaced_append (w ∷ ws) b = rw (spaced_append ws b, append_assoc)

pub spaced_one : (w : ℕ) → spaced (w ∷ []) ≡ code " " ∷ word w
unfolding spaced
spaced_one w = rw append-nil

pub spaced_cons : (ws : List ℕ) → (ws ≡ [] → ⊥) → spaced ws ≡ code " " ∷ drop 1 (spaced ws)
unfolding spaced
spaced_cons [] z = absurd (z refl)
spaced_cons (w ∷ ws) z = refl

-- ---- a number

pub ones_none : (n : ℕ) → n ≡ 0 → spaced (ones n) ≡ []
unfolding ones spaced
ones_none n h = rw h

pub ones_some : (n : ℕ) → (n ≡ 0 → ⊥) → spaced (ones n) ≡ spaced (n ∷ [])
unfolding ones
ones_some n h = rw (ne_eqb n 0 h)

pub hundred_low : (n : ℕ) → n < 20 → spaced (below_hundred n) ≡ spaced (ones n)
unfolding below_hundred
hundred_low n h = rw (lt-ltb n 20 h)

pub hundred_high : (n : ℕ) → 20 ≤ n → spaced (below_hundred n) ≡ spaced (tens (n / 10) ∷ []) ++ spaced (ones (n % 10))
unfolding below_hundred
hundred_high n h = rw (le-ltb n 20 h) (spaced_append (tens (n / 10) ∷ []) (ones (n % 10)))

pub thousand_low : (n : ℕ) → n / 100 ≡ 0 → spaced (below_thousand n) ≡ spaced (below_hundred (n % 100))
unfolding below_thousand
thousand_low n h = rw (eq-eqb (n / 100) 0 h)

pub thousand_high :
    (n : ℕ)
    → (n / 100 ≡ 0 → ⊥)
    → spaced (below_thousand n) ≡ (spaced (n / 100 ∷ []) ++ spaced (hundred ∷ [])) ++ spaced (below_hundred (n % 100))
unfolding below_thousand
thousand_high n h =
    rw (ne_eqb (n / 100) 0 h)
    (spaced_append (n / 100 ∷ hundred ∷ []) (below_hundred (n % 100))
    ∙ ap (λ (l : List ℕ). l ++ spaced (below_hundred (n % 100))) (spaced_append (n / 100 ∷ []) (hundred ∷ [])))

pub group_none : (n u : ℕ) → n ≡ 0 → spaced (group n u) ≡ []
unfolding group spaced
group_none n u h = rw (eq-eqb n 0 h)

pub group_some : (n u : ℕ) → (n ≡ 0 → ⊥) → spaced (group n u) ≡ spaced (below_thousand n) ++ spaced (u ∷ [])
unfolding group
group_some n u h = rw (ne_eqb n 0 h) (spaced_append (below_thousand n) (u ∷ []))

pub codes_zero : (n : ℕ) → n ≡ 0 → number_codes n ≡ 0 ∷ []
unfolding number_codes
codes_zero n h = rw (eq-eqb n 0 h)

pub said_zero : (n : ℕ) → n ≡ 0 → said n ≡ spaced (0 ∷ [])
unfolding said
said_zero n h = ap spaced (codes_zero n h)

pub said_some :
    (n : ℕ)
    → (n ≡ 0 → ⊥)
    → said n
    ≡ ((spaced (group (n / 1_000_000_000) billion) ++ spaced (group (n / 1_000_000 % 1_000) million))
    ++ spaced (group (n / 1_000 % 1_000) thousand))
    ++ spaced (below_thousand (n % 1_000))
unfolding said number_codes
said_some n h = simp (ne_eqb n 0 h, spaced_append, append_assoc)

-- ---- a duration

pub counted_none : (n one many : ℕ) → n ≡ 0 → spaced (counted n one many) ≡ []
unfolding counted spaced
counted_none n one many h = rw (eq-eqb n 0 h)

pub counted_one : (n one many : ℕ) → n ≡ 1 → spaced (counted n one many) ≡ said n ++ spaced (one ∷ [])
unfolding counted said
counted_one n one many h = rw h (spaced_append (number_codes 1) (one ∷ []))

pub counted_many : (n one many : ℕ) → (n ≡ 0 → ⊥) → (n ≡ 1 → ⊥) → spaced (counted n one many) ≡ said n ++ spaced (many ∷ [])
unfolding counted said
counted_many n one many h g = rw (ne_eqb n 0 h, ne_eqb n 1 g) (spaced_append (number_codes n) (many ∷ []))

pub lasting_parts :
    (s : ℕ)
    → lasting s
    ≡ ((spaced (counted (s / 86_400) day days) ++ spaced (counted (s / 3_600 % 24) hour hours))
    ++ spaced (counted (s / 60 % 60) minute minutes))
    ++ spaced (counted (s % 60) second seconds)
unfolding lasting duration_codes
lasting_parts s = simp (spaced_append, append_assoc)
