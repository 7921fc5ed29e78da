-- What document 01 asks to be proved of the cosine table: its ends, that it falls strictly, and that the squares of entries i and 900 - i sum to
-- within 1,414,215 of 10^12.
-- Each is one test that is computed over the whole table, and a law that carries it to an entry.
use mathlib.Core.Path.{◌≡◌, refl}
use mathlib.Core.Bool.{Bool, ◌&&◌}
use Prim.Native.Nat.{ℕ, suc, ◌+◌, ◌-◌, ◌*◌, ◌≤◌, ◌<◌}
use native.Mathlib.Omega.{arith}
use borrow.Author.Tests.{leb-true, ltb-true, ltb-false}
use lib.Dec.{T, leb, ltb}
use lib.ListN.{length, get_or, get_or-eq_default}
use Rattle.text.specs.Logic.{below, below_at, and_left, and_right, by_test}
use Rattle.circle.specs.Cosine.{cosines}

abbrev entry : ℕ → ℕ
entry i = get_or cosines i 0

pub entries : length cosines ≡ 901
unfolding cosines
entries = refl

pub ends : (entry 0 ≡ 1_000_000) × (entry 900 ≡ 0)
unfolding cosines
ends = (refl, refl)

-- ---- strictly falling

falls_at : ℕ → Bool
falls_at i = ltb (entry (suc i)) (entry i)

falls : T (below 900 falls_at)
unfolding cosines falls_at
falls = tt

pub falling : (i : ℕ) → i < 900 → entry (suc i) < entry i
unfolding falls_at
falling i h = ltb-true (entry (suc i)) (entry i) (below_at 900 falls_at falls i h)

-- ---- the sum of squares

abbrev squares : ℕ → ℕ
squares i = entry i * entry i + entry (900 - i) * entry (900 - i)

within_at : ℕ → Bool
within_at i = leb (squares i) 1_000_001_414_215 && leb 1_000_000_000_000 (squares i + 1_414_215)

within : T (below 901 within_at)
unfolding cosines within_at
within = tt

pub squares_near : (i : ℕ) → i < 901 → (squares i ≤ 1_000_001_414_215) × (1_000_000_000_000 ≤ squares i + 1_414_215)
unfolding within_at
squares_near i h =
    let low = leb (squares i) 1_000_001_414_215 in
    let high = leb 1_000_000_000_000 (squares i + 1_414_215) in
    let e = below_at 901 within_at within i h in
    (leb-true _ _ (and_left low high e), leb-true _ _ (and_right low high e))

-- ---- no entry is above 10^6

low_at : ℕ → Bool
low_at i = leb (entry i) 1_000_000

low : T (below 901 low_at)
unfolding cosines low_at
low = tt

pub entry_le : (i : ℕ) → entry i ≤ 1_000_000
unfolding low_at
entry_le i =
    by_test (ltb i 901) (λ e. leb-true _ _ (below_at 901 low_at low i (ltb-true i 901 e)))
    (λ e. rw (get_or-eq_default cosines 0 {n = i} (rw entries (ltb-false i 901 e))) (omega arith))
