-- The answers to writing a name, and how long names are.
use mathlib.Core.Path.{◌≡◌, refl}
use mathlib.Core.Bool.{Bool}
use mathlib.Core.List.{List, []}
use Prim.Native.Nat.{ℕ, ◌≤◌, ◌<◌}
use native.Mathlib.Omega.{arith}
use lib.Dec.{leb, ltb}
use lib.ListN.{length, get_or-eq_default}
use borrow.Author.Tests.{leb-true, ltb-true, ltb-false, lt-ltb}
use Rattle.text.specs.Answers.{Answer, refuses}
use Rattle.text.specs.Logic.{by_test, below_at}
use Rattle.buffer.specs.Writing.{write_text, after_text}
use Rattle.refusals.specs.Names.{names, name_of, naming, after_name}

-- a number that has a name, which was written
pub named :
    (d : List ℕ) (at n : ℕ) {a : Answer ℕ} {e : List ℕ} → 0 < length (name_of n)
    → (a ≡ write_text d at (name_of n)) × (e ≡ after_text d at (name_of n)) → (a ≡ naming d at n) × (e ≡ after_name d at n)
unfolding naming after_name
named d at n h w = rw (lt-ltb 0 (length (name_of n)) h) w

-- a number that has none
pub unnamed : (d : List ℕ) (at n : ℕ) → length (name_of n) ≡ 0 → (refuses 21 0 ≡ naming d at n) × (d ≡ after_name d at n)
unfolding naming after_name
unnamed d at n e = rw e (refl, refl)

-- no number from 25 on has one
pub no_name : (n : ℕ) → 25 ≤ n → length (name_of n) ≡ 0
unfolding names name_of
no_name n h = rw (get_or-eq_default names [] {n = n} h)

-- ---- WARNBOX_LONGEST_NAME of the header is room for every name

abbrev is_short : ℕ → Bool
is_short n = leb (length (name_of n)) 64

pub name_le : (n : ℕ) → length (name_of n) ≤ 64
unfolding names name_of
name_le n =
    by_test (ltb n 25)
    (λ e. leb-true (length (name_of n)) 64 (below_at 25 is_short tt n (ltb-true n 25 e)))
    (λ e. rw (no_name n (ltb-false n 25 e)) (omega arith))
