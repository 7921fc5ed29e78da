-- The answer for a text, by the tests on the way to it.
use mathlib.Core.Path.{◌≡◌}
use mathlib.Core.Bool.{cond, ◌&&◌}
use mathlib.Core.List.{List}
use Prim.Native.Nat.{ℕ, ◌+◌, ◌<◌}
use native.Mathlib.Omega.{arith}
use lib.IntN.{ℤ}
use lib.ListN.{length, take, drop, drop_of_length-le}
use lib.Seq.{take_all}
use Rattle.text.specs.Answers.{Answer, gives, refuses}
use Rattle.text.specs.Bytes.{spaces, drop_space, all_space}
use Rattle.text.specs.Logic.{by_test, cond_cases}
use Rattle.text.proofs.Laws.{all_spaces, not_all_spaces}
use Rattle.time.specs.Time.{form, has_form, stamp_of, is_stamp, instant_of, stamp_time, time_of}
use Rattle.time.proofs.Forms.{form_length}

-- a text is a time, or it is refused with 18
pub time_cases : (l : List ℕ) (P : Answer ℤ → Type 0) → ((z : ℤ) → P (gives z)) → P (refuses 18 0) → P (time_of l)
unfolding time_of stamp_time
time_cases l P f g =
    let s = take (length form) (drop_space l) in
    cond_cases P (all_space (drop (length form) (drop_space l))) (stamp_time s) (refuses 18 0)
    (λ t. cond_cases P (has_form form s && is_stamp (stamp_of s)) (gives (instant_of (stamp_of s))) (refuses 18 0) (λ u. f (instant_of (stamp_of s))) (λ u. g))
    (λ t. g)

-- fewer bytes than the form has
stamp_short : (l : List ℕ) → length l < 25 → refuses 18 0 ≡ stamp_time l
unfolding stamp_time
stamp_short l h = by_test (has_form form l) (λ e. absurd (omega (arith, form_length form l e))) (λ e. rw e)

-- ---- the white space around them: s is what stands after the white space before the time, and r what stands after the time

module _ (l s : List ℕ) (i : ℕ) (e : i ≡ 0 + spaces l) (d : s ≡ drop i l) where
  time_at : time_of l ≡ cond (all_space (drop 25 s)) (stamp_time (take 25 s)) (refuses 18 0)
  unfolding time_of
  time_at = let p : i ≡ spaces l = omega arith in rw (d, p)

  pub time_short : length s < 25 → refuses 18 0 ≡ time_of l
  time_short h = rw (time_at, drop_of_length-le s {i = 25} (omega arith), take_all 25 s (omega arith)) (stamp_short s h)

  module _ (r : List ℕ) (f : r ≡ drop 25 s) where
    pub time_stray : (0 + spaces r ≡ length r → ⊥) → refuses 18 0 ≡ time_of l
    time_stray n = rw (time_at, ← f, not_all_spaces r (λ k. n (omega arith)))

    pub time_whole : 0 + spaces r ≡ length r → stamp_time (take 25 s) ≡ time_of l
    time_whole g = rw (time_at, ← f, all_spaces r (omega arith))
