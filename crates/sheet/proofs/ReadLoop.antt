-- The loop over a text that counts its read-backs and keeps the one asked for: one law for each way through its body and out of it.
use mathlib.Core.Path.{◌≡◌, refl, ap, ap₂, ◌∙◌}
use mathlib.Core.Bool.{true, false, cond}
use mathlib.Core.List.{List}
use mathlib.Core.Option.{Option, none, some}
use Prim.Native.Nat.{ℕ, zero, suc, ◌+◌, ◌-◌, ◌≤◌, ◌<◌}
use native.Mathlib.Omega.{arith}
use native.Mathlib.Nat.{zero-add, add-zero}
use lib.Dec.{leb}
use lib.ListN.{length, drop}
use borrow.Author.Tests.{le-leb, lt-leb, leb-true, leb-false}
use Rattle.text.specs.Answers.{Answer, gives, refuses, answer_and_then}
use Rattle.text.specs.Logic.{by_test}
use Rattle.sheet.specs.declared.Found.{Found}
use Rattle.sheet.specs.Reading.{found_at, is_line}
use Rattle.sheet.specs.Answers.{line_length, pick, asked, read_back}
use Rattle.sheet.proofs.Contents.{followed_by, contents_at, turn_start, turn_end, turn_on, turn_stop}

-- the reader's answer where it was asked for k, is after n read-backs, has o as the one asked for if that is none or among
-- them, and has the contents still to read
unfoldable pub resumed : ℕ → ℕ → Option Found → Answer (List Found) → Answer (ℕ × Option Found)
resumed k n o (gives fs) = cond (leb k n) (gives (n + length fs, o)) (pick (n + length fs) fs (k - (n + 1)))
resumed k n o (refuses m p) = refuses m p

resumed_start : (k : ℕ) (c : Answer (List Found)) → resumed k 0 none c ≡ answer_and_then c (asked k)
unfolding resumed asked
resumed_start zero (gives fs) = ap (λ (m : ℕ). gives (m, none)) (zero-add (length fs))
resumed_start zero (refuses m p) = refl
resumed_start (suc k) (gives fs) =
    let j : suc k - (0 + 1) ≡ k = omega arith in
    rw (lt-leb (suc k) 0 (omega arith)) (ap₂ (λ (m : ℕ) (i : ℕ). pick m fs i) (zero-add (length fs)) j)
resumed_start (suc k) (refuses m p) = refl

past : (k n : ℕ) → n < k → (k ≡ n + 1 → ⊥) → n + 1 < k
past k n h z = omega arith

module _ (k n : ℕ) (o : Option Found) (g : Found) where
  -- a read-back that was not asked for
  resumed_other : (c : Answer (List Found)) → (k ≡ n + 1 → ⊥) → resumed k n o (followed_by g c) ≡ resumed k (n + 1) o c
  unfolding resumed pick
  resumed_other (refuses m p) z = refl
  resumed_other (gives fs) z =
      let m : n + suc (length fs) ≡ n + 1 + length fs = omega arith in
      rw m
      (by_test (leb k n)
      (λ l. rw (l, le-leb k (n + 1) (omega (arith, leb-true k n l))))
      (λ l.
      let h = leb-false k n l in
      let p : n + 1 < k = past k n h z in
      let j : k - (n + 1) ≡ suc (k - (n + 1 + 1)) = omega arith in
      rw (l, lt-leb k (n + 1) p, j)))

  -- the one that was
  resumed_found : (c : Answer (List Found)) → k ≡ n + 1 → resumed k n o (followed_by g c) ≡ resumed k (n + 1) (some g) c
  unfolding resumed pick
  resumed_found (refuses m p) e = refl
  resumed_found (gives fs) e =
      let m : n + suc (length fs) ≡ n + 1 + length fs = omega arith in
      let j : k - (n + 1) ≡ 0 = omega arith in
      rw (m, lt-leb k n (omega arith), le-leb k (n + 1) (omega arith), j)

-- ---- the loop at the offset i, with n read-backs after it

module _ (t : List ℕ) (k : ℕ) where
  pub loop_start : resumed k 0 none (contents_at t 0) ≡ read_back t k
  unfolding read_back
  loop_start = resumed_start k (contents_at t 0) ∙ ap (λ (c : Answer (List Found)). answer_and_then c (asked k)) (turn_start t)

  module _ (i n : ℕ) (o : Option Found) where
    -- a read-back that was not asked for
    pub loop_other :
        is_line (drop i t) ≡ true → (k ≡ n + 1 → ⊥)
        → resumed k n o (contents_at t i) ≡ resumed k (n + 1) o (contents_at t (i + line_length (drop i t)))
    loop_other e z =
        let c = contents_at t (i + line_length (drop i t)) in
        let g = found_at i (drop i t) in
        ap (resumed k n o) (turn_on t i e) ∙ resumed_other k n o g c z

    -- the one that was
    pub loop_found :
        is_line (drop i t) ≡ true → k ≡ n + 1
        → resumed k n o (contents_at t i) ≡ resumed k (n + 1) (some (found_at i (drop i t))) (contents_at t (i + line_length (drop i t)))
    loop_found e q =
        let c = contents_at t (i + line_length (drop i t)) in
        let g = found_at i (drop i t) in
        ap (resumed k n o) (turn_on t i e) ∙ resumed_found k n o g c q

    -- a line that is none
    pub loop_stop : i < length t → is_line (drop i t) ≡ false → resumed k n o (contents_at t i) ≡ refuses 23 i
    unfolding resumed
    loop_stop h e = ap (resumed k n o) (turn_stop t i h e)

    -- the end: the one asked for, or none; asked for 0, the number only
    pub loop_end : length t ≤ i → k ≤ n → resumed k n o (contents_at t i) ≡ gives (n, o)
    unfolding resumed
    loop_end h a = ap (resumed k n o) (turn_end t i h) ∙ rw (le-leb k n a) (ap (λ (m : ℕ). gives (m, o)) (add-zero n))

    pub loop_none : length t ≤ i → n < k → resumed k n o (contents_at t i) ≡ refuses 21 0
    unfolding resumed pick
    loop_none h a = ap (resumed k n o) (turn_end t i h) ∙ rw (lt-leb k n a)
