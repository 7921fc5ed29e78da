-- Runs of bytes that pass a test: what a turn of a loop over one says, how long a run is, many bytes at once, and what goes on after a run.
use mathlib.Core.Path.{◌≡◌, sym, ap, ◌∙◌}
use mathlib.Core.Bool.{Bool, true, false, ◌&&◌, false≢true}
use mathlib.Core.List.{List, [], ◌∷◌}
use Prim.Native.Nat.{ℕ, zero, suc, ◌+◌, ◌≤◌, ◌<◌, zero-le, suc-le-suc}
use native.Mathlib.Numerals.{add-one}
use native.Mathlib.Omega.{arith}
use lib.Dec.{eqb, leb, leb-zero, leb-suc-zero, leb-suc-suc}
use lib.ListN.{length, get_or, drop, drop_of_length-le, length-drop}
use lib.Seq.{drop-cons, drop-drop, get_or-drop}
use borrow.Author.Tests.{ne_eqb}
use Rattle.text.specs.Bytes.{leading, led_by}
use Rattle.text.specs.Logic.{by_test, and_comm}

-- what stands at an offset, by its first byte
pub drop_next : (s : List ℕ) (i : ℕ) → i < length s → drop i s ≡ get_or s i 0 ∷ drop (i + 1) s
drop_next s i h = rw (add-one i) (drop-cons s i 0 h)

-- the byte at an offset leads what stands there
pub led_is : (p : ℕ → Bool) (s : List ℕ) (i : ℕ) {t : Bool} → i < length s → t ≡ p (get_or s i 0) → t ≡ led_by p (drop i s)
led_is p s i h q = rw (drop_next s i h) q

-- a byte that passes a test is none that fails it
pub other_byte : (p : ℕ → Bool) (b k : ℕ) → p k ≡ false → p b ≡ true → eqb b k ≡ false
other_byte p b k f t = ne_eqb b k (λ e. false≢true (sym f ∙ (sym (ap p e) ∙ t)))

-- ---- a loop that goes on while bytes pass: at i, with t what the test of the byte there gave, the run's end e is still ahead, or reached

module _ (p : ℕ → Bool) (s : List ℕ) (i e : ℕ) (v : i + leading p (drop i s) ≡ e) where
  pub run_on : {t : Bool} → i < length s → t ≡ p (get_or s i 0) → t ≡ true → i + 1 + leading p (drop (i + 1) s) ≡ e
  run_on h q r = rw (add-one i) (omega (arith, v, rw (drop-cons s i 0 h, ← q, r) at v))

  pub run_stop : {t : Bool} → i < length s → t ≡ p (get_or s i 0) → t ≡ false → i ≡ e
  run_stop h q r = omega (arith, rw (drop-cons s i 0 h, ← q, r) at v)

  pub run_end : length s ≤ i → i ≡ e
  run_end h = omega (arith, rw (drop_of_length-le s h) at v)

-- ---- how long a run is

pub run_le : (p : ℕ → Bool) (l : List ℕ) → leading p l ≤ length l
run_le p [] = zero-le
run_le p (b ∷ l) = by_test (p b) (λ e. rw e (suc-le-suc (run_le p l))) (λ e. rw e zero-le)

-- a run from an offset of a list ends within it
pub run_within : (p : ℕ → Bool) (s : List ℕ) (i : ℕ) → i ≤ length s → i + leading p (drop i s) ≤ length s
run_within p s i h = omega (arith, run_le p (drop i s), length-drop i s)

-- a run has more than i bytes if it has i and the next one passes
longer : (p : ℕ → Bool) (i : ℕ) (l : List ℕ) → i < length l → leb i (leading p l) && p (get_or l i 0) ≡ leb (suc i) (leading p l)
longer p i [] h = absurd (omega arith)
longer p zero (b ∷ l) h = by_test (p b) (λ e. rw (e, leb-suc-suc 0 (leading p l), leb-zero (leading p l), leb-zero (suc (leading p l)))) (λ e. rw e)
longer p (suc i) (b ∷ l) h =
    by_test (p b)
    (λ e. rw (e, leb-suc-suc i (leading p l), leb-suc-suc (suc i) (leading p l)) (longer p i l (omega arith)))
    (λ e. rw (e, leb-suc-zero i, leb-suc-zero (suc i)))

pub run_longer :
    (p : ℕ → Bool) (s : List ℕ) (at i : ℕ) {r t : Bool} → at + i < length s → r ≡ leb i (leading p (drop at s)) → t ≡ p (get_or s (at + i) 0)
    → r && t ≡ leb (i + 1) (leading p (drop at s))
run_longer p s at i h x y = rw (x, y, add-one i, ← get_or-drop at s i 0) (longer p i (drop at s) (omega (arith, length-drop at s)))

-- n bytes lead by two tests if n lead by each
pub run_both : (p q : ℕ → Bool) (n : ℕ) (l : List ℕ) → leb n (leading (λ b. p b && q b) l) ≡ leb n (leading p l) && leb n (leading q l)
run_both p q zero l = rw (leb-zero (leading (λ b. p b && q b) l), leb-zero (leading p l), leb-zero (leading q l))
run_both p q (suc n) [] = rw (leb-suc-zero n)
run_both p q (suc n) (b ∷ l) =
    by_test (p b)
    (λ e. by_test (q b)
    (λ d. rw (e, d, leb-suc-suc n (leading (λ b. p b && q b) l), leb-suc-suc n (leading p l), leb-suc-suc n (leading q l)) (run_both p q n l))
    (λ d. rw (e, d, leb-suc-zero n, leb-suc-suc n (leading p l)) (and_comm false (leb n (leading p l)))))
    (λ e. rw (e, leb-suc-zero n))

-- ---- a part of a run

-- after a part of a run stands its rest
pub run_rest : (p : ℕ → Bool) (k : ℕ) (l : List ℕ) → k ≤ leading p l → leading p l ≡ k + leading p (drop k l)
run_rest p zero l h = omega arith
run_rest p (suc k) [] h = absurd (omega arith)
run_rest p (suc k) (b ∷ l) h =
    by_test (p b)
    (λ e. rw e (omega (arith, run_rest p k l (omega (arith, rw e at h)))))
    (λ e. absurd (omega (arith, rw e at h)))

pub run_part : (p : ℕ → Bool) (s : List ℕ) (i k : ℕ) → k ≤ leading p (drop i s) → i + leading p (drop i s) ≡ i + k + leading p (drop (i + k) s)
run_part p s i k h = omega (arith, rw (drop-drop k i s) at (run_rest p k (drop i s) h))

-- ---- after a run

module _ {A : Type 0} (p : ℕ → Bool) (f : ℕ → List ℕ → A) (step : (i b : ℕ) (m : List ℕ) → p b ≡ true → f i (b ∷ m) ≡ f (i + 1) m) where
  over : (i : ℕ) (m : List ℕ) → f i m ≡ f (i + leading p m) (drop (leading p m) m)
  over i [] = ap (λ (k : ℕ). f k []) (omega arith)
  over i (b ∷ m) =
      by_test (p b)
      (λ e. rw e (step i b m e ∙ (over (i + 1) m ∙ ap (λ (k : ℕ). f k (drop (leading p m) m)) (omega arith))))
      (λ e. rw e (ap (λ (k : ℕ). f k (b ∷ m)) (omega arith)))

  -- what a byte that passes doesn't change is after a run what it is before it
  pub over_run : (s : List ℕ) (i : ℕ) → f i (drop i s) ≡ f (i + leading p (drop i s)) (drop (i + leading p (drop i s)) s)
  over_run s i = over i (drop i s) ∙ ap (f (i + leading p (drop i s))) (drop-drop (leading p (drop i s)) i s)
