-- The contents of a text, line by line. Every line has a byte, so the text's length is enough to bound the number of its lines.
use mathlib.Core.Path.{◌≡◌, refl, ap, ◌∙◌}
use mathlib.Core.Bool.{true, false, cond}
use mathlib.Core.List.{List, [], ◌∷◌}
use Prim.Native.Nat.{ℕ, zero, suc, ◌+◌, ◌≤◌, ◌<◌}
use native.Mathlib.Omega.{arith}
use lib.ListN.{length, drop, length-drop, drop_of_length-le}
use lib.Seq.{drop-drop}
use Rattle.text.specs.Answers.{Answer, gives, refuses, giving}
use Rattle.sheet.specs.declared.Found.{Found}
use Rattle.sheet.specs.Reading.{found_at, is_line}
use Rattle.sheet.specs.Answers.{line_length, contents_from, contents_of}
use Rattle.sheet.proofs.Lines.{line_some, line_bytes}

-- a sheet in front of others
abbrev pub followed_by : Found → Answer (List Found) → Answer (List Found)
followed_by f c = giving (λ fs. f ∷ fs) c

-- ---- the bound adds nothing

pub contents_enough : (n m i : ℕ) (l : List ℕ) → length l ≤ n → length l ≤ m → contents_from n i l ≡ contents_from m i l
unfolding contents_from
contents_enough zero zero i l p q = refl
contents_enough zero (suc m) i [] p q = refl
contents_enough zero (suc m) i (b ∷ l) p q = absurd (omega arith)
contents_enough (suc n) zero i [] p q = refl
contents_enough (suc n) zero i (b ∷ l) p q = absurd (omega arith)
contents_enough (suc n) (suc m) i [] p q = refl
contents_enough (suc n) (suc m) i (b ∷ l) p q =
    let t = b ∷ l in
    let k = line_length t in
    let h = line_some t in
    ap (λ (c : Answer (List Found)). cond (is_line t) (followed_by (found_at i t) c) (refuses 23 i))
    (contents_enough n m (i + k) (drop k t) (simp length-drop (omega arith)) (simp length-drop (omega arith)))

-- ---- one line

module _ (i : ℕ) where
  pub contents_end : contents_from 0 i [] ≡ gives []
  unfolding contents_from
  contents_end = refl

  pub contents_on :
      (l : List ℕ) → is_line l ≡ true
      → contents_from (length l) i l
      ≡ followed_by (found_at i l) (contents_from (length (drop (line_length l) l)) (i + line_length l) (drop (line_length l) l))
  unfolding contents_from
  contents_on [] e = absurd (omega (arith, line_bytes [] e))
  contents_on (b ∷ l) e =
      let t = b ∷ l in
      let k = line_length t in
      let h = line_some t in
      rw e
      (ap (followed_by (found_at i t))
      (contents_enough (length l) (length (drop k t)) (i + k) (drop k t) (simp length-drop (omega arith)) (omega arith)))

  pub contents_stop : (l : List ℕ) → 0 < length l → is_line l ≡ false → contents_from (length l) i l ≡ refuses 23 i
  unfolding contents_from
  contents_stop [] h e = absurd (omega arith)
  contents_stop (b ∷ l) h e = rw e

-- ---- the same by offsets of a text

-- the contents of the text t from the offset i on
abbrev pub contents_at : List ℕ → ℕ → Answer (List Found)
contents_at t i = contents_from (length (drop i t)) i (drop i t)

module _ (t : List ℕ) where
  pub turn_start : contents_at t 0 ≡ contents_of t
  unfolding contents_of
  turn_start = refl

  pub turn_end : (i : ℕ) → length t ≤ i → contents_at t i ≡ gives []
  turn_end i h = rw (drop_of_length-le t h) (contents_end i)

  pub turn_on : (i : ℕ) → is_line (drop i t) ≡ true → contents_at t i ≡ followed_by (found_at i (drop i t)) (contents_at t (i + line_length (drop i t)))
  turn_on i e =
      let k = line_length (drop i t) in
      contents_on i (drop i t) e
      ∙ ap (λ (l : List ℕ). followed_by (found_at i (drop i t)) (contents_from (length l) (i + k) l)) (drop-drop k i t)

  pub turn_stop : (i : ℕ) → i < length t → is_line (drop i t) ≡ false → contents_at t i ≡ refuses 23 i
  turn_stop i h e = contents_stop i (drop i t) (simp length-drop (omega arith)) e
