-- A writer that is lent the part of a buffer from an offset on. `mid_of` and `put_mid` are what the checker calls a lent part, and the buffer with it
-- put back.
use mathlib.Core.Path.{◌≡◌, refl, sym, ap, subst, ◌∙◌}
use mathlib.Core.List.{List, [], ◌∷◌, ◌++◌, append-nil}
use Prim.Native.Nat.{ℕ, zero, suc, ◌+◌, ◌-◌, ◌≤◌, suc-le-suc}
use native.Mathlib.Nat.{le_of_suc-le-suc, not-suc-le-zero, zero-add, suc-add}
use native.Mathlib.Omega.{arith}
use lib.Dec.{ltb}
use lib.ListN.{length, take, drop, set, length-set, length-drop, drop_of_length-le}
use lib.Seq.{take_all}
use borrow.Author.Tests.{ltb-true, ltb-false, lt-ltb, le-ltb}
use borrow.Rule.Slice.PartMut.{put_mid, mid_of}
use Rattle.text.specs.Logic.{by_test, cond_cases}
use Rattle.buffer.specs.Cursor.{Cursor, cursor, put_byte, put_text, Put}

-- ---- a buffer stays as long as it is, and an offset within it stays within it

abbrev Within : ℕ → Cursor → Type 0
Within n (cursor d at) = (length d ≡ n) × (at ≤ n)

byte_within : (n : ℕ) (p : Cursor) (b : ℕ) → Within n p → Within n (put_byte p b)
unfolding put_byte
byte_within n (cursor d at) b h =
    cond_cases (Within n) (ltb at (length d)) (cursor (set d at b) (at + 1)) (cursor d at)
    (λ t. let l = ltb-true at (length d) t in (rw length-set h.0, omega arith))
    (λ t. h)

text_within : (n : ℕ) (p : Cursor) (s : List ℕ) → Within n p → Within n (put_text p s)
unfolding put_text
text_within n p [] h = h
text_within n p (b ∷ s) h = text_within n (put_byte p b) s (byte_within n p b h)

pub put_within : {d s e : List ℕ} {at k : ℕ} → Put d at s e k → at ≤ length d → (length e ≡ length d) × (k ≤ length d)
put_within {d} {s} {e} {at} {k} p h = subst (Within (length d)) (sym p.result) (text_within (length d) (cursor d at) s (refl, h))

-- ---- a byte in front of the buffer

abbrev after : ℕ → Cursor → Cursor
after x (cursor d at) = cursor (x ∷ d) (suc at)

byte_after : (x : ℕ) (p : Cursor) (b : ℕ) → put_byte (after x p) b ≡ after x (put_byte p b)
unfolding put_byte
byte_after x (cursor d at) b =
    by_test (ltb at (length d))
    (λ t. let l = ltb-true at (length d) t in rw (t, lt-ltb (suc at) (suc (length d)) (suc-le-suc l)) (ap (cursor (x ∷ set d at b)) (add_one_suc at)))
    (λ t. let l = ltb-false at (length d) t in rw (t, le-ltb (suc at) (suc (length d)) (suc-le-suc l)))
  where
    add_one_suc : (n : ℕ) → suc n + 1 ≡ suc (n + 1)
    add_one_suc n = omega arith

text_after : (x : ℕ) (p : Cursor) (s : List ℕ) → put_text (after x p) s ≡ after x (put_text p s)
unfolding put_text
text_after x p [] = refl
text_after x p (b ∷ s) = rw (byte_after x p b) (text_after x (put_byte p b) s)

-- ---- the part from k on

lent_text :
    (k : ℕ) (d t f : List ℕ) (r : ℕ)
    → k ≤ length d
    → cursor f r ≡ put_text (cursor (drop k d) 0) t
    → cursor (take k d ++ f) (k + r) ≡ put_text (cursor d k) t
lent_text zero d t f r h p = rw zero-add p
lent_text (suc k) [] t f r h p = absurd (not-suc-le-zero h)
lent_text (suc k) (x ∷ d) t f r h p = rw suc-add (ap (after x) (lent_text k d t f r (le_of_suc-le-suc h) p) ∙ sym (text_after x (cursor d k) t))

module _ (k : ℕ) (d : List ℕ) where
  mid_all : mid_of k (length d - k) d ≡ drop k d
  mid_all = take_all (length d - k) (drop k d) (simp length-drop (omega arith))

  put_mid_lem : (f : List ℕ) → put_mid k (length d - k) d f ≡ take k d ++ f
  put_mid_lem f = rw (drop_of_length-le (drop k d) {i = length d - k} (simp length-drop (omega arith)), append-nil)

  pub lent : {t f : List ℕ} {r : ℕ} → k ≤ length d → Put (mid_of k (length d - k) d) 0 t f r → Put d k t (put_mid k (length d - k) d f) (k + r)
  lent {t} {f} {r} h p = record { result = rw (put_mid_lem f) (lent_text k d t f r h (rw mid_all at p.result)) }

  -- its size, with what stands in front of it, is within the buffer's
  pub lent_within : {t f : List ℕ} {r : ℕ} → k ≤ length d → Put (mid_of k (length d - k) d) 0 t f r → k + r ≤ length d
  lent_within {t} {f} {r} h p =
      let l = rw (mid_all, length-drop) at (put_within p (omega arith)).1 in
      omega arith
