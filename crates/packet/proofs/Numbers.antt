-- Big-endian numbers, over their width: one byte more, and the bound.
use mathlib.Core.Path.{◌≡◌, refl, ap, ◌∙◌}
use mathlib.Core.List.{List, [], ◌∷◌, ◌++◌}
use Prim.Native.Nat.{ℕ, zero, suc, ◌+◌, ◌*◌, ◌^◌, ◌≤◌, ◌<◌}
use native.Mathlib.Nat.{pow-suc, mul_comm}
use native.Mathlib.Numerals.{add-one}
use native.Mathlib.Omega.{arith}
use borrow.Author.Tests.{ltb-true, ltb-false}
use lib.Dec.{ltb}
use lib.ListN.{length, get_or, take, drop, length-drop}
use lib.Seq.{take-suc, take_all, get_or-drop, drop-cons, length-take-le}
use mir.Syntax.{w16, w32, w64}
use Rattle.std.specs.Int.{from_be_bytes}
use Rattle.text.specs.Logic.{by_test}
use Rattle.packet.specs.BigEndian.{big_endian_from, big_endian, number_of}

-- every element of a list is a byte
abbrev pub Bytes : List ℕ → Type 0
Bytes p = (k : ℕ) → get_or p k 0 < 256

-- ---- a number of i bytes and one byte more

module _ (n i b : ℕ) (h : n < 256 ^ i) (g : b < 256) where
  more_lt : n * 256 + b < 256 ^ (i + 1)
  more_lt = rw (add-one i, pow-suc) (omega arith)

-- ---- the number of `width` bytes

from_more : (n b : ℕ) (l : List ℕ) → big_endian_from n (l ++ (b ∷ [])) ≡ 0x100 * big_endian_from n l + b
unfolding big_endian_from
from_more n b [] = refl
from_more n b (a ∷ l) = from_more (0x100 * n + a) b l

module _ (p : List ℕ) (at : ℕ) where
  pub number_none : number_of 0 at p ≡ 0
  unfolding number_of big_endian_from
  number_none = refl

  pub number_more : (i : ℕ) → at + i < length p → number_of (i + 1) at p ≡ number_of i at p * 256 + get_or p (at + i) 0
  unfolding number_of
  number_more i h =
      ap (λ (k : ℕ). big_endian (take k (drop at p))) (add-one i)
      ∙ ap big_endian (take-suc (drop at p) i 0 (rw (length-drop at p) (omega arith)))
      ∙ from_more 0 (get_or (drop at p) i 0) (take i (drop at p))
      ∙ rw (get_or-drop at p i 0, mul_comm 256)

  -- a reader that has read i bytes, at most `width`, and goes on no more, has read them all
  pub number_whole : (n i width : ℕ) → i ≤ width → width ≤ i → n ≡ number_of i at p → n < 256 ^ i → (n ≡ number_of width at p) × (n < 256 ^ width)
  number_whole n i width h g e l = let q : i ≡ width = omega arith in (rw (← q) e, rw (← q) l)

  -- where the list has ended, a width more adds nothing
  number_end : (i : ℕ) → length p ≤ at + i → number_of (i + 1) at p ≡ number_of i at p
  unfolding number_of
  number_end i h =
      let g : length (drop at p) ≤ i = rw (length-drop at p) (omega arith) in
      rw (take_all (i + 1) (drop at p) (omega arith), take_all i (drop at p) g)

  number_lt_more : Bytes p → (i : ℕ) → number_of i at p < 256 ^ i → number_of (i + 1) at p < 256 ^ (i + 1)
  number_lt_more bytes i h =
      by_test (ltb (at + i) (length p))
      (λ t. rw (number_more i (ltb-true (at + i) (length p) t)) (more_lt (number_of i at p) i (get_or p (at + i) 0) h (bytes (at + i))))
      (λ t. rw (number_end i (ltb-false (at + i) (length p) t)) (omega (arith, more_lt (number_of i at p) i 0 h (omega arith))))

  -- a number of `width` bytes is below 256 ^ width
  pub number_lt : Bytes p → (width : ℕ) → number_of width at p < 256 ^ width
  number_lt bytes zero = rw number_none (omega arith)
  number_lt bytes (suc i) = rw (← add-one i) (number_lt_more bytes i (number_lt bytes i))

-- ---- the library's big-endian numbers

of_two : (l : List ℕ) → length l ≡ 2 → from_be_bytes w16 l ≡ big_endian l
unfolding big_endian_from
of_two (a ∷ b ∷ []) q = omega arith
of_two [] q = absurd (omega arith)
of_two (a ∷ []) q = absurd (omega arith)
of_two (a ∷ b ∷ c ∷ l) q = absurd (omega arith)

of_four : (l : List ℕ) → length l ≡ 4 → from_be_bytes w32 l ≡ big_endian l
unfolding big_endian_from
of_four (a ∷ b ∷ c ∷ d ∷ []) q = omega arith
of_four [] q = absurd (omega arith)
of_four (a ∷ []) q = absurd (omega arith)
of_four (a ∷ b ∷ []) q = absurd (omega arith)
of_four (a ∷ b ∷ c ∷ []) q = absurd (omega arith)
of_four (a ∷ b ∷ c ∷ d ∷ e ∷ l) q = absurd (omega arith)

of_eight : (l : List ℕ) → length l ≡ 8 → from_be_bytes w64 l ≡ big_endian l
unfolding big_endian_from
of_eight (a ∷ b ∷ c ∷ d ∷ e ∷ f ∷ g ∷ h ∷ []) q = omega arith
of_eight [] q = absurd (omega arith)
of_eight (a ∷ []) q = absurd (omega arith)
of_eight (a ∷ b ∷ []) q = absurd (omega arith)
of_eight (a ∷ b ∷ c ∷ []) q = absurd (omega arith)
of_eight (a ∷ b ∷ c ∷ d ∷ []) q = absurd (omega arith)
of_eight (a ∷ b ∷ c ∷ d ∷ e ∷ []) q = absurd (omega arith)
of_eight (a ∷ b ∷ c ∷ d ∷ e ∷ f ∷ []) q = absurd (omega arith)
of_eight (a ∷ b ∷ c ∷ d ∷ e ∷ f ∷ g ∷ []) q = absurd (omega arith)
of_eight (a ∷ b ∷ c ∷ d ∷ e ∷ f ∷ g ∷ h ∷ i ∷ l) q = absurd (omega arith)

module _ (p : List ℕ) (at : ℕ) where
  part_length : (width : ℕ) → at + width ≤ length p → length (take width (drop at p)) ≡ width
  part_length width h = length-take-le width (drop at p) (rw (length-drop at p) (omega arith))

  pub number_one : at < length p → get_or p at 0 ≡ number_of 1 at p
  unfolding number_of big_endian_from
  number_one h = rw (drop-cons p at 0 h) (omega arith)

  -- what the library reads from the bytes from an offset on
  module _ (x : ℕ) (l : List ℕ) where
    pub number_two : x ≡ from_be_bytes w16 l → l ≡ take 2 (drop at p) → at + 2 ≤ length p → x ≡ number_of 2 at p
    unfolding number_of
    number_two e f h = e ∙ of_two l (ap length f ∙ part_length 2 h) ∙ ap big_endian f

    pub number_four : x ≡ from_be_bytes w32 l → l ≡ take 4 (drop at p) → at + 4 ≤ length p → x ≡ number_of 4 at p
    unfolding number_of
    number_four e f h = e ∙ of_four l (ap length f ∙ part_length 4 h) ∙ ap big_endian f

    pub number_eight : x ≡ from_be_bytes w64 l → l ≡ take 8 (drop at p) → at + 8 ≤ length p → x ≡ number_of 8 at p
    unfolding number_of
    number_eight e f h = e ∙ of_eight l (ap length f ∙ part_length 8 h) ∙ ap big_endian f
