-- A coordinate, by each way through its reader: its sign, and its decimal within the limit.
use mathlib.Core.Path.{◌≡◌, refl, sym, ap, ◌∙◌}
use mathlib.Core.Bool.{Bool, true, false, cond, ◌||◌}
use mathlib.Core.List.{List}
use Prim.Native.Char.{code}
use Prim.Native.Nat.{ℕ, ◌+◌, ◌≤◌, ◌<◌}
use native.Mathlib.Omega.{arith}
use borrow.Author.Tests.{eq-eqb, ne_eqb, le-leb, lt-leb}
use lib.ListN.{length, drop}
use lib.Seq.{drop-drop}
use lib.IntN.{ℤ, pos, neg_ℤ, ◌-ℤ◌, +ℤ_idl}
use lib.Signed.{mag}
use mir.Syntax.{w32}
use mir.Val.{SFits, to_z, of_z}
use mir.Facts.{to_z_pos, to_z-of_z}
use Rattle.std.specs.Prelude.{Some, None}
use Rattle.text.specs.Answers.{gives, refuses}
use Rattle.coordinates.proofs.Arms.{some_arm, none_arm}
use Rattle.integers.specs.Magnitude.{abs_neg, signed}
use Rattle.integers.specs.Bits.{read, read_given, fits_abs}
use Rattle.coordinates.specs.Decimal.{leads, scaled, decimal_length, decimal_at}
use Rattle.coordinates.specs.Place.{sign_length, unsigned, is_coordinate, coordinate_value, coordinate_length, coordinate_at, degrees_of}
use Rattle.coordinates.proofs.Decimals.{DecimalRead, decimal_read, no_decimal_read}

-- ---- the sign

-- plus and minus as the bytes at i were tested
module _ (s : List ℕ) (i : ℕ) (plus minus : Bool) (p : plus ≡ leads (code "+") (drop i s)) (m : minus ≡ leads (code "-") (drop i s)) where
  pub sign_some : plus || minus ≡ true → i + 1 ≡ i + sign_length (drop i s)
  sign_some e = rw (rw (p, m) at e)

  pub sign_none : plus || minus ≡ false → i ≡ i + sign_length (drop i s)
  sign_none e = rw (rw (p, m) at e) (omega arith)

module _ (m : ℕ) (h : m ≤ 1_800_000_000) where
  plain : to_z w32 m ≡ pos m
  plain = to_z_pos w32 (omega arith)

  minus : pos 0 -ℤ to_z w32 m ≡ neg_ℤ (pos m)
  minus = rw plain (+ℤ_idl (neg_ℤ (pos m)))

  pub minus_fits : SFits w32 (pos 0 -ℤ to_z w32 m)
  minus_fits = rw minus (fits_abs (rw abs_neg (omega arith)))

  pub minus_is : (b : Bool) → b ≡ true → to_z w32 (of_z w32 (pos 0 -ℤ to_z w32 m)) ≡ signed b m
  minus_is b e = rw e (to_z-of_z minus_fits ∙ minus)

  pub plain_is : (b : Bool) → b ≡ false → to_z w32 m ≡ signed b m
  plain_is b e = rw e plain

-- ---- the reader's answers

signed_is : (b : Bool) (m : ℕ) → signed b m ≡ cond b (neg_ℤ (pos m)) (pos m)
signed_is true m = refl
signed_is false m = refl

module _ (s : List ℕ) (at limit start : ℕ) (b : start ≡ at + sign_length (drop at s)) where
  rest : drop start s ≡ unsigned (drop at s)
  rest = rw b (sym (drop-drop (sign_length (drop at s)) at s))

  pub no_decimal : decimal_at 3 7 start (drop start s) ≡ None → None ≡ coordinate_at limit at (drop at s)
  unfolding coordinate_at
  no_decimal q = rw (rw rest at (no_decimal_read 3 7 start (drop start s) q))

  module _ (m e : ℕ) (q : decimal_at 3 7 start (drop start s) ≡ Some (m, e)) where
    given : DecimalRead 3 7 start (unsigned (drop at s)) m e
    given = rw rest at (decimal_read 3 7 start (drop start s) m e q)

    pub beyond : limit < m → None ≡ coordinate_at limit at (drop at s)
    unfolding coordinate_at
    beyond h = rw (given.is, lt-leb (scaled 7 (unsigned (drop at s))) limit (rw given.value at h))

    pub within_limit :
        m ≤ limit → (minus : Bool) → minus ≡ leads (code "-") (drop at s) → (z : ℤ) → z ≡ signed minus m → mag z < 2_147_483_648
        → Some (read w32 z, e) ≡ coordinate_at limit at (drop at s)
    unfolding coordinate_at
    within_limit h minus p z v g =
        let x : e ≡ at + (sign_length (drop at s) + decimal_length (unsigned (drop at s))) = omega (arith, given.end) in
        rw (given.is, le-leb (scaled 7 (unsigned (drop at s))) limit (rw given.value at h), read_given w32 z g, v, signed_is minus m)
        (rw (p, given.value, x))

-- ---- what a coordinate that was read says

-- z is the coordinate at offset i, and e the offset after it
pub record Measured (limit i : ℕ) (l : List ℕ) (z : ℤ) (e : ℕ) : Type 0 where
  pub is : is_coordinate limit l ≡ true
  pub value : z ≡ coordinate_value l
  pub end : e ≡ i + coordinate_length l

module _ (limit i : ℕ) (l : List ℕ) where
  pub measured : (z : ℤ) (e : ℕ) → coordinate_at limit i l ≡ Some (z, e) → Measured limit i l z e
  unfolding coordinate_at
  measured z e q = let (t, p) = some_arm _ (is_coordinate limit l) (z, e) q in record { is = t; value = sym (ap (λ r. r.0) p); end = sym (ap (λ r. r.1) p) }

  pub not_measured : coordinate_at limit i l ≡ None → is_coordinate limit l ≡ false
  unfolding coordinate_at
  not_measured q = none_arm _ (is_coordinate limit l) q

-- ---- a coordinate that is the whole text

module _ (limit : ℕ) (l : List ℕ) where
  pub no_degrees : coordinate_at limit 0 l ≡ None → refuses 22 0 ≡ degrees_of limit l
  unfolding degrees_of
  no_degrees q = rw (not_measured limit 0 l q)

  module _ (z : ℤ) (e : ℕ) (q : coordinate_at limit 0 l ≡ Some (z, e)) where
    pub degrees_part : (e ≡ length l → ⊥) → refuses 22 0 ≡ degrees_of limit l
    unfolding degrees_of
    degrees_part n =
        let m = measured limit 0 l z e q in
        rw (m.is, ne_eqb (coordinate_length l) (length l) (λ p. n (omega (arith, m.end, p))))

    pub degrees_whole : e ≡ length l → gives z ≡ degrees_of limit l
    unfolding degrees_of
    degrees_whole n =
        let m = measured limit 0 l z e q in
        rw (m.is, eq-eqb (coordinate_length l) (length l) (omega (arith, m.end)), m.value)
