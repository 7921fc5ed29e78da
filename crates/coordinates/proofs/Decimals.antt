-- A decimal, by each way through its reader: the definition's value from what was found at the digits, at the point and at the digits after it.
use mathlib.Core.Path.{◌≡◌, sym, ap}
use mathlib.Core.Bool.{true, false, ◌&&◌}
use mathlib.Core.List.{List}
use Prim.Native.Char.{code}
use Prim.Native.Nat.{ℕ, ◌+◌, ◌-◌, ◌*◌, ◌^◌, ◌≤◌, ◌<◌}
use native.Mathlib.Nat.{add-zero, zero-mul, pos_of_ne-zero}
use native.Mathlib.Omega.{arith}
use borrow.Author.Tests.{eq-eqb, ne_eqb, le-leb, lt-leb}
use lib.Dec.{eqb, leb}
use lib.ListN.{length, drop}
use lib.Seq.{drop-drop}
use Rattle.std.specs.Prelude.{Some, None}
use Rattle.text.specs.Answers.{gives, refuses}
use Rattle.text.specs.Bytes.{digits, number_from}
use Rattle.coordinates.proofs.Arms.{some_arm, none_arm}
use Rattle.coordinates.specs.Decimal.{leads, after_whole, has_point, places, fraction, decimal_length, is_decimal, scaled, decimal_at, radius_of}
use Rattle.coordinates.specs.Run.{run_of}
use Rattle.coordinates.proofs.Runs.{Ran, ran, ran_long, ran_count}

-- ---- the reader's answers, with the runs as they were read

module _ (s : List ℕ) (at w f : ℕ) where
  pub too_long : run_of w at (drop at s) ≡ None → None ≡ decimal_at w f at (drop at s)
  unfolding decimal_at is_decimal
  too_long r = let h = ran_long w at (drop at s) r in rw (le-leb 1 (digits (drop at s)) (omega arith), lt-leb (digits (drop at s)) w h)

  module _ (u p : ℕ) (r : run_of w at (drop at s) ≡ Some (u, p)) where
    found : Ran w at (drop at s) u p
    found = ran w at (drop at s) u p r

    pub no_digits : p ≡ at → None ≡ decimal_at w f at (drop at s)
    unfolding decimal_at is_decimal
    no_digits e = rw (lt-leb 1 (digits (drop at s)) (omega (arith, found.end)))

    module _ (n : p ≡ at → ⊥) (a : ℕ) (h : a ≡ u * 10 ^ f) where
      fits : leb 1 (digits (drop at s)) && leb (digits (drop at s)) w ≡ true
      fits = rw (le-leb 1 (digits (drop at s)) (pos_of_ne-zero (λ z. n (omega (arith, found.end)))), le-leb (digits (drop at s)) w found.few)

      after : drop p s ≡ after_whole (drop at s)
      after = rw found.end (sym (drop-drop (digits (drop at s)) at s))

      pub no_point : leads (code ".") (drop p s) ≡ false → Some (a, p) ≡ decimal_at w f at (drop at s)
      unfolding decimal_at is_decimal decimal_length scaled places fraction number_from
      no_point e =
          let t : has_point (drop at s) ≡ false = rw after at e in
          rw (h, found.value, found.end, fits, t, zero-mul, add-zero)

      module _ (e : leads (code ".") (drop p s) ≡ true) where
        pointed : has_point (drop at s) ≡ true
        pointed = rw after at e

        part : drop 1 (after_whole (drop at s)) ≡ drop (p + 1) s
        part = rw (← after) (drop-drop 1 p s)

        pub part_too_long : run_of f (p + 1) (drop (p + 1) s) ≡ None → None ≡ decimal_at w f at (drop at s)
        unfolding decimal_at is_decimal places
        part_too_long r₂ =
            let m = ran_long f (p + 1) (drop (p + 1) s) r₂ in
            rw (fits, pointed, part, le-leb 1 (digits (drop (p + 1) s)) (omega arith), lt-leb (digits (drop (p + 1) s)) f m)

        module _ (v q : ℕ) (r₂ : run_of f (p + 1) (drop (p + 1) s) ≡ Some (v, q)) where
          parts : Ran f (p + 1) (drop (p + 1) s) v q
          parts = ran f (p + 1) (drop (p + 1) s) v q r₂

          pub part_no_digits : q ≡ p + 1 → None ≡ decimal_at w f at (drop at s)
          unfolding decimal_at is_decimal places
          part_no_digits z = rw (fits, pointed, part, lt-leb 1 (digits (drop (p + 1) s)) (omega (arith, parts.end)))

          pub with_part : (q ≡ p + 1 → ⊥) → (b : ℕ) → b ≡ v * 10 ^ (f - (q - (p + 1))) → Some (a + b, q) ≡ decimal_at w f at (drop at s)
          unfolding decimal_at is_decimal decimal_length scaled places fraction
          with_part m b g =
              let k : 1 ≤ digits (drop (p + 1) s) = pos_of_ne-zero (λ z. m (omega (arith, parts.end))) in
              let x : q ≡ at + (digits (drop at s) + (1 + digits (drop (p + 1) s))) = omega (arith, found.end, parts.end) in
              rw (h, g, ran_count f (p + 1) (drop (p + 1) s) v q r₂, found.value, parts.value, x, fits, pointed, part)
              (rw (le-leb 1 (digits (drop (p + 1) s)) k, le-leb (digits (drop (p + 1) s)) f parts.few))

-- ---- what a decimal that was read says

-- v is the number that the decimal at offset i writes, in units of its f-th decimal place, and e the offset after it
pub record DecimalRead (w f i : ℕ) (l : List ℕ) (v e : ℕ) : Type 0 where
  pub is : is_decimal w f l ≡ true
  pub value : v ≡ scaled f l
  pub end : e ≡ i + decimal_length l

module _ (w f i : ℕ) (l : List ℕ) where
  pub decimal_read : (v e : ℕ) → decimal_at w f i l ≡ Some (v, e) → DecimalRead w f i l v e
  unfolding decimal_at
  decimal_read v e q = let (t, p) = some_arm _ (is_decimal w f l) (v, e) q in record { is = t; value = sym (ap (λ r. r.0) p); end = sym (ap (λ r. r.1) p) }

  pub no_decimal_read : decimal_at w f i l ≡ None → is_decimal w f l ≡ false
  unfolding decimal_at
  no_decimal_read q = none_arm _ (is_decimal w f l) q

-- ---- a radius that is the whole text

module _ (l : List ℕ) (v e : ℕ) (q : decimal_at 5 3 0 l ≡ Some (v, e)) where
  radius_read : DecimalRead 5 3 0 l v e
  radius_read = decimal_read 5 3 0 l v e q

  pub radius_part : (e ≡ length l → ⊥) → refuses 22 0 ≡ radius_of l
  unfolding radius_of
  radius_part n = rw (radius_read.is, ne_eqb (decimal_length l) (length l) (λ p. n (omega (arith, radius_read.end, p))))

  module _ (n : e ≡ length l) where
    ended : eqb (decimal_length l) (length l) ≡ true
    ended = eq-eqb (decimal_length l) (length l) (omega (arith, radius_read.end))

    pub radius_beyond : 20_000_000 < v → refuses 22 0 ≡ radius_of l
    unfolding radius_of
    radius_beyond h = rw (radius_read.is, ended, lt-leb (scaled 3 l) 20_000_000 (rw radius_read.value at h))

    pub radius_whole : v ≤ 20_000_000 → gives v ≡ radius_of l
    unfolding radius_of
    radius_whole h = rw (radius_read.is, ended, le-leb (scaled 3 l) 20_000_000 (rw radius_read.value at h), radius_read.value)
