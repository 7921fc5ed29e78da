-- Pairs that lead a text, by each way through their reader, and pairs that are a whole text.
use mathlib.Core.Path.{◌≡◌, sym, ap, ◌∙◌}
use mathlib.Core.Bool.{true, false, ◌&&◌}
use mathlib.Core.List.{List}
use Prim.Native.Char.{code}
use Prim.Native.Nat.{ℕ, ◌+◌, ◌<◌}
use native.Mathlib.Omega.{arith}
use borrow.Author.Tests.{eq-eqb, ne_eqb}
use lib.Dec.{eqb}
use lib.IntN.{ℤ}
use lib.Signed.{mag}
use lib.ListN.{length, drop}
use lib.Seq.{drop-drop}
use mir.Syntax.{w32}
use Rattle.std.specs.Prelude.{Some, None}
use Rattle.text.specs.Answers.{Answer, gives, refuses}
use Rattle.text.specs.Logic.{cond_cases}
use Rattle.coordinates.proofs.Arms.{some_arm, none_arm}
use Rattle.integers.specs.Bits.{read, read_given}
use Rattle.coordinates.specs.Decimal.{leads}
use Rattle.coordinates.specs.Place.{latitude_limit, longitude_limit, coordinate_length, coordinate_at, after_comma, is_pair, pair_value, pair_length, pair_at, pair_of}
use Rattle.coordinates.specs.declared.Place.{Place}
use Rattle.coordinates.proofs.Coordinates.{Measured, measured, not_measured}

-- ---- a pair that leads the text from offset i on

module _ (s : List ℕ) (i : ℕ) where
  pub no_latitude : coordinate_at latitude_limit i (drop i s) ≡ None → None ≡ pair_at i (drop i s)
  unfolding pair_at
  no_latitude q = rw (not_measured latitude_limit i (drop i s) q)

  module _ (y : ℤ) (e : ℕ) (q : coordinate_at latitude_limit i (drop i s) ≡ Some (y, e)) where
    latitude : Measured latitude_limit i (drop i s) y e
    latitude = measured latitude_limit i (drop i s) y e q

    comma : drop (coordinate_length (drop i s)) (drop i s) ≡ drop e s
    comma = drop-drop (coordinate_length (drop i s)) i s ∙ ap (λ (k : ℕ). drop k s) (sym latitude.end)

    rest : after_comma (drop i s) ≡ drop (e + 1) s
    rest =
        let n : i + (coordinate_length (drop i s) + 1) ≡ e + 1 = omega (arith, latitude.end) in
        drop-drop (coordinate_length (drop i s) + 1) i s ∙ ap (λ (k : ℕ). drop k s) n

    pub no_comma : leads (code ",") (drop e s) ≡ false → None ≡ pair_at i (drop i s)
    unfolding pair_at
    no_comma h = rw (latitude.is, comma, h)

    module _ (h : leads (code ",") (drop e s) ≡ true) where
      pub no_longitude : coordinate_at longitude_limit (e + 1) (drop (e + 1) s) ≡ None → None ≡ pair_at i (drop i s)
      unfolding pair_at
      no_longitude d = rw (latitude.is, comma, h, rest, not_measured longitude_limit (e + 1) (drop (e + 1) s) d)

      pub both :
          (x : ℤ) (k : ℕ) → coordinate_at longitude_limit (e + 1) (drop (e + 1) s) ≡ Some (x, k) → mag y < 2_147_483_648
          → mag x < 2_147_483_648 → Some (record { lat = read w32 y; lon = read w32 x }, k) ≡ pair_at i (drop i s)
      unfolding pair_at
      both x k d gy gx =
          let m = measured longitude_limit (e + 1) (drop (e + 1) s) x k d in
          let n : i + (coordinate_length (drop i s) + 1 + coordinate_length (drop (e + 1) s)) ≡ k = omega (arith, latitude.end, m.end) in
          rw (latitude.is, comma, h, rest, m.is, n, ← latitude.value, ← m.value) (simp (read_given w32))

-- ---- what a pair that was read says

-- p is the pair at offset i, and e the offset after it
pub record Paired (i : ℕ) (l : List ℕ) (p : Place) (e : ℕ) : Type 0 where
  pub is : is_pair l ≡ true
  pub value : p ≡ pair_value l
  pub end : e ≡ i + pair_length l

module _ (i : ℕ) (l : List ℕ) where
  pub paired : (p : Place) (e : ℕ) → pair_at i l ≡ Some (p, e) → Paired i l p e
  unfolding pair_at
  paired p e q = let (t, v) = some_arm _ (is_pair l) (p, e) q in record { is = t; value = sym (ap (λ r. r.0) v); end = sym (ap (λ r. r.1) v) }

  pub not_paired : pair_at i l ≡ None → is_pair l ≡ false
  unfolding pair_at
  not_paired q = none_arm _ (is_pair l) q

-- ---- a pair that is the whole text

-- a text is a pair, or it is refused with 22
pub pair_cases : (l : List ℕ) (P : Answer Place → Type 0) → ((p : Place) → P (gives p)) → P (refuses 22 0) → P (pair_of l)
unfolding pair_of
pair_cases l P f g = cond_cases P (is_pair l && eqb (pair_length l) (length l)) (gives (pair_value l)) (refuses 22 0) (λ t. f (pair_value l)) (λ t. g)

module _ (l : List ℕ) where
  pub no_pair : pair_at 0 l ≡ None → refuses 22 0 ≡ pair_of l
  unfolding pair_of
  no_pair q = rw (not_paired 0 l q)

  module _ (p : Place) (e : ℕ) (q : pair_at 0 l ≡ Some (p, e)) where
    pub pair_part : (e ≡ length l → ⊥) → refuses 22 0 ≡ pair_of l
    unfolding pair_of
    pair_part n =
        let m = paired 0 l p e q in
        rw (m.is, ne_eqb (pair_length l) (length l) (λ z. n (omega (arith, m.end, z))))

    pub pair_whole : e ≡ length l → gives p ≡ pair_of l
    unfolding pair_of
    pair_whole n =
        let m = paired 0 l p e q in
        rw (m.is, eq-eqb (pair_length l) (length l) (omega (arith, m.end)), m.value)
