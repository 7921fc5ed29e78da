-- What leads a text and its first token: no byte of a pair is white space, so digits, decimals, coordinates and pairs end within the token that they
-- lead, and are the same read from the token alone.
use mathlib.Core.Path.{◌≡◌, refl, sym, ap, ◌∙◌}
use mathlib.Core.Bool.{Bool, true, false, not, false≢true, ◌&&◌, ◌||◌}
use mathlib.Core.List.{List, [], ◌∷◌}
use Prim.Native.Char.{code}
use Prim.Native.Nat.{ℕ, zero, suc, ◌+◌, ◌≤◌}
use native.Mathlib.Nat.{le_of_suc-le-suc, not-suc-le-zero}
use native.Mathlib.Omega.{arith}
use borrow.Author.Tests.{eqb-true, eq-eqb, ne_eqb}
use lib.ListN.{length, take, drop}
use lib.Seq.{take-take, length-take-le}
use Rattle.text.specs.Answers.{gives, refuses}
use Rattle.text.specs.Bytes.{is_space, is_digit, digits}
use Rattle.text.specs.Logic.{by_test, and_left, and_right}
use Rattle.text.specs.Tokens.{on_token, token_length}
use Rattle.text.proofs.Laws.{token_le, token_some, no_token}
use Rattle.text.proofs.Runs.{run_rest}
use Rattle.coordinates.specs.Decimal.{leads, whole, after_whole, has_point, places, fraction, decimal_length, is_decimal, scaled}
use Rattle.coordinates.specs.Place.{latitude_limit, longitude_limit, sign_length, unsigned, is_coordinate, coordinate_value, coordinate_length, after_comma, is_pair, pair_value, pair_length, pair_of}
use Rattle.coordinates.proofs.Runs.{digit_ge}

-- ---- the token that leads a text

abbrev not_space : ℕ → Bool
not_space b = not (is_space b)

abbrev pub token : List ℕ → List ℕ
token l = take (token_length l) l

token_length_lem : (l : List ℕ) → length (token l) ≡ token_length l
token_length_lem l = length-take-le (token_length l) l (token_le l)

-- after n of its bytes
token_drop : (n : ℕ) (l : List ℕ) → n ≤ token_length l → drop n (token l) ≡ token (drop n l)
token_drop zero l h = refl
token_drop (suc n) [] h = refl
token_drop (suc n) (b ∷ l) h =
    by_test (is_space b)
    (λ e. absurd (not-suc-le-zero (rw e at h)))
    (λ e. rw e (token_drop n l (le_of_suc-le-suc (rw e at h))))

-- white space or the end stands after all of it, and nowhere before
token_ended : (n : ℕ) (l : List ℕ) → n ≤ token_length l → on_token (drop n l) ≡ false → n ≡ token_length l
token_ended n l h e = omega (arith, run_rest not_space n l h, no_token (drop n l) e)

-- ---- a byte that is no white space, and digits

module _ (b : ℕ) (n : is_space b ≡ false) where
  leads_token : (l : List ℕ) → leads b (token l) ≡ leads b l
  unfolding leads
  leads_token [] = refl
  leads_token (c ∷ l) =
      by_test (is_space c)
      (λ e. rw (e, ne_eqb c b (λ p. false≢true (sym n ∙ ap is_space (sym p) ∙ e))))
      (λ e. rw e)

  leads_within : (l : List ℕ) → leads b l ≡ true → 1 ≤ token_length l
  unfolding leads
  leads_within [] e = absurd (false≢true e)
  leads_within (c ∷ l) e = rw (eqb-true c b e, n) (omega arith)

digit_no_space : (b : ℕ) → is_digit b ≡ true → is_space b ≡ false
digit_no_space b e =
    let h = digit_ge b e in
    rw (ne_eqb b (code "\t") (λ p. omega arith), ne_eqb b (code "\n") (λ p. omega arith))
    (rw (ne_eqb b (code "\r") (λ p. omega arith), ne_eqb b (code " ") (λ p. omega arith)))

digits_token : (l : List ℕ) → digits (token l) ≡ digits l
digits_token [] = refl
digits_token (b ∷ l) =
    by_test (is_digit b)
    (λ e. rw (digit_no_space b e, e, digits_token l))
    (λ e. by_test (is_space b) (λ f. rw (f, e)) (λ f. rw (f, e)))

digits_within_lem : (l : List ℕ) → digits l ≤ token_length l
digits_within_lem [] = omega arith
digits_within_lem (b ∷ l) =
    by_test (is_digit b)
    (λ e. rw (digit_no_space b e, e) (omega (arith, digits_within_lem l)))
    (λ e. rw e (omega arith))

-- ---- a decimal

module _ (l : List ℕ) where
  after_token : after_whole (token l) ≡ token (after_whole l)
  after_token = rw (digits_token l) (token_drop (digits l) l (digits_within_lem l))

  whole_token : whole (token l) ≡ whole l
  whole_token = rw (digits_token l) (take-take (digits l) (token_length l) l (digits_within_lem l))

  point_token : has_point (token l) ≡ has_point l
  point_token = rw after_token (leads_token (code ".") refl (after_whole l))

  module _ (e : has_point l ≡ true) where
    point_within : 1 ≤ token_length (after_whole l)
    point_within = leads_within (code ".") refl (after_whole l) e

    part_token : drop 1 (after_whole (token l)) ≡ token (drop 1 (after_whole l))
    part_token = rw after_token (token_drop 1 (after_whole l) point_within)

  places_token : places (token l) ≡ places l
  unfolding places
  places_token =
      by_test (has_point l)
      (λ e. rw (point_token, e, part_token e, digits_token (drop 1 (after_whole l))))
      (λ e. rw (point_token, e))

  fraction_token : fraction (token l) ≡ fraction l
  unfolding fraction places
  fraction_token =
      by_test (has_point l)
      (λ e.
      let m = drop 1 (after_whole l) in
      rw (point_token, e, part_token e, digits_token m) (take-take (digits m) (token_length m) m (digits_within_lem m)))
      (λ e. rw (point_token, e))

  decimal_within : decimal_length l ≤ token_length l
  unfolding decimal_length places
  decimal_within =
      by_test (has_point l)
      (λ e.
      let r = run_rest not_space (digits l) l (digits_within_lem l) in
      rw e (omega (arith, digits_within_lem (drop 1 (after_whole l)), run_rest not_space 1 (after_whole l) (point_within e))))
      (λ e. rw e (digits_within_lem l))

-- ---- a coordinate

module _ (l : List ℕ) where
  sign_token : sign_length (token l) ≡ sign_length l
  sign_token = rw (leads_token (code "+") refl l, leads_token (code "-") refl l)

  sign_within : sign_length l ≤ token_length l
  sign_within =
      by_test (leads (code "+") l || leads (code "-") l)
      (λ e. rw e (by_test (leads (code "+") l) (leads_within (code "+") refl l) (λ f. leads_within (code "-") refl l (rw f at e))))
      (λ e. rw e (omega arith))

  unsigned_token : unsigned (token l) ≡ token (unsigned l)
  unsigned_token = rw sign_token (token_drop (sign_length l) l sign_within)

  is_token : (limit : ℕ) → is_coordinate limit (token l) ≡ is_coordinate limit l
  unfolding is_decimal scaled
  is_token limit =
      let u = unsigned l in
      rw (unsigned_token, point_token u, whole_token u, fraction_token u, places_token u, digits_token u)

  value_token : coordinate_value (token l) ≡ coordinate_value l
  unfolding scaled
  value_token =
      let u = unsigned l in
      rw (unsigned_token, leads_token (code "-") refl l, whole_token u, fraction_token u, places_token u)

  length_token : coordinate_length (token l) ≡ coordinate_length l
  unfolding decimal_length
  length_token = let u = unsigned l in rw (unsigned_token, sign_token, point_token u, places_token u, digits_token u)

  coordinate_within : coordinate_length l ≤ token_length l
  coordinate_within = omega (arith, decimal_within (unsigned l), run_rest not_space (sign_length l) l sign_within)

-- ---- a pair

module _ (l : List ℕ) where
  abbrev rest : List ℕ
  rest = drop (coordinate_length l) l

  comma_token : leads (code ",") (drop (coordinate_length (token l)) (token l)) ≡ leads (code ",") rest
  comma_token = rw (length_token l, token_drop (coordinate_length l) l (coordinate_within l)) (leads_token (code ",") refl rest)

  module _ (t : leads (code ",") rest ≡ true) where
    comma_within : coordinate_length l + 1 ≤ token_length l
    comma_within = omega (arith, leads_within (code ",") refl rest t, run_rest not_space (coordinate_length l) l (coordinate_within l))

    after_comma_lem : after_comma (token l) ≡ token (after_comma l)
    after_comma_lem = rw (length_token l) (token_drop (coordinate_length l + 1) l comma_within)

  -- the token is a pair exactly where the text is led by one
  pair_token : is_pair (token l) ≡ is_pair l
  pair_token =
      rw (is_token l latitude_limit, comma_token)
      (by_test (leads (code ",") rest)
      (λ t. rw (after_comma_lem t, is_token (after_comma l) longitude_limit))
      (λ t. rw t (and_false (is_coordinate latitude_limit l))))
    where
      and_false :
          (a : Bool) → a && false && is_coordinate longitude_limit (after_comma (token l)) ≡ a && false && is_coordinate longitude_limit (after_comma l)
      and_false true = refl
      and_false false = refl

  -- which is its token where white space or the end follows, and a part of it else
  module _ (p : is_pair l ≡ true) where
    has_comma : leads (code ",") rest ≡ true
    has_comma =
        let a = is_coordinate latitude_limit l in
        let b = leads (code ",") rest in
        and_right a b (and_left (a && b) (is_coordinate longitude_limit (after_comma l)) p)

    pair_within : pair_length l ≤ token_length l
    pair_within = omega (arith, coordinate_within (after_comma l), run_rest not_space (coordinate_length l + 1) l (comma_within has_comma))

    pub pair_end : on_token (drop (pair_length l) l) ≡ false → pair_length l ≡ token_length l
    pair_end t = token_ended (pair_length l) l pair_within t

    same_length : pair_length (token l) ≡ pair_length l
    same_length = rw (after_comma_lem has_comma, length_token l, length_token (after_comma l))

    same_value : pair_value (token l) ≡ pair_value l
    same_value = rw (after_comma_lem has_comma, value_token l, value_token (after_comma l))

    pub pair_whole : on_token (drop (pair_length l) l) ≡ false → pair_of (token l) ≡ gives (pair_value l)
    unfolding pair_of
    pair_whole t = rw (pair_token, p, same_length, same_value, token_length_lem l, eq-eqb (pair_length l) (token_length l) (pair_end t))

    pub pair_part : on_token (drop (pair_length l) l) ≡ true → pair_of (token l) ≡ refuses 22 0
    unfolding pair_of
    pair_part t =
        let r = run_rest not_space (pair_length l) l pair_within in
        rw (pair_token, p, same_length, token_length_lem l)
        (rw (ne_eqb (pair_length l) (token_length l) (λ z. omega (arith, token_some (drop (pair_length l) l) t))))

  pub pair_none : is_pair l ≡ false → pair_of (token l) ≡ refuses 22 0
  unfolding pair_of
  pair_none p = rw (pair_token, p)
