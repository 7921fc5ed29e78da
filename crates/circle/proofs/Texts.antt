-- A circle's text by its two tokens: what skipping white space and finding the ends of tokens says of `tokens`.
use mathlib.Core.Path.{◌≡◌, refl, sym, ap, ◌∙◌}
use mathlib.Core.Bool.{true, ◌&&◌}
use mathlib.Core.List.{List, [], ◌∷◌}
use mathlib.Core.Logic.{⊎_elim}
use Prim.Native.Nat.{ℕ, ◌+◌, ◌-◌, ◌≤◌}
use native.Mathlib.Nat.{add-sub_cancel_left, zero-add}
use native.Mathlib.Omega.{arith}
use lib.Dec.{eqb, leb}
use lib.ListN.{length, take, drop, length-drop, drop_of_length-le}
use lib.Seq.{drop-drop}
use Rattle.text.specs.Answers.{Answer, gives, refuses, answer_and_then, answer_number}
use Rattle.text.specs.Bytes.{spaces, drop_space}
use Rattle.text.specs.Logic.{cond_cases, and_right}
use Rattle.text.specs.Tokens.{on_token, tokens, token_length}
use Rattle.text.proofs.Laws.{tokens_space, tokens_next, token_or_end, spaces_within, token_within}
use Rattle.coordinates.specs.declared.Place.{Place}
use Rattle.coordinates.specs.Place.{pair_of, coordinate_at}
use Rattle.coordinates.specs.Decimal.{radius_of, is_radius, scaled, is_decimal, decimal_length, places, leads}
use Rattle.coordinates.proofs.Readers.{pair_cases}
use Rattle.circle.specs.Circle.{circle_from, circle_tokens, circle_of, around_holds, circle_holds}

-- an empty text is neither a pair nor a radius
pair_empty : pair_of [] ≡ refuses 22 0
unfolding pair_of coordinate_at is_decimal places leads
pair_empty = refl

radius_empty : radius_of [] ≡ refuses 22 0
unfolding radius_of is_decimal
radius_empty = refl

-- and without a radius there is no circle, whatever the pair
no_radius : (t : List ℕ) → circle_from (pair_of t) (refuses 22 0) ≡ refuses 22 0
no_radius t = pair_cases t (λ a. circle_from a (refuses 22 0) ≡ refuses 22 0) (λ p. refl) refl

-- a text is a circle, with a radius within its limit, or it is refused with 22
pub circle_cases :
    (l : List ℕ) (P : Answer (Place × ℕ) → Type 0) → ((c : Place) (m : ℕ) → leb m 20_000_000 ≡ true → P (gives (c, m))) → P (refuses 22 0)
    → P (circle_of l)
unfolding circle_of circle_tokens radius_of
circle_cases l P f g = go (tokens l)
  where
    around : (a b : List ℕ) → P (circle_from (pair_of a) (radius_of b))
    around a b =
        pair_cases a (λ p. P (circle_from p (radius_of b)))
        (λ c.
        cond_cases (λ r. P (circle_from (gives c) r)) (is_radius b) (gives (scaled 3 b)) (refuses 22 0)
        (λ t. f c (scaled 3 b) (and_right (is_decimal 5 3 b && eqb (decimal_length b) (length b)) (leb (scaled 3 b) 20_000_000) t)) (λ t. g))
        g

    go : (ts : List (List ℕ)) → P (circle_tokens ts)
    go [] = g
    go (a ∷ []) = g
    go (a ∷ b ∷ []) = around a b
    go (a ∷ b ∷ c ∷ ts) = g

-- a text that is asked about a place is refused just as it is where it is read
pub holds_number : (l : List ℕ) (p : Place) → answer_number (circle_holds l p) ≡ answer_number (circle_of l)
unfolding circle_holds around_holds
holds_number l p =
    circle_cases l (λ a. answer_number (answer_and_then a (λ c. around_holds c.0 c.1 p)) ≡ answer_number a) (λ c m h. rw h) refl

-- the first token of a text, and what stands after it; both empty where it has none
abbrev token : List ℕ → List ℕ
token l = take (token_length (drop_space l)) (drop_space l)

abbrev after : List ℕ → List ℕ
after l = drop (token_length (drop_space l)) (drop_space l)

none : (l : List ℕ) → drop_space l ≡ [] → (tokens l ≡ []) × ((token l ≡ []) × (after l ≡ []))
unfolding tokens
none l e = (sym (tokens_space l) ∙ rw e, (rw e, rw e))

some : (l : List ℕ) → on_token (drop_space l) ≡ true → tokens l ≡ token l ∷ tokens (after l)
some l e = sym (tokens_space l) ∙ tokens_next (drop_space l) e

-- nothing but white space after the second token
circle_two : (l : List ℕ) → drop_space (after (after l)) ≡ [] → circle_of l ≡ circle_from (pair_of (token l)) (radius_of (token (after l)))
unfolding circle_of circle_tokens
circle_two l e =
    ⊎_elim
    (λ n. let q = none l n in rw (q.0, q.1.0, pair_empty))
    (λ s. ⊎_elim
    (λ n. let q = none (after l) n in rw (some l s, q.0, q.1.0, radius_empty) (sym (no_radius (token l))))
    (λ t. rw (some l s, some (after l) t, (none (after (after l)) e).0))
    (token_or_end (after l)))
    (token_or_end l)

-- a third token
circle_more : (l : List ℕ) → on_token (drop_space (after (after l))) ≡ true → circle_of l ≡ refuses 22 0
unfolding circle_of circle_tokens
circle_more l e =
    ⊎_elim
    (λ n. rw (none l n).0)
    (λ s. ⊎_elim
    (λ n. rw (some l s, (none (after l) n).0))
    (λ t. rw (some l s, some (after l) t, some (after (after l)) e))
    (token_or_end (after l)))
    (token_or_end l)

-- ---- the offsets of the two tokens: a and b, c and d are their starts and ends
module _ (s : List ℕ) (a b c d : ℕ) (ea : a ≡ 0 + spaces (drop 0 s)) (eb : b ≡ a + token_length (drop a s))
    (ec : c ≡ b + spaces (drop b s)) (ed : d ≡ c + token_length (drop c s)) where
  from_a : drop a s ≡ drop_space s
  from_a = ap (λ (i : ℕ). drop i s) (ea ∙ zero-add (spaces s))

  from_b : drop b s ≡ after s
  from_b = ap (λ (i : ℕ). drop i s) eb ∙ sym (drop-drop (token_length (drop a s)) a s) ∙ rw from_a

  from_c : drop c s ≡ drop_space (after s)
  from_c = ap (λ (i : ℕ). drop i s) ec ∙ sym (drop-drop (spaces (drop b s)) b s) ∙ rw from_b

  from_d : drop d s ≡ after (after s)
  from_d = ap (λ (i : ℕ). drop i s) ed ∙ sym (drop-drop (token_length (drop c s)) c s) ∙ rw from_c

  within_a : a ≤ length s
  within_a = rw ea (spaces_within s 0 (omega arith))

  within_b : b ≤ length s
  within_b = rw eb (token_within s a within_a)

  within_c : c ≤ length s
  within_c = rw ec (spaces_within s b within_b)

  within_d : d ≤ length s
  within_d = rw ed (token_within s c within_c)

  first_is : take (b - a) (drop a s) ≡ token s
  first_is =
      let n : b - a ≡ token_length (drop a s) = rw eb (add-sub_cancel_left a (token_length (drop a s))) in
      rw (n, from_a)

  second_is : take (d - c) (drop c s) ≡ token (after s)
  second_is =
      let n : d - c ≡ token_length (drop c s) = rw ed (add-sub_cancel_left c (token_length (drop c s))) in
      rw (n, from_c)

  module _ (e : ℕ) (ee : e ≡ d + spaces (drop d s)) where
    from_e : drop e s ≡ drop_space (after (after s))
    from_e = ap (λ (i : ℕ). drop i s) ee ∙ sym (drop-drop (spaces (drop d s)) d s) ∙ rw from_d

    pub text_more : (e ≡ length s → ⊥) → refuses 22 0 ≡ circle_of s
    text_more n =
        ⊎_elim
        (λ z. absurd (n (reached (rw ee (spaces_within s d within_d)) (sym (length-drop e s) ∙ ap length (from_e ∙ z)))))
        (λ t. sym (circle_more s t))
        (token_or_end (after (after s)))
      where
        reached : e ≤ length s → length s - e ≡ 0 → e ≡ length s
        reached h q = omega arith

    pub text_two :
        e ≡ length s → (p : Answer Place) (r : Answer ℕ) (o : Answer (Place × ℕ)) → p ≡ pair_of (take (b - a) (drop a s))
        → r ≡ radius_of (take (d - c) (drop c s)) → o ≡ circle_from p r → o ≡ circle_of s
    text_two q p r o ep er eo =
        let z : drop_space (after (after s)) ≡ [] = sym from_e ∙ drop_of_length-le s {i = e} (omega arith) in
        eo ∙ rw (ep, er, first_is, second_is) (sym (circle_two s z))
