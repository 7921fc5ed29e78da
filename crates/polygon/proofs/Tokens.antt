-- The next pair of a text: how it is read, and what it says of the text's tokens.
use mathlib.Core.Path.{◌≡◌, refl, sym, ap, ◌∙◌, subst}
use mathlib.Core.Bool.{Bool, true, false, not}
use mathlib.Core.List.{List, [], ◌∷◌}
use mathlib.Core.Logic.{⊎_elim}
use Prim.Native.Nat.{ℕ, ◌+◌, ◌≤◌, ◌<◌}
use native.Mathlib.Omega.{arith}
use borrow.Author.Tests.{leb-true, leb-false, le-leb, lt-leb}
use lib.Dec.{leb}
use lib.ListN.{length, get_or, drop, drop_of_length-le, length-drop}
use lib.Seq.{drop-drop}
use Rattle.std.specs.Prelude.{Some, None, Ok, Err}
use Rattle.text.specs.Answers.{gives, refuses}
use Rattle.text.specs.Logic.{cond_cases}
use Rattle.text.specs.Bytes.{is_space, spaces}
use Rattle.text.specs.Tokens.{on_token, tokens, token_length}
use Rattle.text.proofs.Runs.{drop_next}
use Rattle.text.proofs.Laws.{token_within, tokens_space, token_or_end, tokens_next, token_some}
use Rattle.coordinates.specs.declared.Place.{Place}
use Rattle.coordinates.specs.Place.{pair_length, pair_at, pair_of}
use Rattle.coordinates.proofs.Readers.{Paired, paired, not_paired, pair_cases}
use Rattle.coordinates.proofs.Tokens.{pair_end, pair_whole, pair_part, pair_none}
use Rattle.polygon.specs.Next.{start_of, end_of, token_at, Next, at_end, not_pair, ending_at, next_of}

-- ---- the reading

-- whether a token goes on at an offset, by the byte there
module _ (l : List ℕ) (i : ℕ) where
  pub on_at : {t : Bool} → i < length l → t ≡ is_space (get_or l i 0) → not t ≡ on_token (drop i l)
  unfolding on_token
  on_at h e = rw (drop_next l i h, e)

  pub on_past : length l ≤ i → false ≡ on_token (drop i l)
  unfolding on_token
  on_past h = rw (drop_of_length-le l h)

module _ (l : List ℕ) (at i : ℕ) (start : i ≡ start_of l at) where
  pub read_end : length l ≤ i → at_end ≡ next_of l at
  unfolding next_of
  read_end h = rw (← start, le-leb (length l) i h)

  module _ (h : i < length l) where
    pub read_none : pair_at i (drop i l) ≡ None → not_pair ≡ next_of l at
    unfolding next_of
    read_none q = rw (← start, lt-leb (length l) i h, pair_none (drop i l) (not_paired i (drop i l) q))

    module _ (p : Place) (e : ℕ) (q : pair_at i (drop i l) ≡ Some (p, e)) where
      led : Paired i (drop i l) p e
      led = paired i (drop i l) p e q

      here : (t : Bool) → on_token (drop e l) ≡ t → on_token (drop (pair_length (drop i l)) (drop i l)) ≡ t
      here t f = rw (drop-drop (pair_length (drop i l)) i l, ← led.end) f

      pub read_part : on_token (drop e l) ≡ true → not_pair ≡ next_of l at
      unfolding next_of
      read_part t = rw (← start, lt-leb (length l) i h, pair_part (drop i l) led.is (here true t))

      pub read_whole : on_token (drop e l) ≡ false → Ok (Some (p, e)) ≡ next_of l at
      unfolding next_of
      read_whole t =
          let z : i + token_length (drop i l) ≡ e = omega (arith, led.end, pair_end (drop i l) led.is (here false t)) in
          rw (← start, lt-leb (length l) i h, pair_whole (drop i l) led.is (here false t), z, led.value)

-- ---- what it says

-- the tokens from `at` on start with t, which ends at e
pub record Token (l : List ℕ) (at : ℕ) (t : List ℕ) (e : ℕ) : Type 0 where
  pub first : tokens (drop at l) ≡ t ∷ tokens (drop e l)
  pub further : at < e
  pub within : e ≤ length l

module _ (l : List ℕ) (at : ℕ) where
  skipped : tokens (drop at l) ≡ tokens (drop (start_of l at) l)
  skipped = sym (tokens_space (drop at l)) ∙ ap tokens (drop-drop (spaces (drop at l)) at l)

  on_token_lem : start_of l at < length l → on_token (drop (start_of l at) l) ≡ true
  on_token_lem h =
      ⊎_elim
      (λ e. absurd (short (rw (drop-drop (spaces (drop at l)) at l) at e)))
      (λ e. rw (drop-drop (spaces (drop at l)) at l) at e)
      (token_or_end (drop at l))
    where
      short : drop (start_of l at) l ≡ [] → ⊥
      short e = let k = rw length-drop at (ap length e) in omega arith

  token_is : start_of l at < length l → Token l at (token_at l (start_of l at)) (end_of l (start_of l at))
  token_is h =
      let i = start_of l at in
      record {
        first = skipped ∙ tokens_next (drop i l) (on_token_lem h) ∙ ap (λ (k : List ℕ). token_at l i ∷ tokens k) (drop-drop (token_length (drop i l)) i l);
        further = omega (arith, token_some (drop i l) (on_token_lem h));
        within = token_within l i (omega arith);
      }

  no_token : length l ≤ start_of l at → tokens (drop at l) ≡ []
  unfolding tokens
  no_token h = skipped ∙ ap tokens (drop_of_length-le l h)

-- what each answer says of the tokens
abbrev pub Says : List ℕ → ℕ → Next → Type 0
Says l at (Ok (Some (p, e))) = (t : List ℕ) × (Token l at t e × (pair_of t ≡ gives p))
Says l at (Ok None) = tokens (drop at l) ≡ []
Says l at (Err e₀) = (t : List ℕ) × ((e : ℕ) × (Token l at t e × (pair_of t ≡ refuses 22 0)))

pub says : (l : List ℕ) (at : ℕ) (n : Next) → next_of l at ≡ n → Says l at n
unfolding next_of
says l at n e =
    subst (Says l at) e
    (cond_cases (Says l at) (leb (length l) (start_of l at)) at_end (ending_at (end_of l (start_of l at)) (pair_of (token_at l (start_of l at))))
    (λ t. no_token l at (leb-true (length l) (start_of l at) t))
    (λ t.
    let k = token_is l at (leb-false (length l) (start_of l at) t) in
    pair_cases (token_at l (start_of l at)) (λ v. pair_of (token_at l (start_of l at)) ≡ v → Says l at (ending_at (end_of l (start_of l at)) v))
    (λ p q. (token_at l (start_of l at), (k, q)))
    (λ q. (token_at l (start_of l at), (end_of l (start_of l at), (k, q))))
    refl))

pub next_further : (l : List ℕ) (at e : ℕ) (p : Place) → next_of l at ≡ Ok (Some (p, e)) → at < e
next_further l at e p h = (says l at (Ok (Some (p, e))) h).1.0.further

pub next_within : (l : List ℕ) (at e : ℕ) (p : Place) → next_of l at ≡ Ok (Some (p, e)) → e ≤ length l
next_within l at e p h = (says l at (Ok (Some (p, e))) h).1.0.within
