-- Laws of white space and tokens: where their runs end, and what a run says of the whole text.
use mathlib.Core.Path.{◌≡◌, refl}
use mathlib.Core.Bool.{true, false, not, false≢true}
use mathlib.Core.Logic.{◌⊎◌, inl, inr}
use mathlib.Core.List.{List, [], ◌∷◌}
use Prim.Native.Nat.{ℕ, ◌+◌, ◌≤◌, ◌<◌}
use native.Mathlib.Omega.{arith}
use borrow.Author.Tests.{not-true, eq-eqb, ne_eqb}
use lib.ListN.{length, take, drop}
use Rattle.text.specs.Bytes.{is_space, spaces, drop_space, all_space}
use Rattle.text.specs.Tokens.{on_token, longer, tokens, token_length}
use Rattle.text.specs.Logic.{by_test}
use Rattle.text.proofs.Runs.{run_le, run_within}

pub token_le : (l : List ℕ) → token_length l ≤ length l
token_le = run_le (λ b. not (is_space b))

pub spaces_within : (s : List ℕ) (i : ℕ) → i ≤ length s → i + spaces (drop i s) ≤ length s
spaces_within = run_within is_space

pub token_within : (s : List ℕ) (i : ℕ) → i ≤ length s → i + token_length (drop i s) ≤ length s
token_within = run_within (λ b. not (is_space b))

pub all_spaces : (l : List ℕ) → spaces l ≡ length l → all_space l ≡ true
all_spaces l e = eq-eqb (spaces l) (length l) e

pub not_all_spaces : (l : List ℕ) → (spaces l ≡ length l → ⊥) → all_space l ≡ false
not_all_spaces l n = ne_eqb (spaces l) (length l) n

-- ---- the tokens of a text

-- white space in front makes no token
pub tokens_space : (l : List ℕ) → tokens (drop_space l) ≡ tokens l
unfolding tokens
tokens_space [] = refl
tokens_space (b ∷ l) = by_test (is_space b) (λ e. rw e (tokens_space l)) (λ e. rw e (rw e))

-- after white space stands the end or a token
pub token_or_end : (l : List ℕ) → (drop_space l ≡ []) ⊎ (on_token (drop_space l) ≡ true)
unfolding on_token
token_or_end [] = inl refl
token_or_end (b ∷ l) = by_test (is_space b) (λ e. rw e (token_or_end l)) (λ e. rw e (inr (rw e)))

pub no_token : (l : List ℕ) → on_token l ≡ false → token_length l ≡ 0
unfolding on_token
no_token [] e = refl
no_token (b ∷ l) e = rw e

pub token_some : (l : List ℕ) → on_token l ≡ true → 0 < token_length l
unfolding on_token
token_some [] e = absurd (false≢true e)
token_some (b ∷ l) e = rw e (omega arith)

-- the first token of a text that goes on with one
pub tokens_next : (l : List ℕ) → on_token l ≡ true → tokens l ≡ take (token_length l) l ∷ tokens (drop (token_length l) l)
unfolding on_token tokens longer
tokens_next [] e = absurd (false≢true e)
tokens_next (b ∷ l) e =
    by_test (on_token l)
    (λ t. rw (not-true (is_space b) e, t, tokens_next l t))
    (λ t. rw (not-true (is_space b) e, t, no_token l t))
