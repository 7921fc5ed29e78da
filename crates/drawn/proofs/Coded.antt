-- The text of a code in a sentence is the document's in small letters: a text of a list, its number, the value and the value's text.
use mathlib.Core.Path.{◌≡◌, sym, ap, ◌∙◌}
use mathlib.Core.Bool.{◌||◌}
use mathlib.Core.List.{List, [], ◌∷◌, map}
use Prim.Native.Nat.{ℕ, suc, ◌+◌, ◌-◌, ◌≤◌}
use native.Mathlib.Omega.{arith}
use borrow.Author.Tests.{eqb-true, ne_eqb}
use lib.Dec.{T, eqb}
use lib.ListN.{length, get_or, get_or-map}
use Rattle.text.specs.Logic.{below, below_at}
use Rattle.codes.specs.Lists as list
use Rattle.codes.specs.Lists.{lists, codes, code_of, small, small_text}
use Rattle.codes.specs.Values.{message_number, status_number, scope_number, urgency_number, severity_number, certainty_number, message_at, status_at, scope_at, urgency_at, severity_at, certainty_at, message_text, status_text, scope_text, urgency_text, severity_text, certainty_text}
use Rattle.schema.proofs.Naming.{find_at, find_below}
use Rattle.parts.specs.Codes.{message_of, status_of, scope_of, urgency_of, severity_of, certainty_of}

-- ---- any list

module _ (l : ℕ) (t : List ℕ) (h : code_of l t ≡ 0 → ⊥) where
  -- a number of the list
  found_number : (1 ≤ code_of l t) × (code_of l t ≤ length (codes l))
  unfolding code_of
  found_number =
      let b = find_below 1 (1 + length (codes l)) t (codes l) (omega arith) (omega arith) in
      ((find_at 1 t (codes l) h).0, omega (arith, b))

  -- whose text is the text in small letters
  found_text : small_text l (code_of l t) ≡ small t
  unfolding code_of small_text
  found_text =
      let p = find_at 1 t (codes l) h in
      let z : code_of l t ≡ suc (code_of l t - 1) = omega (arith, p.0) in
      ap (λ (k : ℕ). get_or ([] ∷ map small (codes l)) k []) z ∙ get_or-map small (codes l) (code_of l t - 1) [] ∙ ap small (sym p.1)

-- each number of a list is that of the value it gives
abbrev Backs : {A : Type 0} → ℕ → (A → ℕ) → (ℕ → A) → Type 0
Backs l number at = T (below (length (codes l) + 1) (λ (k : ℕ). eqb k 0 || eqb (number (at k)) k))

-- "codes in small letters": a text of the list gives a value, and the value's text is that text in small letters
code_said : {A : Type 0} (l : ℕ) (number : A → ℕ) (at : ℕ → A) → Backs l number at → (t : List ℕ) → (code_of l t ≡ 0 → ⊥) → small_text l (number (at (code_of l t))) ≡ small t
code_said l number at b t h =
    let f = found_number l t h in
    let e = rw (ne_eqb (code_of l t) 0 h) at (below_at (length (codes l) + 1) (λ (k : ℕ). eqb k 0 || eqb (number (at k)) k) b (code_of l t) (omega (arith, f))) in
    ap (small_text l) (eqb-true _ _ e) ∙ found_text l t h

-- ---- the six lists

pub message_said : (t : List ℕ) → (code_of list.msg_type t ≡ 0 → ⊥) → message_text (message_of t) ≡ small t
unfolding lists
message_said = code_said list.msg_type message_number message_at tt

pub status_said : (t : List ℕ) → (code_of list.status t ≡ 0 → ⊥) → status_text (status_of t) ≡ small t
unfolding lists
status_said = code_said list.status status_number status_at tt

pub scope_said : (t : List ℕ) → (code_of list.scope t ≡ 0 → ⊥) → scope_text (scope_of t) ≡ small t
unfolding lists
scope_said = code_said list.scope scope_number scope_at tt

pub urgency_said : (t : List ℕ) → (code_of list.urgency t ≡ 0 → ⊥) → urgency_text (urgency_of t) ≡ small t
unfolding lists
urgency_said = code_said list.urgency urgency_number urgency_at tt

pub severity_said : (t : List ℕ) → (code_of list.severity t ≡ 0 → ⊥) → severity_text (severity_of t) ≡ small t
unfolding lists
severity_said = code_said list.severity severity_number severity_at tt

pub certainty_said : (t : List ℕ) → (code_of list.certainty t ≡ 0 → ⊥) → certainty_text (certainty_of t) ≡ small t
unfolding lists
certainty_said = code_said list.certainty certainty_number certainty_at tt
