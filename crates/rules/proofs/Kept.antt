-- What a text has that keeps to its rule.
use mathlib.Core.Path.{◌≡◌, refl}
use mathlib.Core.Bool.{true, ◌&&◌}
use mathlib.Core.List.{List}
use Prim.Native.Nat.{ℕ, ◌≤◌}
use native.Mathlib.Omega.{arith}
use lib.Dec.{eqb, leb, ltb}
use lib.IntN.{ℤ}
use lib.ListN.{length}
use borrow.Author.Tests.{leb-true, ltb-false, eqb-false}
use Rattle.text.specs.Answers.{gives, answer_number}
use Rattle.text.specs.Logic.{and_left, and_right, first_arm, second_arm}
use Rattle.time.specs.Time.{time_of}
use Rattle.time.proofs.Answer.{time_cases}
use Rattle.sheet.specs.Sheet.{all_name_bytes}
use Rattle.schema.specs.Classes as class
use Rattle.rules.specs.Codes.{code_of}
use Rattle.rules.specs.Texts.{name_rule, code_rule, time_rule, text_rule}

-- a name has 1 to 128 bytes, all of them allowed
pub name_kept : (t : List ℕ) → name_rule t ≡ 0 → (1 ≤ length t) × ((length t ≤ 128) × (all_name_bytes t ≡ true))
unfolding name_rule
name_kept t e =
    let s = second_arm _ _ 0 (ltb 128 (length t)) e (λ p. omega (arith, p)) in
    let f = (first_arm _ _ 0 (leb 1 (length t) && all_name_bytes t) (rw s at e) (λ p. omega (arith, p))).0 in (
      leb-true 1 (length t) (and_left (leb 1 (length t)) (all_name_bytes t) f),
      (ltb-false 128 (length t) s, and_right (leb 1 (length t)) (all_name_bytes t) f),
    )

-- a code is one of its class
pub code_kept : (c : ℕ) (t : List ℕ) → code_rule c t ≡ 0 → code_of c t ≡ 0 → ⊥
unfolding code_rule
code_kept c t e = eqb-false (code_of c t) 0 (second_arm _ _ 0 (eqb (code_of c t) 0) e (λ p. omega (arith, p)))

-- a time names an instant
pub time_kept : (t : List ℕ) → time_rule t ≡ 0 → (i : ℤ) × (time_of t ≡ gives i)
unfolding time_rule
time_kept t = time_cases t (λ a. answer_number a ≡ 0 → (i : ℤ) × (a ≡ gives i)) (λ i e. (i, refl)) (λ e. absurd (omega (arith, e)))

pub identifier_rule : (t : List ℕ) → text_rule class.identifier t ≡ name_rule t
unfolding text_rule
identifier_rule t = refl

pub sender_rule : (t : List ℕ) → text_rule class.sender t ≡ name_rule t
unfolding text_rule
sender_rule t = refl
