-- The numbers with which a document is refused: "14 for length first", then "15, 16, 14, 19, 17, 18, 22".
use mathlib.Core.Path.{◌≡◌, sym, subst}
use mathlib.Core.List.{List, [], ◌∷◌}
use mathlib.Core.Logic.{⊎_elim}
use Prim.Native.Nat.{ℕ, suc}
use native.Mathlib.Omega.{arith}
use lib.Dec.{T}
use mir.Val.{has_key}
use types.Run.{OneOf}
use Rattle.rules.specs.Texts.{text_rule}
use Rattle.rules.proofs.Numbers.{rule_numbers, rule_numbers_lem}

abbrev pub document_numbers : List ℕ
document_numbers = 14 ∷ 15 ∷ 16 ∷ 17 ∷ 18 ∷ 19 ∷ 22 ∷ []

abbrev pub IsNumber : ℕ → Type 0
IsNumber n = T (has_key document_numbers n)

-- the number of a text's rule that is not 0
pub rule_number : (c n : ℕ) (t : List ℕ) → suc n ≡ text_rule c t → IsNumber (suc n)
rule_number c n t e =
    ⊎_elim (λ z. absurd (omega (arith, z)))
    (⊎_elim (is 14 tt) (⊎_elim (is 17 tt) (⊎_elim (is 18 tt) (⊎_elim (is 19 tt) (is 22 tt)))))
    (subst (OneOf rule_numbers) (sym e) (rule_numbers_lem c t))
  where
    is : (k : ℕ) → IsNumber k → suc n ≡ k → IsNumber (suc n)
    is k h z = subst IsNumber (sym z) h
