-- The numbers that rules give.
use mathlib.Core.Path.{◌≡◌, refl}
use mathlib.Core.Bool.{false, ◌&&◌, ◌||◌}
use mathlib.Core.List.{List, [], ◌∷◌}
use Prim.Native.Nat.{ℕ}
use lib.Dec.{eqb, leb, ltb}
use lib.ListN.{length}
use types.Run.{OneOf, hit}
use Rattle.text.specs.Answers.{answer_number, is_given}
use Rattle.text.specs.Logic.{cond_cases, clash}
use Rattle.time.proofs.Answer.{time_cases}
use Rattle.sheet.specs.Sheet.{all_name_bytes}
use Rattle.polygon.specs.Polygon.{polygon_of, is_polygon}
use Rattle.polygon.proofs.Rings.{polygon_cases}
use Rattle.circle.proofs.Texts.{circle_cases}
use Rattle.schema.specs.Classes as class
use Rattle.rules.specs.Codes.{code_of, has_codes}
use Rattle.rules.specs.Texts.{name_rule, code_rule, time_rule, polygon_rule, circle_rule, is_time, text_rule}

-- a text that is no polygon's
pub polygon_broken : (t : List ℕ) → is_polygon t ≡ false → 22 ≡ answer_number (polygon_of t)
polygon_broken t = polygon_cases t (λ a. is_given a ≡ false → 22 ≡ answer_number a) (λ ring e. clash (cc)) (λ e. refl)

-- 0, for a text that keeps to its rule, and the refusals of texts
abbrev pub rule_numbers : List ℕ
rule_numbers = 0 ∷ 14 ∷ 17 ∷ 18 ∷ 19 ∷ 22 ∷ []

abbrev Listed : ℕ → Type 0
Listed n = OneOf rule_numbers n

kept : Listed 0
kept = hit rule_numbers 0 tt

name_number : (t : List ℕ) → Listed (name_rule t)
unfolding name_rule
name_number t =
    cond_cases Listed (ltb 128 (length t)) 14 _ (λ e. hit rule_numbers 14 tt)
    (λ e. cond_cases Listed (leb 1 (length t) && all_name_bytes t) 0 19 (λ f. kept) (λ f. hit rule_numbers 19 tt))

code_number : (c : ℕ) (t : List ℕ) → Listed (code_rule c t)
unfolding code_rule
code_number c t = cond_cases Listed (eqb (code_of c t) 0) 17 0 (λ e. hit rule_numbers 17 tt) (λ e. kept)

time_number : (t : List ℕ) → Listed (time_rule t)
unfolding time_rule
time_number t = time_cases t (λ a. Listed (answer_number a)) (λ i. kept) (hit rule_numbers 18 tt)

polygon_number : (t : List ℕ) → Listed (polygon_rule t)
unfolding polygon_rule
polygon_number t = polygon_cases t (λ a. Listed (answer_number a)) (λ ring. kept) (hit rule_numbers 22 tt)

circle_number : (t : List ℕ) → Listed (circle_rule t)
unfolding circle_rule
circle_number t = circle_cases t (λ a. Listed (answer_number a)) (λ c m h. kept) (hit rule_numbers 22 tt)

pub rule_numbers_lem : (c : ℕ) (t : List ℕ) → OneOf rule_numbers (text_rule c t)
unfolding text_rule
rule_numbers_lem c t =
    cond_cases Listed (eqb c class.identifier || eqb c class.sender) _ _ (λ e. name_number t)
    (λ e. cond_cases Listed (has_codes c) _ _ (λ e. code_number c t)
    (λ e. cond_cases Listed (is_time c) _ _ (λ e. time_number t)
    (λ e. cond_cases Listed (eqb c class.polygon) _ _ (λ e. polygon_number t)
    (λ e. cond_cases Listed (eqb c class.circle) _ _ (λ e. circle_number t)
    (λ e. kept)))))
