-- Answers: a public function "either answers or refuses with the number and place that document 01 fixes" (the request, demand 1).
use Rattle.std.specs.Prelude.{Bool, true, false, ℕ}

-- a refusal's place is an offset in the text that is refused
pub data Answer (A : Type 0) : Type 0 where
  gives : A → Answer A
  refuses : (number offset : ℕ) → Answer A

-- one answer after another: what the value of the first leads to; its refusal stays as it is
abbrev pub answer_and_then : {A B : Type 0} → Answer A → (A → Answer B) → Answer B
answer_and_then (gives x) f = f x
answer_and_then (refuses n p) f = refuses n p

-- a value made from an answer's, with the same refusals
abbrev pub giving : {A B : Type 0} → (A → B) → Answer A → Answer B
giving f (gives x) = gives (f x)
giving f (refuses n p) = refuses n p

-- whether a value is given
abbrev pub is_given : {A : Type 0} → Answer A → Bool
is_given (gives x) = true
is_given (refuses n p) = false

-- a refusal's number, 0 where a value is given
abbrev pub answer_number : {A : Type 0} → Answer A → ℕ
answer_number (gives x) = 0
answer_number (refuses n p) = n

-- what holds of the value, if one is given
abbrev pub IfGiven : {A : Type 0} → (A → Type 0) → Answer A → Type 0
IfGiven P (gives x) = P x
IfGiven P (refuses n p) = Prim.Unit
