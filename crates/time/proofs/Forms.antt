-- Laws of the form and of the numbers that a text of the form writes.
use mathlib.Core.Path.{◌≡◌, refl, ap}
use mathlib.Core.Bool.{true, false≢true}
use mathlib.Core.List.{List, [], ◌∷◌}
use Prim.Native.Nat.{ℕ, suc, ◌+◌, ◌*◌, ◌<◌}
use native.Mathlib.Numerals.{add-one}
use native.Mathlib.Omega.{arith}
use lib.ListN.{length, get_or}
use lib.Seq.{drop-cons}
use Rattle.std.specs.List.{list_all, zip}
use Rattle.text.specs.Bytes.{number_from}
use Rattle.text.specs.Logic.{and_right}
use Rattle.time.specs.Digits.{digit_value}
use Rattle.time.specs.Time.{is_form_byte, has_form, digits_at}

-- ---- the form

pub has_form_zip : (f l : List ℕ) → length f ≡ length l → list_all (λ (p : ℕ × ℕ). is_form_byte p.0 p.1) (zip f l) ≡ has_form f l
unfolding has_form
has_form_zip [] [] e = refl
has_form_zip [] (b ∷ l) e = absurd (omega arith)
has_form_zip (a ∷ f) [] e = absurd (omega arith)
has_form_zip (a ∷ f) (b ∷ l) e = rw (has_form_zip f l (omega arith))

-- a text that has a form is as long as it
pub form_length : (f l : List ℕ) → has_form f l ≡ true → length l ≡ length f
unfolding has_form
form_length [] [] e = refl
form_length [] (b ∷ l) e = absurd (false≢true e)
form_length (a ∷ f) [] e = absurd (false≢true e)
form_length (a ∷ f) (b ∷ l) e = ap suc (form_length f l (and_right (is_form_byte a b) (has_form f l) e))

-- ---- digits

pub two_digits :
    (l : List ℕ) (i a b : ℕ) → i + 1 < length l → a ≡ digit_value (get_or l i 0) → b ≡ digit_value (get_or l (i + 1) 0) → 10 * a + b ≡ digits_at i 2 l
unfolding number_from
two_digits l i a b h p q = rw (p, q, drop-cons l i 0 (omega arith), add-one i, drop-cons l (suc i) 0 (rw (add-one i) at h)) (omega arith)

-- the year's four digits, two by two
pub four_digits : (l : List ℕ) → 3 < length l → 100 * digits_at 0 2 l + digits_at 2 2 l ≡ digits_at 0 4 l
unfolding number_from
four_digits [] h = absurd (omega arith)
four_digits (a ∷ []) h = absurd (omega arith)
four_digits (a ∷ b ∷ []) h = absurd (omega arith)
four_digits (a ∷ b ∷ c ∷ []) h = absurd (omega arith)
four_digits (a ∷ b ∷ c ∷ d ∷ l) h = omega arith
