-- Bytes by their kind, and how many of a kind lead a text.
use Rattle.std.specs.Prelude.{Bool, false, cond, ◌&&◌, ◌||◌, List, [], ◌∷◌, ℕ, suc, ◌+◌, ◌-◌, ◌*◌, eqb, leb, length, drop}
use Prim.Native.Char.{code}

-- how many bytes that pass a test lead a text
abbrev pub leading : (ℕ → Bool) → List ℕ → ℕ
leading p [] = 0
leading p (b ∷ l) = cond (p b) (suc (leading p l)) 0

-- a byte that passes a test leads a text
abbrev pub led_by : (ℕ → Bool) → List ℕ → Bool
led_by p [] = false
led_by p (b ∷ l) = p b

-- White space, wherever document 01 says so, is XML's: tab, line feed, carriage return and space.
abbrev pub is_space : ℕ → Bool
is_space b = eqb b (code "\t") || eqb b (code "\n") || eqb b (code "\r") || eqb b (code " ")

-- how many bytes of white space lead a text
abbrev pub spaces : List ℕ → ℕ
spaces l = leading is_space l

-- a text without the white space that leads it
abbrev pub drop_space : List ℕ → List ℕ
drop_space l = drop (spaces l) l

-- nothing but white space
abbrev pub all_space : List ℕ → Bool
all_space l = eqb (spaces l) (length l)

abbrev pub is_digit : ℕ → Bool
is_digit b = leb (code "0") b && leb b (code "9")

-- how many digits lead a text
abbrev pub digits : List ℕ → ℕ
digits l = leading is_digit l

-- the number that digits write, after digits that wrote n
unfoldable pub number_from : ℕ → List ℕ → ℕ
number_from n [] = n
number_from n (b ∷ l) = number_from (10 * n + (b - code "0")) l

-- the number that digits write
abbrev pub number : List ℕ → ℕ
number l = number_from 0 l
