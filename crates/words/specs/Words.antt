-- Numbers in words (document 01, "The sentence"): no hyphen, no "and", empty thousands groups unsaid.
use Rattle.std.specs.Prelude.{cond, List, [], ◌∷◌, ◌++◌, ℕ, ◌+◌, ◌/◌, ◌%◌, eqb, ltb, get_or, drop}
use Prim.Native.Char.{code}
use Rattle.text.specs.Ascii.{ascii}

-- ---- the words, and their codes: their indices in this list

unfoldable pub dictionary : List (List ℕ)
dictionary =
    ascii "zero" ∷ ascii "one" ∷ ascii "two" ∷ ascii "three" ∷ ascii "four" ∷
    ascii "five" ∷ ascii "six" ∷ ascii "seven" ∷ ascii "eight" ∷ ascii "nine" ∷
    ascii "ten" ∷ ascii "eleven" ∷ ascii "twelve" ∷ ascii "thirteen" ∷ ascii "fourteen" ∷
    ascii "fifteen" ∷ ascii "sixteen" ∷ ascii "seventeen" ∷ ascii "eighteen" ∷ ascii "nineteen" ∷
    ascii "twenty" ∷ ascii "thirty" ∷ ascii "forty" ∷ ascii "fifty" ∷
    ascii "sixty" ∷ ascii "seventy" ∷ ascii "eighty" ∷ ascii "ninety" ∷
    ascii "hundred" ∷ ascii "thousand" ∷ ascii "million" ∷ ascii "billion" ∷
    ascii "day" ∷ ascii "days" ∷ ascii "hour" ∷ ascii "hours" ∷
    ascii "minute" ∷ ascii "minutes" ∷ ascii "second" ∷ ascii "seconds" ∷
    []

unfoldable pub word : ℕ → List ℕ
word w = get_or dictionary w []

-- the code of the word for n tens, n from 2 to 9
abbrev pub tens : ℕ → ℕ
tens n = 18 + n

abbrev pub hundred : ℕ
hundred = 28

abbrev pub thousand : ℕ
thousand = 29

abbrev pub million : ℕ
million = 30

abbrev pub billion : ℕ
billion = 31

-- the words of codes, each after a space
unfoldable pub spaced : List ℕ → List ℕ
spaced [] = []
spaced (w ∷ ws) = code " " ∷ (word w ++ spaced ws)

-- ---- the codes of a number

-- a number below 20: unsaid where it is 0
unfoldable pub ones : ℕ → List ℕ
ones n = cond (eqb n 0) [] (n ∷ [])

-- a number below 100
unfoldable pub below_hundred : ℕ → List ℕ
below_hundred n = cond (ltb n 20) (ones n) (tens (n / 10) ∷ ones (n % 10))

-- a number below 1,000
unfoldable pub below_thousand : ℕ → List ℕ
below_thousand n = cond (eqb (n / 100) 0) [] (n / 100 ∷ hundred ∷ []) ++ below_hundred (n % 100)

-- a thousands group with its word: unsaid where it is empty
unfoldable pub group : ℕ → ℕ → List ℕ
group n unit = cond (eqb n 0) [] (below_thousand n ++ (unit ∷ []))

-- a number to 4,294,967,295
unfoldable pub number_codes : ℕ → List ℕ
number_codes n =
    cond (eqb n 0)
    (0 ∷ [])
    (group (n / 1_000_000_000) billion
    ++ (group (n / 1_000_000 % 1_000) million
    ++ (group (n / 1_000 % 1_000) thousand
    ++ below_thousand (n % 1_000))))

-- a number in words, each after a space, as it stands in a sentence
unfoldable pub said : ℕ → List ℕ
said n = spaced (number_codes n)

-- a number in words by itself
unfoldable pub words : ℕ → List ℕ
words n = drop 1 (said n)
