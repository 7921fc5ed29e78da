-- Durations in words (document 01, "The sentence"): days, hours, minutes, seconds, zero parts unsaid, singular for a count of one.
use Rattle.std.specs.Prelude.{Bool, cond, ◌&&◌, List, [], ◌∷◌, ◌++◌, ℕ, ◌/◌, ◌%◌, eqb, leb, drop}
use Rattle.words.specs.Words.{number_codes, spaced}

-- the codes of the units, each for a count of one and for any other count
abbrev pub day : ℕ
day = 32

abbrev pub days : ℕ
days = 33

abbrev pub hour : ℕ
hour = 34

abbrev pub hours : ℕ
hours = 35

abbrev pub minute : ℕ
minute = 36

abbrev pub minutes : ℕ
minutes = 37

abbrev pub second : ℕ
second = 38

abbrev pub seconds : ℕ
seconds = 39

-- a lasting time is 1 to 31,536,000 seconds (refusal 7)
abbrev pub is_lasting : ℕ → Bool
is_lasting s = leb 1 s && leb s 31_536_000

-- a count and its unit
unfoldable pub counted : ℕ → ℕ → ℕ → List ℕ
counted n one many = cond (eqb n 0) [] (number_codes n ++ (cond (eqb n 1) one many ∷ []))

unfoldable pub duration_codes : ℕ → List ℕ
duration_codes s =
    counted (s / 86_400) day days
    ++ (counted (s / 3_600 % 24) hour hours
    ++ (counted (s / 60 % 60) minute minutes
    ++ counted (s % 60) second seconds))

-- a number of seconds in words, each after a space, as it stands in a sentence
unfoldable pub lasting : ℕ → List ℕ
lasting s = spaced (duration_codes s)

-- a number of seconds in words by itself
unfoldable pub duration : ℕ → List ℕ
duration s = drop 1 (lasting s)
