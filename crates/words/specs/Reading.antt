-- Reading numbers and durations from their words. Any text may be read: where nobody wrote it as a number, what is read is some number whose words
-- differ from the text.
-- Sums are kept below 2^32, the size of the numbers that can be said.
use Rattle.std.specs.Prelude.{Bool, true, cond, not, ◌&&◌, List, [], ◌∷◌, ℕ, zero, suc, ◌+◌, ◌*◌, ◌%◌, ◌-◌, eqb, leb, ltb, length, take, drop}
use Prim.Native.Char.{code}
use Rattle.text.specs.Bytes.{leading}
use Rattle.text.specs.Logic.{eql}
use Rattle.words.specs.declared.Groups.{Groups}
use Rattle.words.specs.declared.Quantity.{Quantity}
use Rattle.words.specs.Words.{dictionary, hundred, thousand, million}
use Rattle.words.specs.Duration.{day, hour, minute, second}

-- ---- a word and its code

abbrev pub is_letter : ℕ → Bool
is_letter b = leb (code "a") b && leb b (code "z")

-- how many letters lead a text
abbrev pub letters : List ℕ → ℕ
letters l = leading is_letter l

-- the letters after a space that leads the text; none where no space does
unfoldable pub word_at : List ℕ → List ℕ
word_at [] = []
word_at (b ∷ l) = cond (eqb b (code " ")) (take (letters l) l) []

-- the index of a word in a list of words, counted from i; after the last where it isn't there
unfoldable pub index_in : List (List ℕ) → ℕ → List ℕ → ℕ
index_in [] i w = i
index_in (d ∷ ds) i w = cond (eql w d) i (index_in ds (suc i) w)

-- the code of a word; 40, the number of the words, for any other
unfoldable pub code_of : List ℕ → ℕ
code_of w = index_in dictionary 0 w

-- ---- a number

abbrev pub kept : ℕ → ℕ
kept n = n % 4_294_967_296

abbrev pub is_number_word : ℕ → Bool
is_number_word w = ltb w day

-- what a word below hundred counts
abbrev pub worth : ℕ → ℕ
worth w = cond (ltb w 20) w (10 * (w - 18))

-- by what the word of a thousands group multiplies it
abbrev pub group_unit : ℕ → ℕ
group_unit w = cond (eqb w thousand) 1_000 (cond (eqb w million) 1_000_000 1_000_000_000)

-- one number word more
unfoldable pub step : ℕ → Groups → Groups
step w g =
    cond (ltb w hundred)
    (record { sum = g.sum; current = kept (g.current + worth w) })
    (cond (eqb w hundred)
    (record { sum = g.sum; current = kept (g.current * 100) })
    (record { sum = kept (g.sum + g.current * group_unit w); current = 0 }))

abbrev pub nothing : Groups
nothing = record { sum = 0; current = 0 }

abbrev pub total : Groups → ℕ
total g = kept (g.sum + g.current)

-- the number whose words lead the text l, at offset i: as many words as are number words. n bounds their number.
unfoldable pub number_words : ℕ → ℕ → List ℕ → Groups → Quantity
number_words zero i l g = record { value = total g; end = i }
number_words (suc n) i l g =
    cond (is_number_word (code_of (word_at l)))
    (number_words n (i + (1 + length (word_at l))) (drop (1 + length (word_at l)) l) (step (code_of (word_at l)) g))
    (record { value = total g; end = i })

unfoldable pub number_at : ℕ → List ℕ → Quantity
number_at i l = number_words (length l) i l nothing

-- what may stand after a number: no letter, and no further number word after a space
unfoldable pub ends_number : List ℕ → Bool
ends_number l = eqb (letters l) 0 && not (is_number_word (code_of (word_at l)))

-- ---- a duration

-- the seconds of a unit by its word; 0 for a word that is none
abbrev pub unit_seconds : ℕ → ℕ
unit_seconds w =
    cond (ltb w day) 0
    (cond (ltb w hour) 86_400
    (cond (ltb w minute) 3_600
    (cond (ltb w second) 60
    (cond (ltb w 40) 1 0))))

-- the number that leads a text, the word after it, and the length of both
abbrev pub count_of : List ℕ → ℕ
count_of l = (number_at 0 l).value

abbrev pub unit_word : List ℕ → List ℕ
unit_word l = word_at (drop (number_at 0 l).end l)

abbrev pub count_length : List ℕ → ℕ
count_length l = (number_at 0 l).end + (1 + length (unit_word l))

-- the seconds whose words lead the text l, at offset i: as many counts as have a unit after them. s: those before; n bounds their number.
unfoldable pub counts : ℕ → ℕ → List ℕ → ℕ → Quantity
counts zero i l s = record { value = s; end = i }
counts (suc n) i l s =
    cond (eqb (unit_seconds (code_of (unit_word l))) 0)
    (record { value = s; end = i })
    (counts n (i + count_length l) (drop (count_length l) l) (kept (s + count_of l * unit_seconds (code_of (unit_word l)))))

unfoldable pub duration_at : ℕ → List ℕ → Quantity
duration_at i l = counts (length l) i l 0

-- what may stand after a duration: nothing, or a byte that is neither a letter nor a space
unfoldable pub ends_duration : List ℕ → Bool
ends_duration [] = true
ends_duration (b ∷ l) = not (is_letter b) && not (eqb b (code " "))
