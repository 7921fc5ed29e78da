-- Bench samples of document 01 on numbers and durations, over the definitions.
use Rattle.std.specs.Prelude.{◌≡◌, refl}
use Rattle.text.specs.Ascii.{ascii}
use Rattle.words.specs.Words.{dictionary, word, spaced, ones, below_hundred, below_thousand, group, number_codes, said, words}
use Rattle.words.specs.Duration.{counted, duration_codes, lasting, duration}

-- 1,015: one thousand fifteen; 0: zero
pub sample_numbers : (words 1_015 ≡ ascii "one thousand fifteen") × (words 0 ≡ ascii "zero")
unfolding dictionary word spaced ones below_hundred below_thousand group number_codes said words
sample_numbers = (refl, refl)

-- 31,536,000 s: three hundred sixty five days
pub sample_year : duration 31_536_000 ≡ ascii "three hundred sixty five days"
unfolding dictionary word spaced ones below_hundred below_thousand group number_codes counted duration_codes lasting duration
sample_year = refl

-- fifteen minutes
pub sample_quarter : duration 900 ≡ ascii "fifteen minutes"
unfolding dictionary word spaced ones below_hundred below_thousand group number_codes counted duration_codes lasting duration
sample_quarter = refl

-- the samples' "lasts fifteen minutes" and "lasts one hour five minutes"
pub sample_durations :
    (lasting 900 ≡ ascii " fifteen minutes")
    × (lasting 3_900 ≡ ascii " one hour five minutes")
unfolding dictionary word spaced ones below_hundred below_thousand group number_codes counted duration_codes lasting
sample_durations = (refl, refl)

pub sample_largest :
    words 4_294_967_295
    ≡ ascii "four billion two hundred ninety four million nine hundred sixty seven thousand two hundred ninety five"
unfolding dictionary word spaced ones below_hundred below_thousand group number_codes said words
sample_largest = refl
