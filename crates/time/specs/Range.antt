-- The range of instants (request [6]: "9999-12-31T24:00:00 is accepted too, so the range of instants grows by one second at the top"), offsets included.
use Rattle.std.specs.Prelude.{◌≡◌, List, ℕ, ◌^◌, ◌<◌, ◌≤◌, ℤ, pos, neg_ℤ, nat_abs, ◌-ℤ◌, ◌≤ℤ◌}
use Rattle.text.specs.Answers.{gives}
use Rattle.text.specs.Ascii.{ascii}
use Rattle.time.specs.Time.{time_of}

abbrev pub earliest : ℤ
earliest = neg_ℤ (pos 62_135_647_200)

abbrev pub latest : ℤ
latest = pos 253_402_351_200

-- an instant that a text can name
pub record InstantRange (z : ℤ) : Type 0 where
  pub from : earliest ≤ℤ z
  pub to : z ≤ℤ latest

-- the seconds between the two
abbrev pub widest : ℕ
widest = 315_537_998_400

pub record ExactRange : Type 0 where
  -- every instant that a text names lies between the two, and both are named
  pub within : (l : List ℕ) (z : ℤ) → time_of l ≡ gives z → InstantRange z
  pub first : time_of (ascii "0001-01-01T00:00:00+14:00") ≡ gives earliest
  pub last : time_of (ascii "9999-12-31T24:00:00-14:00") ≡ gives latest
  -- two instants lie at most that far apart, less than 2^39 seconds
  pub apart : (z w : ℤ) → InstantRange z → InstantRange w → nat_abs (z -ℤ w) ≤ widest
  pub ends_apart : latest -ℤ earliest ≡ pos widest
  pub widest_below : widest < 2 ^ 39
