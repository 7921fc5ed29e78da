-- The bench samples that document 01 marks with *, in a single statement over the definitions that the contracts name.
use Rattle.std.specs.Prelude.{◌≡◌, refl, true, false, [], ◌∷◌, ℤ, pos, neg_ℤ, ◌-ℤ◌}
use Rattle.text.specs.Answers.{gives, refuses, giving}
use Rattle.text.specs.Ascii.{ascii}
use Rattle.time.specs.Time.{time_of}
use Rattle.time.specs.Samples.{sample_2002, sample_first, sample_zones}
use Rattle.words.specs.Words.{words}
use Rattle.words.specs.Duration.{duration}
use Rattle.words.specs.Samples.{sample_numbers, sample_year, sample_quarter}
use Rattle.packet.specs.Packet.{lasting_of, packet_of}
use Rattle.events.specs.Table.{received}
use Rattle.events.specs.Samples.{packet_with, stored, sample_stored, sample_lasting}
use Rattle.circle.specs.Circle.{units_of, around_holds}
use Rattle.circle.specs.Samples.{north, sample_circle}
use Rattle.parts.specs.Sheets.{cap_sheet}
use Rattle.samples.specs.Parts.{until, kiln, samples}

-- two instants of "10:00:00-00:00 to 11:15:00+01:00, same day"
abbrev pub ten : ℤ
ten = pos 1_794_736_800

abbrev pub quarter_past : ℤ
quarter_past = pos 1_794_737_700

pub record Starred : Type 0 where
  -- 2002-05-24T16:49:00-07:00 is 1,022,284,140
  pub instant : time_of (ascii "2002-05-24T16:49:00-07:00") ≡ gives (pos 1_022_284_140)
  -- 0001-01-01T00:00:00-00:00 is -62,135,596,800
  pub first : time_of (ascii "0001-01-01T00:00:00-00:00") ≡ gives (neg_ℤ (pos 62_135_596_800))
  -- 10:00:00-00:00 to 11:15:00+01:00, same day: fifteen minutes
  pub from : time_of (ascii "2026-11-15T10:00:00-00:00") ≡ gives ten
  pub to : time_of (ascii "2026-11-15T11:15:00+01:00") ≡ gives quarter_past
  pub apart : quarter_past -ℤ ten ≡ pos 900
  pub lasts : duration 900 ≡ ascii "fifteen minutes"
  -- 31,536,000 s: three hundred sixty five days; 31,536,001: refusal 7
  pub year : duration 31_536_000 ≡ ascii "three hundred sixty five days"
  pub part_longest : cap_sheet 1 (until (ascii "2027-03-01T10:00:00-00:00")) ≡ gives (kiln 31_536_000)
  pub part_longer : cap_sheet 1 (until (ascii "2027-03-01T10:00:01-00:00")) ≡ refuses 7 0
  pub packet_longest : giving lasting_of (packet_of (packet_with 1 31_536_000)) ≡ gives 31_536_000
  pub packet_longer : packet_of (packet_with 1 31_536_001) ≡ refuses 7 0
  -- 1,015: one thousand fifteen; 0: zero
  pub thousand : words 1_015 ≡ ascii "one thousand fifteen"
  pub none : words 0 ≡ ascii "zero"
  -- stored 9: 9 refused, 10 taken
  pub equal : (received (stored 9 ∷ []) (packet_with 9 60) (21 ∷ []) true 0).answer ≡ refuses 10 0
  pub above : (received (stored 9 ∷ []) (packet_with 10 60) (21 ∷ []) true 0).answer ≡ gives tt
  -- 1,000 m: u is 89,932; due north 89,932 inside, 89,933 outside
  pub units : units_of 1_000 ≡ 89_932
  pub inside : around_holds (north 0) 1_000 (north 89_932) ≡ gives true
  pub outside : around_holds (north 0) 1_000 (north 89_933) ≡ gives false

pub starred : Starred
starred = record {
  instant = sample_2002;
  first = sample_first;
  from = sample_zones.0;
  to = sample_zones.1;
  apart = refl;
  lasts = sample_quarter;
  year = sample_year;
  part_longest = samples.sample_year.0;
  part_longer = samples.sample_year.1;
  packet_longest = sample_lasting.0;
  packet_longer = sample_lasting.1;
  thousand = sample_numbers.0;
  none = sample_numbers.1;
  equal = sample_stored.0;
  above = sample_stored.1;
  units = sample_circle.0;
  inside = sample_circle.1;
  outside = sample_circle.2;
}
