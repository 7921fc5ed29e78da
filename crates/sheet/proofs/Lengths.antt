-- How long a sentence can be. A bound is the sum of the literals' lengths and of the bounds of what stands between them.
use mathlib.Core.Path.{◌≡◌, refl}
use mathlib.Core.Bool.{Bool, true, false}
use mathlib.Core.List.{List}
use Prim.Native.Nat.{ℕ, ◌+◌, ◌*◌, ◌≤◌, ◌<◌}
use native.Mathlib.Omega.{arith}
use lib.Dec.{leb}
use lib.ListN.{length, length-append}
use borrow.Author.Tests.{leb-true}
use Rattle.std.specs.Prelude.{Option, Some, None}
use Rattle.text.specs.Ascii.{ascii}
use Rattle.text.specs.Logic.{below_at}
use Rattle.codes.proofs.Numbers.{message_numbers, status_numbers, scope_numbers, urgency_numbers, severity_numbers, certainty_numbers}
use Rattle.words.specs.Words.{dictionary, word, spaced, ones, below_hundred, below_thousand, group, number_codes, said}
use Rattle.words.specs.Duration.{counted, duration_codes, lasting}
use Rattle.words.proofs.Lengths.{said_le, short_le, lasting_le}
use Rattle.sheet.specs.declared.Part.{Part}
use Rattle.sheet.specs.declared.CapFacts.{CapFacts}
use Rattle.sheet.specs.declared.WarnFacts.{WarnFacts}
use Rattle.sheet.specs.Sheet.{Sheet, cap, warn, is_lasting_time, is_parts, fits_packet, in_range}
use Rattle.sheet.specs.Sentence.{plain, lasting_text, part_text, parts_text, cap_text, flag, flags_text, origin_text, hazard_text, warn_text, sentence_in, sentence, longest}
use Rattle.sheet.proofs.Limits.{lasting_range, part_range, CapRange, cap_range, WarnRange, warn_range}
use Rattle.sheet.proofs.ReadCode.{code_le}

-- a byte in words: " one hundred seventy seven" is as long as any
byte_fits : ℕ → Bool
unfolding spaced word dictionary ones below_hundred below_thousand group number_codes said
byte_fits n = leb (length (said n)) 26

byte_le : (n : ℕ) → n < 0x100 → length (said n) ≤ 26
unfolding byte_fits
byte_le n h = leb-true (length (said n)) 26 (below_at 0x100 byte_fits tt n h)

-- ---- a CAP sheet

lasting_text_le : (x : Option ℕ) → is_lasting_time x ≡ true → length (lasting_text plain x) ≤ 93
unfolding lasting_text
lasting_text_le None e = omega arith
lasting_text_le (Some s) e = lasting_le s (omega (arith, lasting_range s e))

part_text_le : (p : Part) → is_parts (Some p) ≡ true → length (part_text plain p) ≤ 197
unfolding part_text
part_text_le p e =
    let r = part_range p e in
    simp length-append
    (omega (
      arith,
      byte_le p.number (omega arith),
      byte_le p.total (omega arith),
      code_le (urgency_numbers p.urgency),
      code_le (severity_numbers p.severity),
      code_le (certainty_numbers p.certainty),
      lasting_text_le p.lasting r.lasting,
    ))

parts_text_le : (p : Option Part) → is_parts p ≡ true → length (parts_text plain p) ≤ 197
unfolding parts_text
parts_text_le None e = omega arith
parts_text_le (Some p) e = part_text_le p e

cap_text_le : (f : CapFacts) (sender name : List ℕ) → CapRange f sender name → length (cap_text plain f sender name) ≤ 507
unfolding cap_text
cap_text_le f sender name r =
    simp length-append
    (omega (
      arith,
      r.from.few,
      r.called.few,
      code_le (message_numbers f.message),
      code_le (status_numbers f.status),
      code_le (scope_numbers f.scope),
      parts_text_le f.parts r.part,
    ))

-- ---- a WARN sheet

flag_le : (b : Bool) (w : List ℕ) → length (flag plain b w) ≤ length w
unfolding flag
flag_le true w = omega arith
flag_le false w = omega arith

module _ (x : WarnFacts) where
  flags_text_le : length (flags_text plain x) ≤ 26
  unfolding flags_text
  flags_text_le =
      simp length-append
      (omega (
        arith,
        flag_le x.urgent (ascii " urgent"),
        flag_le x.update (ascii " update"),
        flag_le x.cancel (ascii " cancel"),
        flag_le x.test (ascii " test"),
      ))

  module _ (r : WarnRange x) where
    origin_text_le : length (origin_text plain x) ≤ 403
    unfolding origin_text
    origin_text_le =
        simp length-append
        (omega (
          arith,
          said_le x.event r.event,
          short_le x.number r.number,
          said_le x.origin r.origin,
          lasting_le x.lasting (omega (arith, r.lasting)),
        ))

    hazard_text_le : length (hazard_text plain x) ≤ 210
    unfolding hazard_text
    hazard_text_le =
        simp length-append
        (omega (
          arith,
          byte_le x.hazard r.hazard,
          byte_le x.kind r.kind,
          byte_le x.urgency r.urgency,
          byte_le x.severity r.severity,
          byte_le x.certainty r.certainty,
          byte_le x.response r.response,
        ))

    warn_text_le : length (warn_text plain x) ≤ longest
    unfolding warn_text
    warn_text_le = simp length-append (omega (arith, flags_text_le, origin_text_le, hazard_text_le))

pub sentence_le : (x : Sheet) → in_range x ≡ true → length (sentence x) ≤ longest
unfolding sentence sentence_in
sentence_le (cap f sender name) e = omega (arith, cap_text_le f sender name (cap_range f sender name e))
sentence_le (warn x) e = warn_text_le x (warn_range x e)

-- ---- the longest: each flag is set, and each number is one of those with the longest words

longest_warn : WarnFacts
longest_warn = record {
  urgent = true;
  update = true;
  cancel = true;
  test = true;
  event = 3_373_373_373;
  number = 23_373;
  origin = 3_373_373_373;
  lasting = ((323 * 24 + 23) * 60 + 23) * 60 + 23;  -- 323 days, 23 hours, 23 minutes, 23 seconds
  hazard = 173;
  kind = 173;
  urgency = 173;
  severity = 173;
  certainty = 173;
  response = 173;
}

pub longest_reached : (x : Sheet) × ((in_range x ≡ true) × (length (sentence x) ≡ longest))
unfolding dictionary word spaced ones below_hundred below_thousand group number_codes said counted duration_codes lasting sentence sentence_in warn_text
    flags_text flag origin_text hazard_text fits_packet in_range longest_warn
longest_reached = (warn longest_warn, (refl, refl))
