-- The numbers of a sheet stand for that sheet: a caller who hands the numbers that it got from a text on to the writer writes the same sheet.
use mathlib.Core.Path.{◌≡◌, refl}
use mathlib.Core.Bool.{Bool, true, false, ◌&&◌}
use mathlib.Core.List.{List, [], ◌∷◌}
use Prim.Native.Nat.{ℕ, ◌<◌}
use native.Mathlib.Omega.{arith}
use lib.Dec.{eqb, ltb, leb}
use borrow.Author.Tests.{leb-true, lt-ltb, ne_eqb}
use Rattle.std.specs.Prelude.{Option, Some, None}
use Rattle.text.specs.Logic.{and_left, and_right, and_comm}
use Rattle.text.specs.Answers.{gives}
use Rattle.words.specs.Duration.{is_lasting}
use Rattle.codes.specs.declared.MessageType.{MessageType}
use Rattle.codes.specs.declared.Status.{Status}
use Rattle.codes.specs.declared.Scope.{Scope}
use Rattle.codes.specs.declared.Urgency.{Urgency}
use Rattle.sheet.specs.declared.Part.{Part}
use Rattle.sheet.specs.declared.CapFacts.{CapFacts}
use Rattle.sheet.specs.declared.WarnFacts.{WarnFacts}
use Rattle.sheet.specs.declared.Span.{Span}
use Rattle.sheet.specs.declared.Found.{Found}
use Rattle.sheet.specs.declared.Found.TheVariants as found
use Rattle.codes.specs.Lists.{is_number}
use Rattle.codes.specs.Values.{message_number, status_number, scope_number, urgency_number}
use Rattle.codes.proofs.Numbers.{message_numbers, status_numbers, scope_numbers, urgency_numbers, severity_numbers, certainty_numbers}
use Rattle.sheet.specs.Sheet.{warn, is_lasting_time, is_parts, fits_packet, in_range}
use Rattle.sheet.specs.Reading.{sheet_in}
use Rattle.sheet.proofs.Limits.{lasting_range, warn_range}
use Rattle.numbers.specs.Numbers.{are_lasting, are_part, are_cap, lasting_from, part_from, cap_from, sender_from, name_from}
use Rattle.numbers.specs.Numbers.{are_warn, warn_from, numbers_sheet, stated_of, seconds_of, numbers_of_none, numbers_of_part, with_parts, cap_numbers, warn_numbers, numbers_of}
use Rattle.numbers.proofs.Tests.{joined_at}
use Rattle.numbers.proofs.Flags.{flag_is, flag_back}

-- ---- CAP

-- a part's facts fit their numbers
unfoldable pub fits_numbers : Option Part → Bool
fits_numbers None = true
fits_numbers (Some p) = ltb p.number 0x100 && ltb p.total 0x100 && ltb (seconds_of p.lasting) 0x1_0000_0000

part_tests :
    (p : Part) → fits_numbers (Some p) ≡ true
    → (ltb p.number 0x100 ≡ true) × (ltb p.total 0x100 ≡ true) × (ltb (seconds_of p.lasting) 0x1_0000_0000 ≡ true)
unfolding fits_numbers
part_tests p e =
    let passed = joined_at true (ltb p.number 0x100 ∷ ltb p.total 0x100 ∷ ltb (seconds_of p.lasting) 0x1_0000_0000 ∷ []) e in
    (passed 0, passed 1, passed 2)

-- a part has an urgency, whose number is not 0
urgency_some : (t : Bool) (x : Urgency) → t && eqb (urgency_number x) 0 ≡ false
unfolding is_number
urgency_some t x =
    let some = leb-true 1 (urgency_number x) (and_left _ _ (urgency_numbers x).listed) in
    rw (ne_eqb (urgency_number x) 0 (λ z. omega arith), and_comm t false)

lasting_are : (x : Option ℕ) → ltb (seconds_of x) 0x1_0000_0000 ≡ true → are_lasting (stated_of x) (seconds_of x) ≡ true
lasting_are None e = refl
lasting_are (Some s) e = rw e

lasting_back : (x : Option ℕ) → lasting_from (stated_of x) (seconds_of x) ≡ x
lasting_back None = refl
lasting_back (Some s) = refl

-- by cases on the part
module _ (x : MessageType) (y : Status) (z : Scope) (sender name : Span) where
  parts_are : (p : Option Part) → fits_numbers p ≡ true → are_cap (with_parts (message_number x) (status_number y) (scope_number z) sender name p) ≡ true
  unfolding are_cap are_part numbers_of_none numbers_of_part
  parts_are None e = rw ((message_numbers x).listed, (status_numbers y).listed, (scope_numbers z).listed)
  parts_are (Some p) e =
      let t = part_tests p e in
      rw (
        (message_numbers x).listed,
        (status_numbers y).listed,
        (scope_numbers z).listed,
        urgency_some (eqb p.number 0 && eqb p.total 0) p.urgency,
        t.0,
        t.1,
        (urgency_numbers p.urgency).listed,
        (severity_numbers p.severity).listed,
        (certainty_numbers p.certainty).listed,
        lasting_are p.lasting t.2,
      )

  parts_back :
      (p : Option Part) → fits_numbers p ≡ true
      → cap_from (with_parts (message_number x) (status_number y) (scope_number z) sender name p)
      ≡ record { message = x; status = y; scope = z; parts = p }
  unfolding cap_from part_from numbers_of_none numbers_of_part
  parts_back None e = rw ((message_numbers x).back, (status_numbers y).back, (scope_numbers z).back)
  parts_back (Some p) e =
      rw (
        (message_numbers x).back,
        (status_numbers y).back,
        (scope_numbers z).back,
        urgency_some (eqb p.number 0 && eqb p.total 0) p.urgency,
        (urgency_numbers p.urgency).back,
        (severity_numbers p.severity).back,
        (certainty_numbers p.certainty).back,
        lasting_back p.lasting,
      )

  spans_back :
      (p : Option Part)
      → (sender_from (with_parts (message_number x) (status_number y) (scope_number z) sender name p) ≡ sender)
      × (name_from (with_parts (message_number x) (status_number y) (scope_number z) sender name p) ≡ name)
  unfolding numbers_of_none numbers_of_part
  spans_back None = (refl, refl)
  spans_back (Some p) = (refl, refl)

pub cap_back :
    (f : CapFacts) (sender name : Span) → fits_numbers f.parts ≡ true
    → (are_cap (cap_numbers f sender name) ≡ true)
    × (cap_from (cap_numbers f sender name) ≡ f)
    × (sender_from (cap_numbers f sender name) ≡ sender)
    × (name_from (cap_numbers f sender name) ≡ name)
cap_back f sender name e =
    let spans = spans_back f.message f.status f.scope sender name f.parts in (
      parts_are f.message f.status f.scope sender name f.parts e,
      parts_back f.message f.status f.scope sender name f.parts e,
      spans.0,
      spans.1,
    )

seconds_fit : (x : Option ℕ) → is_lasting_time x ≡ true → seconds_of x < 0x1_0000_0000
seconds_fit None e = omega arith
seconds_fit (Some s) e = let r = lasting_range s e in omega arith

-- the part of each sheet in range fits
pub range_fits : (p : Option Part) → is_parts p ≡ true → fits_numbers p ≡ true
unfolding is_parts fits_numbers
range_fits None e = refl
range_fits (Some p) e =
    let passed = joined_at true (leb 1 p.number ∷ leb p.number p.total ∷ leb p.total 16 ∷ is_lasting_time p.lasting ∷ []) e in
    let within = leb-true p.number p.total (passed 1) in
    let few = leb-true p.total 16 (passed 2) in
    rw (
      lt-ltb p.number 0x100 (omega arith),
      lt-ltb p.total 0x100 (omega arith),
      lt-ltb (seconds_of p.lasting) 0x1_0000_0000 (seconds_fit p.lasting (passed 3)),
    )

-- ---- WARN

pub warn_back :
    (w : WarnFacts) → fits_packet w ≡ true → w.lasting < 0x1_0000_0000 → (are_warn (warn_numbers w) ≡ true) × (warn_from (warn_numbers w) ≡ w)
unfolding fits_packet are_warn warn_from warn_numbers
warn_back w e h =
    (simp (flag_is, lt-ltb w.lasting 0x1_0000_0000 h) (rw (and_comm _ true) e), simp flag_back)

-- each sheet in range fits
pub warn_fits : (w : WarnFacts) → in_range (warn w) ≡ true → (fits_packet w ≡ true) × (w.lasting < 0x1_0000_0000)
unfolding in_range
warn_fits w e = let r = warn_range w e in (and_right (is_lasting w.lasting) (fits_packet w) e, omega arith)

-- ---- a sheet that was found in a text t and is in range

-- its kind tells its numbers from a CAP sheet's
warn_not_cap : (w : WarnFacts) → are_cap (warn_numbers w) ≡ false
unfolding are_cap warn_numbers
warn_not_cap w = refl

pub there_and_back : (t : List ℕ) (x : Found) → in_range (sheet_in t x) ≡ true → numbers_sheet (numbers_of x) ≡ gives x
unfolding sheet_in in_range numbers_sheet numbers_of
there_and_back t (found.Cap f sender name) e =
    let back = cap_back f sender name (range_fits f.parts (and_left _ _ (and_left _ _ e))) in rw (back.0, back.1, back.2, back.3)
there_and_back t (found.Warn w) e =
    let fits = warn_fits w e in let back = warn_back w fits.0 fits.1 in rw (warn_not_cap w, back.0, back.1)
