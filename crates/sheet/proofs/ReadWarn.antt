-- Reading a WARN sentence undoes writing it.
use mathlib.Core.Path.{◌≡◌, refl, ap, ◌∙◌}
use mathlib.Core.Bool.{Bool, true, false}
use mathlib.Core.List.{List, [], ◌∷◌, ◌++◌, append_assoc}
use Prim.Native.Nat.{ℕ, ◌%◌, ◌<◌}
use native.Mathlib.Omega.{arith}
use lib.ListN.{length, drop}
use Rattle.text.specs.Ascii.{ascii}
use Rattle.words.specs.Duration.{lasting}
use Rattle.words.specs.Reading.{duration_at, ends_duration}
use Rattle.words.proofs.ReadNumber.{ends_comma, ends_stop}
use Rattle.sheet.specs.declared.WarnFacts.{WarnFacts}
use Rattle.text.specs.Parts.{starts_with}
use Rattle.sheet.specs.Sentence.{plain, flag, flags_text, origin_text, hazard_text, warn_text}
use Rattle.sheet.specs.Reading.{byte_of, numbers_after, from_urgent, from_update, from_cancel, from_test, after_flags, origin_names, from_period, from_hazard, hazard_names, warn_of}
use Rattle.sheet.proofs.Leading.{named_text, numbers_after_lem, duration_value, after_duration}
use Rattle.sheet.proofs.Limits.{WarnRange}

-- ---- the four flags, and after them a text from ", event" on

abbrev flags_on : Bool → Bool → Bool → Bool → List ℕ → List ℕ
flags_on u d c t q =
    flag plain u (ascii " urgent") ++ (flag plain d (ascii " update") ++ (flag plain c (ascii " cancel")
    ++ (flag plain t (ascii " test") ++ (ascii ", event" ++ q))))

abbrev warn_on : Bool → Bool → Bool → Bool → List ℕ → List ℕ
warn_on u d c t q = ascii "warn alert" ++ flags_on u d c t q

record FlagsRead (u d c t : Bool) (q l : List ℕ) : Type 0 where
  pub urgent : starts_with (ascii " urgent") (from_urgent l) ≡ u
  pub update : starts_with (ascii " update") (from_update l) ≡ d
  pub cancel : starts_with (ascii " cancel") (from_cancel l) ≡ c
  pub test : starts_with (ascii " test") (from_test l) ≡ t
  pub rest : after_flags l ≡ ascii ", event" ++ q

-- whichever are set, the first letters tell
flags_read : (u d c t : Bool) (q : List ℕ) → FlagsRead u d c t q (warn_on u d c t q)
unfolding flag starts_with from_update from_cancel from_test after_flags
flags_read true true true true q = record { urgent = refl; update = refl; cancel = refl; test = refl; rest = refl }
flags_read true true true false q = record { urgent = refl; update = refl; cancel = refl; test = refl; rest = refl }
flags_read true true false true q = record { urgent = refl; update = refl; cancel = refl; test = refl; rest = refl }
flags_read true true false false q = record { urgent = refl; update = refl; cancel = refl; test = refl; rest = refl }
flags_read true false true true q = record { urgent = refl; update = refl; cancel = refl; test = refl; rest = refl }
flags_read true false true false q = record { urgent = refl; update = refl; cancel = refl; test = refl; rest = refl }
flags_read true false false true q = record { urgent = refl; update = refl; cancel = refl; test = refl; rest = refl }
flags_read true false false false q = record { urgent = refl; update = refl; cancel = refl; test = refl; rest = refl }
flags_read false true true true q = record { urgent = refl; update = refl; cancel = refl; test = refl; rest = refl }
flags_read false true true false q = record { urgent = refl; update = refl; cancel = refl; test = refl; rest = refl }
flags_read false true false true q = record { urgent = refl; update = refl; cancel = refl; test = refl; rest = refl }
flags_read false true false false q = record { urgent = refl; update = refl; cancel = refl; test = refl; rest = refl }
flags_read false false true true q = record { urgent = refl; update = refl; cancel = refl; test = refl; rest = refl }
flags_read false false true false q = record { urgent = refl; update = refl; cancel = refl; test = refl; rest = refl }
flags_read false false false true q = record { urgent = refl; update = refl; cancel = refl; test = refl; rest = refl }
flags_read false false false false q = record { urgent = refl; update = refl; cancel = refl; test = refl; rest = refl }

-- ---- the whole sentence

abbrev origin_numbers : WarnFacts → List ℕ
origin_numbers x = x.event ∷ x.number ∷ x.origin ∷ []

abbrev hazard_numbers : WarnFacts → List ℕ
hazard_numbers x = x.hazard ∷ x.kind ∷ x.urgency ∷ x.severity ∷ x.certainty ∷ x.response ∷ []

-- from ", hazard" on, from ", lasts" on, and from after ", event" on
abbrev hazard_on : WarnFacts → List ℕ → List ℕ
hazard_on x t = named_text hazard_names (hazard_numbers x) (ascii ".\n" ++ t)

abbrev period_on : WarnFacts → List ℕ → List ℕ
period_on x t = ascii ", lasts" ++ (lasting x.lasting ++ hazard_on x t)

abbrev event_on : WarnFacts → List ℕ → List ℕ
event_on x t = drop (length (ascii ", event")) (named_text origin_names (origin_numbers x) (period_on x t))

warn_text_lem : (x : WarnFacts) (t : List ℕ) → warn_text plain x ++ t ≡ warn_on x.urgent x.update x.cancel x.test (event_on x t)
unfolding warn_text flags_text origin_text hazard_text
warn_text_lem x t = simp append_assoc

below_byte : (n : ℕ) → n < 0x100 → byte_of n ≡ n
below_byte n h = omega arith

below_word : (n : ℕ) → n < 0x1_0000 → n % 0x1_0000 ≡ n
below_word n h = omega arith

-- the numbers are read where they stand
record NumbersRead (x : WarnFacts) (l : List ℕ) : Type 0 where
  pub origins : numbers_after origin_names l ≡ origin_numbers x
  pub period : (duration_at 0 (from_period l)).value ≡ x.lasting
  pub hazards : numbers_after hazard_names (from_hazard l) ≡ hazard_numbers x

numbers_read_lem : (x : WarnFacts) (t : List ℕ) → WarnRange x → NumbersRead x (named_text origin_names (origin_numbers x) (period_on x t))
unfolding from_period from_hazard ends_duration
numbers_read_lem x t v =
    let w = hazard_on x t in
    let d : x.lasting < 4_294_967_296 = omega (arith, v.lasting) in
    let o = numbers_after_lem origin_names (origin_numbers x) (period_on x t) refl (v.event, (omega (arith, v.number), (v.origin, tt))) (ends_comma _) in
    let f = ap (drop (length (ascii ", lasts"))) o.1 in
    record {
      origins = o.0;
      period = ap (λ (y : List ℕ). (duration_at 0 y).value) f ∙ duration_value x.lasting w d refl;
      hazards =
          ap (λ (y : List ℕ). numbers_after hazard_names (drop (duration_at 0 y).end y)) f
          ∙ ap (numbers_after hazard_names) (after_duration x.lasting w d refl)
          ∙ (numbers_after_lem hazard_names (hazard_numbers x) (ascii ".\n" ++ t) refl (
            omega (arith, v.hazard),
            (
              omega (arith, v.kind),
              (omega (arith, v.urgency), (omega (arith, v.severity), (omega (arith, v.certainty), (omega (arith, v.response), tt)))),
            ),
          )
          (ends_stop (ascii "\n" ++ t))).0;
    }

pub warn_read : (x : WarnFacts) (t : List ℕ) → WarnRange x → warn_of (warn_text plain x ++ t) ≡ x
unfolding warn_of
warn_read x t v =
    let q = event_on x t in
    let n = numbers_read_lem x t v in
    let f = flags_read x.urgent x.update x.cancel x.test q in
    ap warn_of (warn_text_lem x t)
    ∙ rw (f.rest, n.origins, n.period, n.hazards)
    (λ i. record {
      urgent = f.urgent i;
      update = f.update i;
      cancel = f.cancel i;
      test = f.test i;
      event = x.event;
      number = below_word x.number v.number i;
      origin = x.origin;
      lasting = x.lasting;
      hazard = below_byte x.hazard v.hazard i;
      kind = below_byte x.kind v.kind i;
      urgency = below_byte x.urgency v.urgency i;
      severity = below_byte x.severity v.severity i;
      certainty = below_byte x.certainty v.certainty i;
      response = below_byte x.response v.response i;
    })
