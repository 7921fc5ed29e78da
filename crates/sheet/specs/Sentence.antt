-- The sentence of a sheet (document 01, "The sentence"). Numbers and durations bring the space in front of each of their words.
use Rattle.std.specs.Prelude.{Option, Some, None, ◌≡◌, Bool, true, cond, ◌&&◌, List, [], ◌∷◌, ◌++◌, ℕ, ltb}
use Rattle.text.specs.Ascii.{ascii}
use Rattle.words.specs.Words.{said}
use Rattle.words.specs.Duration.{lasting}
use Rattle.sheet.specs.declared.Part.{Part}
use Rattle.sheet.specs.declared.CapFacts.{CapFacts}
use Rattle.sheet.specs.declared.WarnFacts.{WarnFacts}
use Rattle.codes.specs.Values.{message_text, status_text, scope_text, urgency_text, severity_text, certainty_text}
use Rattle.sheet.specs.Sheet.{Sheet, cap, warn}

-- A wording is what opens the sentence and how a duration is said.
pub record Wording : Type 0 where
  pub opening : List ℕ
  pub period : ℕ → List ℕ

-- document 01's
abbrev pub plain : Wording
plain = record { opening = []; period = lasting }

module _ (w : Wording) where
  -- "cap alert, actual, public, from kiln.example, name A17, part one of one, immediate, extreme, observed, lasts fifteen minutes."
  unfoldable pub lasting_text : Option ℕ → List ℕ
  lasting_text None = ascii " no stated time"
  lasting_text (Some s) = w.period s

  unfoldable pub part_text : Part → List ℕ
  part_text p =
      ascii ", part" ++ (said p.number ++ (ascii " of" ++ (said p.total
      ++ (ascii ", " ++ (urgency_text p.urgency
      ++ (ascii ", " ++ (severity_text p.severity
      ++ (ascii ", " ++ (certainty_text p.certainty
      ++ (ascii ", lasts" ++ lasting_text p.lasting))))))))))

  unfoldable pub parts_text : Option Part → List ℕ
  parts_text None = ascii ", no parts"
  parts_text (Some p) = part_text p

  unfoldable pub cap_text : CapFacts → List ℕ → List ℕ → List ℕ
  cap_text f sender name =
      ascii "cap " ++ (message_text f.message
      ++ (ascii ", " ++ (status_text f.status
      ++ (ascii ", " ++ (scope_text f.scope
      ++ (ascii ", from " ++ (sender
      ++ (ascii ", name " ++ (name
      ++ (parts_text f.parts ++ ascii ".\n"))))))))))

  -- "After "warn alert" come the set flags in bit order."
  unfoldable pub flag : Bool → List ℕ → List ℕ
  flag b text = cond b text []

  unfoldable pub flags_text : WarnFacts → List ℕ
  flags_text x =
      flag x.urgent (ascii " urgent") ++ (flag x.update (ascii " update")
      ++ (flag x.cancel (ascii " cancel") ++ flag x.test (ascii " test")))

  -- "warn alert urgent cancel, event seven, number two, origin twenty one, lasts one hour five minutes, hazard one, kind zero, urgency three,
  -- severity two, certainty one, response zero."
  unfoldable pub origin_text : WarnFacts → List ℕ
  origin_text x =
      ascii ", event" ++ (said x.event ++ (ascii ", number" ++ (said x.number
      ++ (ascii ", origin" ++ (said x.origin ++ (ascii ", lasts" ++ w.period x.lasting))))))

  unfoldable pub hazard_text : WarnFacts → List ℕ
  hazard_text x =
      ascii ", hazard" ++ (said x.hazard ++ (ascii ", kind" ++ (said x.kind
      ++ (ascii ", urgency" ++ (said x.urgency ++ (ascii ", severity" ++ (said x.severity
      ++ (ascii ", certainty" ++ (said x.certainty ++ (ascii ", response" ++ said x.response))))))))))

  unfoldable pub warn_text : WarnFacts → List ℕ
  warn_text x = ascii "warn alert" ++ (flags_text x ++ (origin_text x ++ (hazard_text x ++ ascii ".\n")))

  unfoldable pub sentence_in : Sheet → List ℕ
  sentence_in (cap f sender name) = w.opening ++ cap_text f sender name
  sentence_in (warn x) = w.opening ++ warn_text x

-- a sheet's sentence in document 01's wording, its newline included
unfoldable pub sentence : Sheet → List ℕ
sentence x = sentence_in plain x

-- "Read-backs are ASCII but for sender and name."
unfoldable pub all_ascii : List ℕ → Bool
all_ascii [] = true
all_ascii (b ∷ l) = ltb b 0x80 && all_ascii l

abbrev pub IsAsciiBut : Sheet → Type 0
IsAsciiBut (cap f sender name) =
    (a b c : List ℕ) × ((sentence (cap f sender name) ≡ a ++ (sender ++ (b ++ (name ++ c)))) × (all_ascii (a ++ (b ++ c)) ≡ true))
IsAsciiBut (warn x) = all_ascii (sentence (warn x)) ≡ true

-- the length of the longest sentence of a sheet in range, its newline included (proofs/Lengths.antt: `sentence_le`, `longest_reached`)
abbrev pub longest : ℕ
longest = 651
