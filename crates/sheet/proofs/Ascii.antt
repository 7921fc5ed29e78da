-- Sentences are ASCII but for sender and name: so are the words of numbers and durations, the codes, and what stands between them.
use mathlib.Core.Path.{◌≡◌, refl}
use mathlib.Core.Bool.{Bool, true, false, ◌&&◌}
use mathlib.Core.List.{List, [], ◌∷◌, ◌++◌, append_assoc}
use Prim.Native.Nat.{ℕ, zero, suc}
use lib.ListN.{get_or}
use Rattle.std.specs.Prelude.{Option, Some, None}
use Rattle.text.specs.Ascii.{ascii}
use Rattle.text.specs.Logic.{and_left, and_right, and_assoc}
use Rattle.codes.specs.Lists.{lists, is_number, small_text}
use Rattle.codes.specs.Values.{message_text, status_text, scope_text}
use Rattle.codes.proofs.Each.{each_at}
use Rattle.codes.proofs.Numbers.{Numbers, message_numbers, status_numbers, scope_numbers, urgency_numbers, severity_numbers, certainty_numbers}
use Rattle.words.specs.Words.{dictionary, word, spaced, number_codes, said}
use Rattle.words.specs.Duration.{duration_codes, lasting}
use Rattle.sheet.specs.declared.Part.{Part}
use Rattle.sheet.specs.declared.CapFacts.{CapFacts}
use Rattle.sheet.specs.declared.WarnFacts.{WarnFacts}
use Rattle.sheet.specs.Sheet.{Sheet, cap, warn}
use Rattle.sheet.specs.Sentence.{plain, lasting_text, part_text, parts_text, cap_text, flag, flags_text, origin_text, hazard_text, warn_text, sentence_in, sentence, all_ascii, IsAsciiBut}

ascii_append : (a b : List ℕ) → all_ascii (a ++ b) ≡ all_ascii a && all_ascii b
unfolding all_ascii
ascii_append [] b = refl
ascii_append (x ∷ a) b = rw (ascii_append a b, and_assoc)

-- ---- words

all_texts : List (List ℕ) → Bool
all_texts [] = true
all_texts (t ∷ ts) = all_ascii t && all_texts ts

listed_ascii : (ts : List (List ℕ)) → all_texts ts ≡ true → (k : ℕ) → all_ascii (get_or ts k []) ≡ true
unfolding all_texts all_ascii
listed_ascii [] e k = refl
listed_ascii (t ∷ ts) e zero = and_left (all_ascii t) (all_texts ts) e
listed_ascii (t ∷ ts) e (suc k) = listed_ascii ts (and_right (all_ascii t) (all_texts ts) e) k

word_ascii : (w : ℕ) → all_ascii (word w) ≡ true
unfolding word dictionary all_texts all_ascii
word_ascii w = listed_ascii dictionary refl w

spaced_ascii : (ws : List ℕ) → all_ascii (spaced ws) ≡ true
unfolding spaced all_ascii
spaced_ascii [] = refl
spaced_ascii (w ∷ ws) = rw (ascii_append (word w) (spaced ws), word_ascii w) (spaced_ascii ws)

said_ascii : (n : ℕ) → all_ascii (said n) ≡ true
unfolding said
said_ascii n = spaced_ascii (number_codes n)

lasting_ascii : (s : ℕ) → all_ascii (lasting s) ≡ true
unfolding lasting
lasting_ascii s = spaced_ascii (duration_codes s)

-- ---- codes

is_ascii_code : ℕ → ℕ → Bool
is_ascii_code l k = all_ascii (small_text l k)

code_ascii : {A : Type 0} {l : ℕ} {at : ℕ → A} {x : A} {k : ℕ} → Numbers l at x k → all_ascii (small_text l k) ≡ true
unfolding lists is_number small_text all_ascii is_ascii_code
code_ascii {l = l} {k = k} n = each_at is_ascii_code tt l k n.listed

-- ---- a CAP sheet

lasting_text_ascii : (x : Option ℕ) → all_ascii (lasting_text plain x) ≡ true
unfolding lasting_text all_ascii
lasting_text_ascii None = refl
lasting_text_ascii (Some s) = lasting_ascii s

part_ascii : (p : Part) → all_ascii (part_text plain p) ≡ true
unfolding part_text all_ascii
part_ascii p =
    simp (
      ascii_append,
      said_ascii,
      code_ascii (urgency_numbers p.urgency),
      code_ascii (severity_numbers p.severity),
      code_ascii (certainty_numbers p.certainty),
      lasting_text_ascii,
    )

parts_ascii : (p : Option Part) → all_ascii (parts_text plain p) ≡ true
unfolding parts_text all_ascii
parts_ascii None = refl
parts_ascii (Some p) = part_ascii p

module _ (f : CapFacts) (sender name : List ℕ) where
  cap_front : List ℕ
  cap_front =
      ascii "cap " ++ (message_text f.message
      ++ (ascii ", " ++ (status_text f.status
      ++ (ascii ", " ++ (scope_text f.scope ++ ascii ", from ")))))

  cap_rest : List ℕ
  cap_rest = parts_text plain f.parts ++ ascii ".\n"

  cap_ascii : IsAsciiBut (cap f sender name)
  unfolding sentence sentence_in cap_text cap_front cap_rest all_ascii
  cap_ascii = (
    cap_front,
    ascii ", name ",
    cap_rest,
    (
      simp append_assoc,
      simp (
        ascii_append,
        code_ascii (message_numbers f.message),
        code_ascii (status_numbers f.status),
        code_ascii (scope_numbers f.scope),
        parts_ascii,
      ),
    ),
  )

-- ---- a WARN sheet

flag_ascii : (b : Bool) (w : List ℕ) → all_ascii w ≡ true → all_ascii (flag plain b w) ≡ true
unfolding flag all_ascii
flag_ascii true w e = e
flag_ascii false w e = refl

module _ (x : WarnFacts) where
  flags_ascii : all_ascii (flags_text plain x) ≡ true
  unfolding flags_text all_ascii
  flags_ascii =
      simp (
        ascii_append,
        flag_ascii x.urgent (ascii " urgent") refl,
        flag_ascii x.update (ascii " update") refl,
        flag_ascii x.cancel (ascii " cancel") refl,
        flag_ascii x.test (ascii " test") refl,
      )

  origin_ascii : all_ascii (origin_text plain x) ≡ true
  unfolding origin_text all_ascii
  origin_ascii = simp (ascii_append, said_ascii, lasting_ascii)

  hazard_ascii : all_ascii (hazard_text plain x) ≡ true
  unfolding hazard_text all_ascii
  hazard_ascii = simp (ascii_append, said_ascii)

  warn_ascii : all_ascii (warn_text plain x) ≡ true
  unfolding warn_text all_ascii
  warn_ascii = simp (ascii_append, flags_ascii, origin_ascii, hazard_ascii)

pub ascii_but : (x : Sheet) → IsAsciiBut x
unfolding sentence sentence_in
ascii_but (cap f sender name) = cap_ascii f sender name
ascii_but (warn x) = warn_ascii x
