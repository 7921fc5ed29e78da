-- Demand 3 of the request for `warnbox_write`, which takes sheets as numbers: every run of its calls is a run of calls of the writer.
-- proofs/Demand3.antt proves it.
use Rattle.std.specs.Prelude.{◌≡◌, false, cond, List, [], map, ℕ, zero, suc, eqb, length, take}
use Rattle.text.specs.Answers.{Answer, gives, refuses}
use Rattle.text.specs.Parts.{part}
use Rattle.sheet.specs.declared.Found.{Found}
use Rattle.sheet.specs.Sheet.{Sheet, warn}
use Rattle.sheet.specs.Reading.{span_in, sheet_in}
use Rattle.sheet.specs.Demand.{Call, Run, not_refused, Writes}
use Rattle.numbers.specs.Numbers.{at, sender_from, name_from}
use Rattle.warnbox.specs.Replies.{reply}
use Rattle.warnbox.specs.Sentences.{sentence_of, after_sentence, handed_in}

-- a sheet as it is handed in: the text that holds its sender and name, and its 15 numbers
pub record Handed : Type 0 where
  pub text : List ℕ
  pub numbers : List ℕ
  pub fifteen : length numbers ≡ 15

-- the answer that a number and a value stand for
abbrev pub answer_of : (number value : ℕ) → Answer ℕ
answer_of zero v = gives v
answer_of (suc n) v = refuses (suc n) v

-- one call of `warnbox_write`: the number that it returns, the value and the buffer that it leaves are those of its contract
pub record WriteCall (h : Handed) (d : List ℕ) (at : ℕ) (r : Answer ℕ) (e : List ℕ) : Type 0 where
  pub number : ℕ
  pub value : ℕ
  pub number_is : number ≡ (reply (sentence_of d at h.text (handed_in h.text h.numbers))).number
  pub value_is : value ≡ (reply (sentence_of d at h.text (handed_in h.text h.numbers))).value
  pub buffer : e ≡ after_sentence d at h.text (handed_in h.text h.numbers)
  pub answer : r ≡ answer_of number value

-- a sheet that is out of range: it lasts no time
abbrev pub no_sheet : Sheet
no_sheet =
    warn
    (record {
      urgent = false;
      update = false;
      cancel = false;
      test = false;
      event = 0;
      number = 0;
      origin = 0;
      lasting = 0;
      hazard = 0;
      kind = 0;
      urgency = 0;
      severity = 0;
      certainty = 0;
      response = 0;
    })

-- the sheet that was handed in with the text t; for numbers that stand for none, one that is refused with the same number, 23
abbrev pub sheet_given : List ℕ → Answer Found → Sheet
sheet_given t (gives x) = sheet_in t x
sheet_given t (refuses n p) = no_sheet

abbrev pub sheet_of : Handed → Sheet
sheet_of h = sheet_given h.text (handed_in h.text h.numbers)

-- what is handed in says: its facts as numbers, and for CAP the sender and the name; WARN has neither
pub record Said : Type 0 where
  pub facts : List ℕ
  pub sender : List ℕ
  pub name : List ℕ

-- each number is a fact, but for CAP's last four: where in the text the sender and the name stand
abbrev pub said_in : (text numbers : List ℕ) → Said
said_in t n =
    cond (eqb (at n 0) 1)
    (record { facts = take 11 n; sender = span_in t (sender_from n); name = span_in t (name_from n) })
    (record { facts = n; sender = []; name = [] })

abbrev pub said : Handed → Said
said h = said_in h.text h.numbers

pub record Demand3 : Type 0 where
  pub lifts :
      {hs : List Handed} {rs : List (Answer ℕ)} {d e : List ℕ} {at end : ℕ}
      → Run WriteCall hs rs d at e end → Run Call (map sheet_of hs) rs d at e end
  -- so the text is the read-backs of exactly those that are not refused, and the rest of the buffer is untouched
  pub writes :
      {hs : List Handed} {rs : List (Answer ℕ)} {d e : List ℕ} {at end : ℕ}
      → Run WriteCall hs rs d at e end → Writes (not_refused (map sheet_of hs) rs) d at e end
  -- and equal texts come from equal sheets
  pub same :
      {hs is : List Handed} {rs qs : List (Answer ℕ)} {d c e f : List ℕ} {at start end last : ℕ}
      → Run WriteCall hs rs d at e end → Run WriteCall is qs c start f last → part e at end ≡ part f start last
      → not_refused (map sheet_of hs) rs ≡ not_refused (map sheet_of is) qs
  -- handed in as the same numbers with the same sender and name: only where in the text these stand may differ
  pub same_said :
      {hs is : List Handed} {rs qs : List (Answer ℕ)} {d c e f : List ℕ} {at start end last : ℕ}
      → Run WriteCall hs rs d at e end → Run WriteCall is qs c start f last → part e at end ≡ part f start last
      → map said (not_refused hs rs) ≡ map said (not_refused is qs)
