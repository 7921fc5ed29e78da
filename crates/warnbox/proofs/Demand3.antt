-- Demand 3 for `warnbox_write`: each of its calls is a call of the writer, so every run is one of the writer's.
use mathlib.Core.Path.{◌≡◌, refl, sym, ap, ◌∙◌}
use mathlib.Core.Bool.{true, false≢true}
use mathlib.Core.List.{List, [], map}
use Prim.Native.Nat.{ℕ}
use lib.ListN.{take}
use Rattle.std.specs.Prelude.{Option, None, Some}
use Rattle.text.specs.Answers.{Answer, gives, refuses, answer_and_then}
use Rattle.text.specs.Logic.{cond_cases, clash}
use Rattle.buffer.specs.Writing.{has_room, write_text}
use Rattle.codes.specs.declared.MessageType.{MessageType}
use Rattle.codes.specs.declared.Status.{Status}
use Rattle.codes.specs.declared.Scope.{Scope}
use Rattle.codes.specs.Values.{message_number, status_number, scope_number}
use Rattle.sheet.specs.declared.Part.{Part}
use Rattle.sheet.specs.declared.Span.{Span}
use Rattle.sheet.specs.declared.Found.{Found}
use Rattle.sheet.specs.declared.Found.TheVariants as found
use Rattle.sheet.specs.Sheet.{Sheet, cap, warn, in_range}
use Rattle.sheet.specs.Sentence.{sentence}
use Rattle.sheet.specs.Reading.{span_in, sheet_in}
use Rattle.sheet.specs.Answers.{writing, after}
use Rattle.sheet.specs.Demand.{Call, Run, no_call, one_call, not_refused}
use Rattle.sheet.proofs.WriteOne.{given}
use Rattle.sheet.proofs.WriteAll.{lifted}
use Rattle.sheet.proofs.Demand3 as sheets
use Rattle.parts.specs.Elements.{nowhere}
use Rattle.numbers.specs.Numbers.{are_cap, are_warn, numbers_sheet, numbers_of_none, numbers_of_part, with_parts, cap_numbers, warn_numbers, numbers_of}
use Rattle.numbers.proofs.OneForm.{one_form}
use Rattle.warnbox.specs.Replies.{reply}
use Rattle.warnbox.specs.Sentences.{sentence_of, after_sentence, stands_in, standing, handed_in}
use Rattle.warnbox.specs.Demand.{Handed, answer_of, WriteCall, sheet_given, sheet_of, Said, said_in, said, Demand3}

-- ---- refusals have a number that isn't 0, so number and value give the answer back

abbrev Restored : Answer ℕ → Type 0
Restored a = answer_of (reply a).number (reply a).value ≡ a

restored : (d : List ℕ) (at : ℕ) (x : Sheet) → Restored (writing d at x)
unfolding writing write_text
restored d at x =
    cond_cases Restored (in_range x) _ _
    (λ e. cond_cases Restored (has_room d at (sentence x)) _ _ (λ f. refl) (λ f. refl))
    (λ e. refl)

-- ---- what is handed in is a sheet, or refused with 23

data HandedIn : Answer Found → Type 0 where
  sheet : (x : Found) → HandedIn (gives x)
  none : HandedIn (refuses 23 0)

standing_is : (t : List ℕ) (x : Found) → HandedIn (standing t x)
unfolding standing
standing_is t x = cond_cases HandedIn (stands_in t x) _ _ (λ e. sheet x) (λ e. none)

handed_is : (t n : List ℕ) → HandedIn (handed_in t n)
unfolding numbers_sheet
handed_is t n =
    let P : Answer Found → Type 0 = λ a. HandedIn (answer_and_then a (standing t)) in
    cond_cases P (are_cap n) _ _ (λ e. standing_is t _) (λ e. cond_cases P (are_warn n) _ _ (λ f. standing_is t _) (λ f. none))

-- ---- one call

-- the writer's answer and buffer are those for the sheet that was handed in
as_writer :
    (d : List ℕ) (at : ℕ) (t : List ℕ) (a : Answer Found) → HandedIn a
    → (sentence_of d at t a ≡ writing d at (sheet_given t a)) × (after_sentence d at t a ≡ after d at (sheet_given t a))
unfolding writing after in_range sentence_of after_sentence
as_writer d at t (gives x) h = (refl, refl)
as_writer d at t (refuses n p) none = (refl, refl)

as_call : (h : Handed) (d : List ℕ) (at : ℕ) (r : Answer ℕ) (e : List ℕ) → WriteCall h d at r e → Call (sheet_of h) d at r e
as_call h d at r e c =
    let s = as_writer d at h.text (handed_in h.text h.numbers) (handed_is h.text h.numbers) in
    record { answer = c.answer ∙ rw (c.number_is, c.value_is, s.0) (restored d at (sheet_of h)); buffer = c.buffer ∙ s.1 }

-- ---- what a sheet says, as it is handed in and by itself

said_of : Sheet → Said
said_of (cap f sender name) = record { facts = take 11 (cap_numbers f nowhere nowhere); sender = sender; name = name }
said_of (warn w) = record { facts = warn_numbers w; sender = []; name = [] }

-- by cases on the part
module _ (t : List ℕ) (x : MessageType) (y : Status) (z : Scope) (sender name : Span) where
  parts_said :
      (p : Option Part)
      → said_in t (with_parts (message_number x) (status_number y) (scope_number z) sender name p)
      ≡ said_of (cap (record { message = x; status = y; scope = z; parts = p }) (span_in t sender) (span_in t name))
  unfolding numbers_of_none numbers_of_part said_of
  parts_said None = refl
  parts_said (Some p) = refl

numbers_said : (t : List ℕ) (x : Found) → said_in t (numbers_of x) ≡ said_of (sheet_in t x)
unfolding numbers_of warn_numbers sheet_in said_of
numbers_said t (found.Cap f sender name) = parts_said t f.message f.status f.scope sender name f.parts
numbers_said t (found.Warn w) = refl

-- a sheet that is handed in is the one that its numbers stand for
numbers_given : (t n : List ℕ) (x : Found) → handed_in t n ≡ gives x → numbers_sheet n ≡ gives x
unfolding standing
numbers_given t n x = go (numbers_sheet n)
  where
    stood : (y : Found) → standing t y ≡ gives x → gives y ≡ gives x
    stood y = cond_cases (λ a. a ≡ gives x → gives y ≡ gives x) (stands_in t y) _ _ (λ e q. q) (λ e q. clash (cc))

    go : (a : Answer Found) → answer_and_then a (standing t) ≡ gives x → a ≡ gives x
    go (gives y) q = stood y q
    go (refuses m p) q = clash (cc)

-- so what is handed in says what the sheet says
module _ (h : Handed) where
  given_said :
      (a : Answer Found) → handed_in h.text h.numbers ≡ a → in_range (sheet_given h.text a) ≡ true
      → said h ≡ said_of (sheet_given h.text a)
  unfolding in_range
  given_said (gives x) q e =
      let form = one_form h.numbers h.fifteen x (numbers_given h.text h.numbers x q) in
      ap (said_in h.text) (sym form) ∙ numbers_said h.text x
  given_said (refuses n p) q e = absurd (false≢true e)

-- ---- runs

all_said :
    {hs : List Handed} {rs : List (Answer ℕ)} {d e : List ℕ} {at end : ℕ}
    → Run WriteCall hs rs d at e end → map said (not_refused hs rs) ≡ map said_of (not_refused (map sheet_of hs) rs)
unfolding not_refused
all_said no_call = refl
all_said (one_call {x = h} {r = gives k} {d = d} {m = m} {at = at} c w) =
    let range = (given d at (sheet_of h) (as_call h d at (gives k) m c).answer).range in
    let first = given_said h (handed_in h.text h.numbers) refl range in
    let others = all_said w in
    cc
all_said (one_call {r = refuses n p} c w) = all_said w

pub demand_3 : Demand3
demand_3 = record {
  lifts = lifted sheet_of as_call;
  writes = λ w. (sheets.demand_3).writes (lifted sheet_of as_call w);
  same = λ v w q. (sheets.demand_3).same (lifted sheet_of as_call v) (lifted sheet_of as_call w) q;
  same_said = λ v w q.
      all_said v ∙ ap (map said_of) ((sheets.demand_3).same (lifted sheet_of as_call v) (lifted sheet_of as_call w) q) ∙ sym (all_said w);
}
