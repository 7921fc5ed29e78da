-- A sheet that is drawn from a document or from a packet, and handed in again as its numbers, is the same sheet, and so has the same sentence.
use mathlib.Core.Path.{◌≡◌, refl}
use mathlib.Core.Bool.{true}
use mathlib.Core.List.{List}
use Prim.Native.Nat.{ℕ, ◌+◌}
use lib.ListN.{length}
use borrow.Author.Tests.{le-leb}
use Rattle.text.specs.Answers.{gives}
use Rattle.sheet.specs.declared.WarnFacts.{WarnFacts}
use Rattle.sheet.specs.declared.Found.{Found}
use Rattle.sheet.specs.declared.Found.TheVariants as found
use Rattle.sheet.specs.Sheet.{in_range}
use Rattle.sheet.specs.Reading.{sheet_in}
use Rattle.numbers.specs.Numbers.{numbers_of}
use Rattle.numbers.proofs.BackAndForth.{there_and_back}
use Rattle.packet.specs.Packet.{packet_sheet}
use Rattle.packet.proofs.Numbers.{Bytes}
use Rattle.packet.proofs.Widths as packets
use Rattle.parts.specs.Sheets.{cap_sheet}
use Rattle.drawn.proofs.Ranges as documents
use Rattle.warnbox.specs.Sentences.{stands_in, standing, handed_in}

-- a sheet in range whose sender and name stand in the text
handed_again : (t : List ℕ) (x : Found) → in_range (sheet_in t x) ≡ true → stands_in t x ≡ true → handed_in t (numbers_of x) ≡ gives x
unfolding standing
handed_again t x r s = rw (there_and_back t x r, s)

-- ---- documents

module _ (l : List ℕ) (n : ℕ) where
  stands : (x : Found) → cap_sheet n l ≡ gives x → stands_in l x ≡ true
  stands (found.Cap f a b) q =
      let there = documents.drawn_there l n f a b q in
      rw (le-leb (a.start + a.len) (length l) there.0, le-leb (b.start + b.len) (length l) there.1)
  stands (found.Warn w) q = refl

  pub part_again : (x : Found) → cap_sheet n l ≡ gives x → handed_in l (numbers_of x) ≡ gives x
  part_again x q = handed_again l x (documents.drawn_in_range l n x q) (stands x q)

-- ---- packets

-- with any text: a WARN sheet has no sender and no name
pub packet_again :
    (p : List ℕ) → Bytes p → (w : WarnFacts) → packet_sheet p ≡ gives w
    → (t : List ℕ) → handed_in t (numbers_of (found.Warn w)) ≡ gives (found.Warn w)
unfolding sheet_in
packet_again p b w q t = handed_again t (found.Warn w) (packets.drawn_in_range p b w q) refl
