-- What the ranges say of a sheet's values.
use mathlib.Core.Path.{◌≡◌, refl, ap}
use mathlib.Core.Bool.{Bool, true, false, not, ◌&&◌}
use mathlib.Core.List.{List, [], ◌∷◌}
use Prim.Native.Nat.{ℕ, suc, ◌≤◌, ◌<◌}
use Prim.Native.Char.{code}
use native.Mathlib.Omega.{arith}
use lib.Dec.{eqb, leb, ltb}
use lib.ListN.{length}
use borrow.Author.Tests.{leb-true, ltb-true, not-true}
use Rattle.std.specs.Prelude.{Some}
use Rattle.text.specs.Logic.{and_left, and_right}
use Rattle.words.specs.Duration.{is_lasting}
use Rattle.sheet.specs.declared.Part.{Part}
use Rattle.sheet.specs.declared.CapFacts.{CapFacts}
use Rattle.sheet.specs.declared.WarnFacts.{WarnFacts}
use Rattle.sheet.specs.Sheet.{cap, warn, is_name_byte, all_name_bytes, holds_cdata_end, is_name, is_lasting_time, is_parts, fits_packet, in_range}
use Rattle.sheet.specs.Reading.{word_length}

-- ---- several tests that all hold

and_three : (a b c : Bool) → a && b && c ≡ true → (a ≡ true) × (b ≡ true) × (c ≡ true)
and_three a b c e = let h = and_left (a && b) c e in (and_left a b h, and_right a b h, and_right (a && b) c e)

and_four : (a b c d : Bool) → a && b && c && d ≡ true → (a ≡ true) × (b ≡ true) × (c ≡ true) × (d ≡ true)
and_four a b c d e = let h = and_three (a && b) c d e in (and_left a b h.0, and_right a b h.0, h.1, h.2)

-- ---- a name

name_byte : (b : ℕ) → is_name_byte b ≡ true → eqb b (code ",") ≡ false
name_byte b e =
    not-true (eqb b (code ","))
    (and_four (ltb 0x20 b) (not (eqb b (code ","))) (not (eqb b (code "<"))) (not (eqb b (code "&"))) e).1

name_word : (l : List ℕ) → all_name_bytes l ≡ true → word_length l ≡ length l
unfolding all_name_bytes word_length
name_word [] e = refl
name_word (b ∷ l) e =
    rw (name_byte b (and_left (is_name_byte b) (all_name_bytes l) e)) (ap suc (name_word l (and_right (is_name_byte b) (all_name_bytes l) e)))

-- a name has 1 to 128 bytes and no comma
pub record Named (l : List ℕ) : Type 0 where
  pub some : 1 ≤ length l
  pub few : length l ≤ 128
  pub whole : word_length l ≡ length l

pub named : (l : List ℕ) → is_name l ≡ true → Named l
unfolding is_name
named l e =
    let h = and_four (leb 1 (length l)) (leb (length l) 128) (all_name_bytes l) (not (holds_cdata_end l)) e in
    record { some = leb-true 1 (length l) h.0; few = leb-true (length l) 128 h.1; whole = name_word l h.2 }

-- ---- a part

pub lasting_range : (s : ℕ) → is_lasting s ≡ true → (1 ≤ s) × (s ≤ 31_536_000)
lasting_range s e =
    (leb-true 1 s (and_left (leb 1 s) (leb s 31_536_000) e), leb-true s 31_536_000 (and_right (leb 1 s) (leb s 31_536_000) e))

pub record PartRange (p : Part) : Type 0 where
  pub number : p.number ≤ 16
  pub total : p.total ≤ 16
  pub lasting : is_lasting_time p.lasting ≡ true

pub part_range : (p : Part) → is_parts (Some p) ≡ true → PartRange p
unfolding is_parts
part_range p e =
    let h = and_four (leb 1 p.number) (leb p.number p.total) (leb p.total 16) (is_lasting_time p.lasting) e in
    let n = leb-true p.number p.total h.1 in
    let t = leb-true p.total 16 h.2 in
    record { number = omega arith; total = t; lasting = h.3 }

-- ---- a CAP sheet

pub record CapRange (f : CapFacts) (sender name : List ℕ) : Type 0 where
  pub part : is_parts f.parts ≡ true
  pub from : Named sender
  pub called : Named name

pub cap_range : (f : CapFacts) (sender name : List ℕ) → in_range (cap f sender name) ≡ true → CapRange f sender name
unfolding in_range
cap_range f sender name e =
    let h = and_three (is_parts f.parts) (is_name sender) (is_name name) e in
    record { part = h.0; from = named sender h.1; called = named name h.2 }

-- ---- a WARN sheet

pub record WarnRange (x : WarnFacts) : Type 0 where
  pub event : x.event < 0x1_0000_0000
  pub number : x.number < 0x1_0000
  pub origin : x.origin < 0x1_0000_0000
  pub some : 1 ≤ x.lasting
  pub lasting : x.lasting ≤ 31_536_000
  pub hazard : x.hazard < 0x100
  pub kind : x.kind < 0x100
  pub urgency : x.urgency < 0x100
  pub severity : x.severity < 0x100
  pub certainty : x.certainty < 0x100
  pub response : x.response < 0x100

pub warn_range : (x : WarnFacts) → in_range (warn x) ≡ true → WarnRange x
unfolding in_range fits_packet
warn_range x e =
    let tl = is_lasting x.lasting in
    let te = ltb x.event 0x1_0000_0000 in
    let tn = ltb x.number 0x1_0000 in
    let to = ltb x.origin 0x1_0000_0000 in
    let th = ltb x.hazard 0x100 in
    let tk = ltb x.kind 0x100 in
    let tu = ltb x.urgency 0x100 in
    let ts = ltb x.severity 0x100 in
    let tc = ltb x.certainty 0x100 in
    let tr = ltb x.response 0x100 in
    let l = lasting_range x.lasting (and_left tl (fits_packet x) e) in
    let f = and_four (te && tn && to && th && tk && tu) ts tc tr (and_right tl (fits_packet x) e) in
    let g = and_four (te && tn && to) th tk tu f.0 in
    let h = and_three te tn to g.0 in
    record {
      event = ltb-true x.event 0x1_0000_0000 h.0;
      number = ltb-true x.number 0x1_0000 h.1;
      origin = ltb-true x.origin 0x1_0000_0000 h.2;
      some = l.0;
      lasting = l.1;
      hazard = ltb-true x.hazard 0x100 g.1;
      kind = ltb-true x.kind 0x100 g.2;
      urgency = ltb-true x.urgency 0x100 g.3;
      severity = ltb-true x.severity 0x100 f.1;
      certainty = ltb-true x.certainty 0x100 f.2;
      response = ltb-true x.response 0x100 f.3;
    }
