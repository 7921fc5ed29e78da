-- Fact sheets and their ranges (document 01, "The sentence").
use Rattle.std.specs.Prelude.{Option, Some, None, Bool, true, false, not, ◌&&◌, ◌||◌, List, [], ◌∷◌, ℕ, eqb, leb, ltb, length}
use Rattle.std.specs.List.{list_all}
use Prim.Native.Char.{code}
use Rattle.text.specs.Ascii.{ascii}
use Rattle.text.specs.Parts.{starts_with}
use Rattle.words.specs.Duration.{is_lasting}
use Rattle.sheet.specs.declared.Part.{Part}
use Rattle.sheet.specs.declared.CapFacts.{CapFacts}
use Rattle.sheet.specs.declared.WarnFacts.{WarnFacts}

-- "CAP or WARN is a fact too": a CAP sheet is its facts, sender and name
pub data Sheet : Type 0 where
  cap : CapFacts → List ℕ → List ℕ → Sheet
  warn : WarnFacts → Sheet

-- ---- "Sender and identifier: 1 to 128 bytes above 0x20, without comma, "<" and "&""; "sender and name also hold no "]]>""

abbrev pub is_name_byte : ℕ → Bool
is_name_byte b = ltb 0x20 b && not (eqb b (code ",")) && not (eqb b (code "<")) && not (eqb b (code "&"))

unfoldable pub all_name_bytes : List ℕ → Bool
all_name_bytes l = list_all is_name_byte l

unfoldable pub holds_cdata_end : List ℕ → Bool
holds_cdata_end [] = false
holds_cdata_end (b ∷ l) = starts_with (ascii "]]>") (b ∷ l) || holds_cdata_end l

unfoldable pub is_name : List ℕ → Bool
is_name l = leb 1 (length l) && leb (length l) 128 && all_name_bytes l && not (holds_cdata_end l)

-- ---- "total to 16, part 1 to total or both 0, any lasting time 1 to 31,536,000 seconds, WARN's other fields any value of their width"

abbrev pub is_lasting_time : Option ℕ → Bool
is_lasting_time None = true
is_lasting_time (Some s) = is_lasting s

unfoldable pub is_parts : Option Part → Bool
is_parts None = true
is_parts (Some p) = leb 1 p.number && leb p.number p.total && leb p.total 16 && is_lasting_time p.lasting

-- WARN's fields by their width in the packet
unfoldable pub fits_packet : WarnFacts → Bool
fits_packet w =
    ltb w.event 0x1_0000_0000 && ltb w.number 0x1_0000 && ltb w.origin 0x1_0000_0000
    && ltb w.hazard 0x100 && ltb w.kind 0x100 && ltb w.urgency 0x100 && ltb w.severity 0x100 && ltb w.certainty 0x100
    && ltb w.response 0x100

unfoldable pub in_range : Sheet → Bool
in_range (cap f sender name) = is_parts f.parts && is_name sender && is_name name
in_range (warn w) = is_lasting w.lasting && fits_packet w
