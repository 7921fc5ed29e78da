-- Texts of leaf elements.
use Rattle.std.specs.Prelude.{Bool, false, not, ◌&&◌, ◌||◌, List, [], ◌∷◌, ℕ, eqb, drop, Result}
use Prim.Native.Char.{code}
use Rattle.text.specs.Ascii.{ascii}
use Rattle.text.specs.Parts.{starts_with}
use Rattle.xml.specs.declared.ContentError.{ContentError}
use Rattle.xml.specs.Bytes.{is_control}
use Rattle.xml.specs.Searches.{up_to}

-- "references but the five named ones"
unfoldable pub is_reference : List ℕ → Bool
is_reference l =
    starts_with (ascii "&amp;") l || starts_with (ascii "&lt;") l || starts_with (ascii "&gt;") l
    || starts_with (ascii "&apos;") l || starts_with (ascii "&quot;") l

-- a fault at the head of a text: ""]]>" in text, bytes below 0x20 but tab, LF, CR, references but the five named ones"
unfoldable pub is_fault : List ℕ → Bool
is_fault [] = false
is_fault (b ∷ l) =
    is_control b || (eqb b (code "&") && not (is_reference (b ∷ l))) || starts_with (ascii "]]>") (b ∷ l)

-- the text that starts at an offset: "a whole text up to the next "<""
unfoldable pub content : List ℕ → ℕ → Result ℕ ContentError
content l at = up_to (starts_with (ascii "<")) is_fault at (drop at l)
