-- Tags: where one ends, and what ends one. An offset is carried along, so that each answer is an offset of the whole document.
use Rattle.std.specs.Prelude.{Bool, true, false, cond, ◌&&◌, ◌||◌, List, [], ◌∷◌, ℕ, ◌+◌, eqb, drop, Option, Some, None}
use Prim.Native.Char.{code}
use Rattle.text.specs.Ascii.{ascii}
use Rattle.text.specs.Bytes.{spaces, leading}
use Rattle.text.specs.Parts.{starts_with}
use Rattle.xml_tags.specs.declared.Tail.{Tail}
use Rattle.xml_tags.specs.declared.Tail.TheVariants.{Open, Empty}
use Rattle.xml_tags.specs.Bytes.{is_tag_byte}

-- the quote that is open after a byte, if one is; q is the one open before it
abbrev pub quote_after : Option ℕ → ℕ → Option ℕ
quote_after None b = cond (eqb b (code "\"") || eqb b (code "'")) (Some b) None
quote_after (Some q) b = cond (eqb b q) None (Some q)

abbrev pub is_outside : Option ℕ → Bool
is_outside None = true
is_outside (Some q) = false

-- "A tag .. runs to the first ">" outside quotes"; None for one without its end
unfoldable pub tag_end : Option ℕ → ℕ → List ℕ → Option ℕ
tag_end q i [] = None
tag_end q i (b ∷ l) = cond (is_outside q && eqb b (code ">")) (Some i) (tag_end (quote_after q b) (i + 1) l)

-- where the name that starts at an offset ends
abbrev pub name_end : List ℕ → ℕ → ℕ
name_end l at = at + leading is_tag_byte (drop at l)

-- "white space may precede ">" or "/>"": what ends a tag from an offset on, with the offset after it; None for anything else
abbrev tail_at : List ℕ → ℕ → Option Tail
tail_at l at =
    cond (starts_with (ascii ">") (drop at l)) (Some (Open (at + 1)))
    (cond (starts_with (ascii "/>") (drop at l)) (Some (Empty (at + 2)))
    None)

unfoldable pub tail : List ℕ → ℕ → Option Tail
tail l at = tail_at l (at + spaces (drop at l))
