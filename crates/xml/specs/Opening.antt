-- What may stand before the first construct of a document.
use Rattle.std.specs.Prelude.{Bool, cond, ◌&&◌, List, [], ◌∷◌, ℕ, ◌+◌, ◌-◌, leb, length, get_or, drop, Result, Ok, Err}
use Rattle.text.specs.Ascii.{ascii}
use Rattle.text.specs.Bytes.{is_space, led_by}
use Rattle.text.specs.Parts.{starts_with}
use Rattle.xml.specs.declared.ContentError.{ContentError}
use Rattle.xml.specs.declared.ContentError.TheVariants as content
use Rattle.xml.specs.declared.PrologError.{PrologError}
use Rattle.xml.specs.Bytes.{is_control}
use Rattle.xml.specs.Searches.{up_to}

-- "Optional BOM"
abbrev pub bom : List ℕ
bom = 0xEF ∷ 0xBB ∷ 0xBF ∷ []

abbrev pub after_bom : List ℕ → ℕ
after_bom l = cond (starts_with bom l) 3 0

-- "optional declaration from "<?xml" and a white-space byte"
abbrev pub declares : List ℕ → Bool
declares l = starts_with (ascii "<?xml") l && is_space (get_or l 5 0)

-- "to the first "?>"": what stands after "<?xml" and the white-space byte; a control byte is a fault
abbrev pub declaration_text : List ℕ → ℕ → Result ℕ ContentError
declaration_text l at = up_to (starts_with (ascii "?>")) (led_by is_control) at (drop at l)

-- refused at an offset
abbrev pub refused_at : ℕ → Result ℕ PrologError
refused_at at = Err (record { offset = at })

-- "at most 128 bytes in all"; without its end a declaration is refused at the document's end
abbrev pub declaration_of : List ℕ → ℕ → Result ℕ ContentError → Result ℕ PrologError
declaration_of l at (Ok e) = cond (leb (e + 2 - at) 128) (Ok (e + 2)) (refused_at at)
declaration_of l at (Err (content.Fault p)) = refused_at at
declaration_of l at (Err content.Unended) = refused_at (length l)

-- the declaration at an offset
unfoldable pub declaration : List ℕ → ℕ → Result ℕ PrologError
declaration l at = declaration_of l at (declaration_text l (at + 6))

abbrev prolog_at : List ℕ → ℕ → Result ℕ PrologError
prolog_at l at = cond (declares (drop at l)) (declaration l at) (Ok at)

-- the offset after "Optional BOM; optional declaration", or of a fault in the declaration
unfoldable pub prolog : List ℕ → Result ℕ PrologError
prolog l = prolog_at l (after_bom l)
