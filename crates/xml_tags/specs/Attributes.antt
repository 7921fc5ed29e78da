-- The attribute of the alert start tag.
use Rattle.std.specs.Prelude.{cond, ◌&&◌, ◌||◌, List, [], ◌∷◌, ◌++◌, ℕ, ◌+◌, ◌-◌, leb, ltb, drop, Option, Some, None, Result, Ok, Err}
use Prim.Native.Char.{code}
use Rattle.text.specs.Ascii.{ascii}
use Rattle.text.specs.Bytes.{spaces, leading}
use Rattle.text.specs.Parts.{starts_with}
use Rattle.xml_tags.specs.declared.Tail.{Tail}
use Rattle.xml_tags.specs.declared.Tail.TheVariants as tail
use Rattle.xml_tags.specs.declared.Binding.{Binding}
use Rattle.xml_tags.specs.declared.NameSpaceError.{NameSpaceError}
use Rattle.xml_tags.specs.declared.NameSpaceError.TheVariants.{Empty, Fault}
use Rattle.xml_tags.specs.Bytes.{is_letter}
use Rattle.xml_tags.specs.Tags as tags

-- the first offset from an offset on that holds no white space
abbrev skipped : List ℕ → ℕ → ℕ
skipped l at = at + spaces (drop at l)

-- "the name space urn:oasis:names:tc:emergency:cap:1.2"
abbrev pub cap_name_space : List ℕ
cap_name_space = ascii "urn:oasis:names:tc:emergency:cap:1.2"

-- "in either quote"
abbrev pub quoted : ℕ → List ℕ
quoted q = q ∷ cap_name_space ++ (q ∷ [])

-- how many bytes that has
abbrev pub quoted_length : ℕ
quoted_length = 38

-- the offset after the tag, by what ends it; an empty tag is told apart
abbrev pub opened : Option Tail → Result ℕ NameSpaceError
opened (Some (tail.Open next)) = Ok next
opened (Some (tail.Empty next)) = Err Empty
opened None = Err Fault

-- the value, and nothing after it: "one attribute only"
unfoldable pub value : List ℕ → ℕ → Result ℕ NameSpaceError
value l at =
    cond (starts_with (quoted (code "\"")) (drop at l) || starts_with (quoted (code "'")) (drop at l))
    (opened (tags.tail l (at + quoted_length)))
    (Err Fault)

-- "white space may .. surround "=""
abbrev equals_at : List ℕ → ℕ → Result ℕ NameSpaceError
equals_at l at = cond (starts_with (ascii "=") (drop at l)) (value l (skipped l (at + 1))) (Err Fault)

unfoldable pub equals : List ℕ → ℕ → Result ℕ NameSpaceError
equals l at = equals_at l (skipped l at)

-- a tag that ends before an offset binds the prefix from p to u
abbrev pub bound : ℕ → ℕ → Result ℕ NameSpaceError → Result Binding NameSpaceError
bound p u (Ok next) = Ok (record { from = p; until = u; next = next })
bound p u (Err e) = Err e

-- "a prefix of 1 to 16 ASCII letters", from p to u
unfoldable pub prefixed : List ℕ → ℕ → ℕ → Result Binding NameSpaceError
prefixed l p u = cond (leb 1 (u - p) && leb (u - p) 16) (bound p u (equals l u)) (Err Fault)

-- "as default or under a prefix": after "xmlns"
unfoldable pub declared : List ℕ → ℕ → Result Binding NameSpaceError
declared l at =
    cond (starts_with (ascii ":") (drop at l))
    (prefixed l (at + 1) (at + 1 + leading is_letter (drop (at + 1) l)))
    (bound at at (equals l at))

-- the attribute after a name that ends at n: white space before it, then "xmlns"
abbrev attribute_at : List ℕ → ℕ → ℕ → Result Binding NameSpaceError
attribute_at l n at = cond (ltb n at && starts_with (ascii "xmlns") (drop at l)) (declared l (at + 5)) (Err Fault)

-- "The alert start tag has one attribute only": the prefix that it binds, and the offset after the tag
unfoldable pub name_space : List ℕ → ℕ → Result Binding NameSpaceError
name_space l n = attribute_at l n (skipped l n)
