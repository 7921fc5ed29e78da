-- A tag's end is looked for after its name.
use mathlib.Core.Path.{◌≡◌, sym, ap, ◌∙◌}
use mathlib.Core.Bool.{true}
use mathlib.Core.List.{List}
use Prim.Native.Nat.{ℕ, ◌+◌}
use native.Mathlib.Omega.{arith}
use lib.ListN.{drop}
use lib.Seq.{drop-drop}
use Rattle.std.specs.Prelude.{None}
use Rattle.text.specs.Ascii.{ascii}
use Rattle.text.specs.Logic.{and_right}
use Rattle.text.specs.Parts.{starts_with}
use Rattle.text.proofs.Parts.{starts_append}
use Rattle.xml_tags.specs.Tags.{tag_end}
use Rattle.xml_tags.proofs.Skips.{tag_end_slash}

slash_after : (l : List ℕ) (at : ℕ) → starts_with (ascii "</") (drop at l) ≡ true → starts_with (ascii "/") (drop (at + 1) l) ≡ true
slash_after l at s =
    ap (starts_with (ascii "/")) (sym (drop-drop 1 at l))
    ∙ and_right (starts_with (ascii "<") (drop at l)) (starts_with (ascii "/") (drop 1 (drop at l)))
    (starts_append (ascii "<") (ascii "/") (drop at l) ∙ s)

-- an end tag's end from its name on is its end from after its "<" on
pub end_tag_end :
    (l : List ℕ) (at : ℕ) → starts_with (ascii "</") (drop at l) ≡ true
    → tag_end None (at + 1) (drop (at + 1) l) ≡ tag_end None (at + 2) (drop (at + 2) l)
end_tag_end l at s = let z : at + 1 + 1 ≡ at + 2 = omega arith in rw z at (tag_end_slash l (at + 1) (slash_after l at s))
