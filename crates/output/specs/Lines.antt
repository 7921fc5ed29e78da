-- What the programs write about a sheet.
use Rattle.std.specs.Prelude.{cond, List, ℕ}
use Rattle.text.specs.Ascii.{ascii}
use Rattle.sheet.specs.Sheet.{Sheet, in_range}
use Rattle.sheet.specs.Sentence.{sentence}

-- its sentence, or that it has none
abbrev pub line_of : Sheet → List ℕ
line_of x = cond (in_range x) (sentence x) (ascii "not written\n")
