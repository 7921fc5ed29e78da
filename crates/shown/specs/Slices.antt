-- "A fact sheet's sender and name are shown as parts of the lent document."
use Rattle.std.specs.Prelude.{List, ℕ}
use Rattle.sheet.specs.Sheet.{Sheet, cap}
use Rattle.sheet.specs.Reading.{span_in}
use Rattle.shown.specs.declared.Facts.{Facts}

-- the sender and the name that the facts of a sheet show in the text l
abbrev pub sender_in : List ℕ → Facts → List ℕ
sender_in l f = span_in l f.sender

abbrev pub name_in : List ℕ → Facts → List ℕ
name_in l f = span_in l f.name

-- the sheet that the facts make with the text l
abbrev pub sheet_with : List ℕ → Facts → Sheet
sheet_with l f = cap f.facts (sender_in l f) (name_in l f)
