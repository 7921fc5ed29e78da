-- "warn" tells the two kinds of sheet apart, as in the definition.
use mathlib.Core.Path.{ap, ◌∙◌}
use Rattle.text.specs.Ascii.{ascii}
use Rattle.text.specs.Parts.{starts_with}
use Rattle.sheet.specs.Reading.{warn_of}
use Rattle.reader.proofs.Exact.{found_warn, found_cap}
use Rattle.reader.proofs.line.found_at.Goals as goal

pub returns-then-starts_with : goal.returns-then-starts_with
returns-then-starts_with c = let s = c.skip-start.ensures in
    found_warn _ _ (c.starts_with.ensures ∙ ap (starts_with (ascii "warn")) s) c.if-starts_with.true
    (c.warn_of.ensures ∙ ap warn_of s)

pub returns : goal.returns
returns c = let s = c.skip-start.ensures in
    found_cap _ _ (c.starts_with.ensures ∙ ap (starts_with (ascii "warn")) s) c.if-starts_with.false c.cap_at.ensures
