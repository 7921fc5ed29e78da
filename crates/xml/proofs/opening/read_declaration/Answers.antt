-- "?>" ends inside the document.
use mathlib.Core.Path.{sym, ◌∙◌}
use Prim.Native.Nat.{◌+◌}
use native.Mathlib.Omega.{arith}
use Rattle.text.specs.Ascii.{ascii}
use Rattle.text.specs.Bytes.{led_by}
use Rattle.xml.specs.Bytes.{is_control}
use Rattle.xml.proofs.Searches.{ends_with}
use Rattle.xml.proofs.opening.read_declaration.Goals as goal

pub overflow_add-end : goal.overflow_add-end
overflow_add-end c = let a = c.args in
    omega (arith, ends_with (ascii "?>") (led_by is_control) a.s.now (a.at + 6) _ (omega arith) (sym c.read_declaration_text.ensures ∙ c.in-Ok.is))

pub overflow_sub-end : goal.overflow_sub-end
overflow_sub-end c = let a = c.args in
    omega (arith, ends_with (ascii "?>") (led_by is_control) a.s.now (a.at + 6) _ (omega arith) (sym c.read_declaration_text.ensures ∙ c.in-Ok.is))
