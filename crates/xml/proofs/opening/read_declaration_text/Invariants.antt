-- From each offset on, after bytes without a fault, the declaration is what it is from the start on.
use mathlib.Core.Path.{◌≡◌}
use Rattle.xml.specs.Opening.{declaration_text}
use Rattle.xml.proofs.opening.read_declaration_text.Given as goal

abbrev pub invariant-loop-i : goal.invariant-loop-i
invariant-loop-i l = declaration_text l.s l.i ≡ declaration_text l.s l.at
