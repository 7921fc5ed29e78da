-- The name space attribute: its value with its quotes lies inside the document.
use mathlib.Core.Path.{◌≡◌, sym, ◌∙◌}
use mathlib.Core.Bool.{Bool, true, ◌||◌}
use mathlib.Core.List.{List}
use Prim.Native.Nat.{ℕ, ◌+◌, ◌≤◌}
use Prim.Native.Char.{code}
use native.Mathlib.Omega.{arith}
use lib.ListN.{length, drop}
use Rattle.text.specs.Parts.{starts_with}
use Rattle.text.specs.Logic.{by_test}
use Rattle.xml_tags.specs.Attributes.{quoted, quoted_length}
use Rattle.text.proofs.Parts.{starts_at_le}

-- a and b are what the tests for the value in either quote gave
pub value_within :
    (l : List ℕ) (at : ℕ) {a b : Bool} → a ≡ starts_with (quoted (code "\"")) (drop at l) → b ≡ starts_with (quoted (code "'")) (drop at l)
    → a || b ≡ true → at + quoted_length ≤ length l
value_within l at {a} x y e =
    by_test a
    (λ f. starts_at_le (quoted (code "\"")) l at (omega arith) (sym x ∙ f))
    (λ f. starts_at_le (quoted (code "'")) l at (omega arith) (sym y ∙ (rw f at e)))
