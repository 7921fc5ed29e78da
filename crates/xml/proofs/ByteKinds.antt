-- What a byte of a kind is not.
use mathlib.Core.Path.{◌≡◌}
use mathlib.Core.Bool.{true, false, not, ◌&&◌}
use Prim.Native.Nat.{ℕ}
use Prim.Native.Char.{code}
use lib.Dec.{eqb}
use borrow.Author.Tests.{not-true}
use Rattle.text.specs.Logic.{and_left}
use Rattle.xml.specs.Bytes.{is_control, is_plain}

pub plain_no_control : (b : ℕ) → is_plain b ≡ true → is_control b ≡ false
plain_no_control b e =
    not-true (is_control b)
    (and_left (not (is_control b)) (not (eqb b (code "<")))
    (and_left (not (is_control b) && not (eqb b (code "<"))) (not (eqb b (code "&")))
    (and_left (not (is_control b) && not (eqb b (code "<")) && not (eqb b (code "&"))) (not (eqb b (code "]"))) e)))
