-- What `?` makes of results.
use mathlib.Core.Path.{◌≡◌, ap}
use Rattle.std.specs.Prelude.{Result, Ok, Err, IsErr, IsErrAnd, OnOk}

-- an error that was made from another
pub err_is : {A E : Type 0} (r : Result A E) (e : E) → IsErr r × IsErrAnd r (λ y. y ≡ e) → r ≡ Err e
err_is (Ok x) e h = absurd h.1
err_is (Err y) e h = ap Err h.1

pub on_ok : {A E B : Type 0} (r : Result A E) {x y : B} → x ≡ y → OnOk r (x ≡ y)
on_ok (Ok a) e = e
on_ok (Err z) e = tt
