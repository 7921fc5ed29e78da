-- Both bytes lie within the text, and a byte's value is at most 207.
use native.Mathlib.Omega.{arith}
use Rattle.time.proofs.Forms.{two_digits}
use Rattle.time.proofs.form.two_digits.Goals as goal

pub returns : goal.returns
returns c = (
  two_digits c.args.text.now c.args.at _ _ (omega arith) c.digit.ensures.0 c.digit-2.ensures.0,
  omega arith,
)
