-- Each field is what `two_digits` gave; the year is made of two of them.
use native.Mathlib.Omega.{arith}
use Rattle.time.specs.Time.{stamp_of}
use Rattle.time.proofs.Forms.{four_digits}
use Rattle.time.proofs.form.stamp_of.Goals as goal

pub returns : goal.returns
unfolding stamp_of
returns c = cc (four_digits c.args.text.now (omega arith))
