-- A text that has a class has 3 to 12 letters, and its hash leads to its class.
use native.Mathlib.Omega.{arith}
use Rattle.schema.proofs.Hash.{found_below, not_short, not_long, found_class}
use Rattle.schema.proofs.names.candidate.Goals as goal

pub returns-then-n-lt3 : goal.returns-then-n-lt3
returns-then-n-lt3 c = (omega arith, λ h. absurd (omega (arith, c.then-n-lt3.either, not_short c.requires c.args.t.now h, not_long c.requires c.args.t.now h)))

pub returns : goal.returns
returns c = (found_below c.requires _ (omega arith), λ n. rw c.hash.ensures (found_class c.requires c.args.t.now n))
