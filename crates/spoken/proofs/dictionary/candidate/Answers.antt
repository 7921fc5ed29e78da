-- A word that has a code has 3 to 9 letters, and its hash leads to its code.
use mathlib.Core.List.{[]}
use native.Mathlib.Omega.{arith}
use Rattle.spoken.proofs.Hash.{found_low, not_short, not_long, found_code}
use Rattle.spoken.proofs.dictionary.candidate.Goals as goal

pub returns-in_default : goal.returns-in_default
returns-in_default c = (omega arith, λ h. absurd (omega (arith, not_short c.args.word.now h)))

pub returns-in-None : goal.returns-in-None
returns-in-None c = (omega arith, λ h. absurd (omega (arith, not_long c.args.word.now h, c.in-None.ensures.lookup.3)))

pub returns-in-Some : goal.returns-in-Some
returns-in-Some c = let l = c.in-Some.ensures.lookup in
    rw (l.4 (omega arith) []) (found_low _ _ l.3.0 (omega arith), found_code c.args.word.now)
