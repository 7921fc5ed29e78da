-- Before each turn the answer from the offset `at` on, with `count` read-backs before it, is the answer to the whole text.
-- a read-back was met: it has a byte, and lies within the text
use mathlib.Core.Path.{◌≡◌}
use Prim.Native.Nat.{◌-◌, ◌≤◌}
use lib.ListN.{length}
use Rattle.sheet.specs.Answers.{read_back}
use Rattle.reader.proofs.Turns.{answer_from}
use Rattle.reader.proofs.read_back.Given as goal

abbrev pub invariant-loop-at : goal.invariant-loop-at
invariant-loop-at l =
    (l.count ≤ l.at) × (l.at ≤ length l.text) × (answer_from l.text l.k l.at l.count l.sheet ≡ read_back l.text l.k)

abbrev pub decreases-loop-at : goal.decreases-loop-at
decreases-loop-at l = length l.text - l.at
