-- From each offset on, after bytes without a fault, the comment is what it is from the start on.
use mathlib.Core.Path.{◌≡◌}
use Rattle.xml.specs.Comments.{comment_text}
use Rattle.xml.proofs.comments.read_comment_text.Given as goal

abbrev pub invariant-loop-i : goal.invariant-loop-i
invariant-loop-i l = comment_text l.s l.i ≡ comment_text l.s l.at
