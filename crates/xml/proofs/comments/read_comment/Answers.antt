-- "-->" ends inside the document.
use mathlib.Core.Path.{sym, ◌∙◌}
use native.Mathlib.Omega.{arith}
use Rattle.text.specs.Ascii.{ascii}
use Rattle.xml.specs.Comments.{is_fault}
use Rattle.xml.proofs.Searches.{ends_with}
use Rattle.xml.proofs.comments.read_comment.Goals as goal

pub overflow_add-result : goal.overflow_add-result
overflow_add-result c = let a = c.args in
    omega (arith, ends_with (ascii "-->") is_fault a.s.now a.at _ (omega arith) (sym c.read_comment_text.ensures ∙ c.in_ok-end.was))
