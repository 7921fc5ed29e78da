-- The table of hashes passes its test, computed here. If the text is the candidate's name, its class is the candidate; if not, it has none.
use mathlib.Core.Path.{sym, ◌∙◌}
use borrow.Author.Rules.{rules}
use Rattle.schema.specs.Classes.{names}
use Rattle.schema.proofs.Naming.{named_class}
use Rattle.schema.proofs.Hash.{other_name}
use Rattle.schema.proofs.names.class_of.Goals as goal

pub candidate-class-requires : goal.candidate-class-requires
unfolding names
candidate-class-requires c = search rules

pub returns-then-is_named : goal.returns-then-is_named
unfolding names
returns-then-is_named c = let w = c.candidate-class in
    sym (named_class _ w.result w.ensures.0 (sym c.is_named.ensures ∙ c.if-is_named.true))

pub returns-else-is_named : goal.returns-else-is_named
unfolding names
returns-else-is_named c = let w = c.candidate-class in
    other_name _ w.result w.ensures.1 (sym c.is_named.ensures ∙ c.if-is_named.false)
