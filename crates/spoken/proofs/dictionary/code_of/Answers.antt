-- If the word equals the candidate's, its code is the candidate; if not, it has none.
use mathlib.Core.Path.{sym, ◌∙◌}
use Rattle.std.specs.Cmp.Lexicographic.{same_text, other_text}
use Rattle.spoken.proofs.Hash.{code_same, code_other}
use Rattle.spoken.proofs.dictionary.code_of.Goals as goal

pub returns-then-eq : goal.returns-then-eq
returns-then-eq c = let w = c.candidate-w in
    code_same _ _ w.ensures.0 (same_text _ _ (sym c.if-eq.true ∙ c.eq.ensures) ∙ c.word_of.ensures)

pub returns-else-eq : goal.returns-else-eq
returns-else-eq c = let w = c.candidate-w in
    code_other _ _ w.ensures.1 (λ e. other_text _ _ (sym c.if-eq.false ∙ c.eq.ensures) (e ∙ sym c.word_of.ensures))
