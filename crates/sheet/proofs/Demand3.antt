-- Demand 3 of the request, proved.
use mathlib.Core.Path.{◌≡◌, sym, ◌∙◌}
use mathlib.Core.List.{List}
use Prim.Native.Nat.{ℕ}
use Rattle.text.specs.Answers.{Answer}
use Rattle.text.specs.Parts.{part}
use Rattle.sheet.specs.Sheet.{Sheet}
use Rattle.sheet.specs.Demand.{Call, Run, not_refused, Demand3}
use Rattle.sheet.proofs.WriteAll.{runs, writes}
use Rattle.sheet.proofs.ReadAll.{reads, sentences_injective, exact, never}

same_sheets :
    {xs ys : List Sheet} {rs qs : List (Answer ℕ)} {d c e f : List ℕ} {at start end last : ℕ}
    → Run Call xs rs d at e end → Run Call ys qs c start f last → part e at end ≡ part f start last → not_refused xs rs ≡ not_refused ys qs
same_sheets {xs} {ys} {rs} {qs} v w q =
    let a = writes v in
    let b = writes w in
    sentences_injective (not_refused xs rs) (not_refused ys qs) a.sound b.sound (sym a.text ∙ q ∙ b.text)

pub demand_3 : Demand3
demand_3 = record { runs = runs; writes = writes; same = same_sheets; reads = reads; exact = exact; never = never }
