-- The library's search stops at the event's first used entry.
use Rattle.std.proofs.Common.{rules, ◌∙◌}
use Rattle.std.proofs.lemmas.Iterator.{YieldsList-from_slice}
use Rattle.std.proofs.lemmas.Iterator.Search.{position_from_yields_List}
use Rattle.events.specs.Table.{is_of, position_of}
use Rattle.events.proofs.Search.{first_position}
use Rattle.events.proofs.tables.find.Goals as goal

pub returns : goal.returns
unfolding position_of
returns c = let test = is_of c.args.id.key c.args.id.event in
    position_from_yields_List test _ _ _ c.position.ensures.ran (YieldsList-from_slice c.args.entries.now cc) (λ x b q k. search rules)
    ∙ first_position test c.args.entries.now
