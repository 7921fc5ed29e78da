-- A text too short for the byte after "<?xml" starts no declaration.
use Rattle.xml.proofs.Declaration.{declares_short, declares_is}
use Rattle.xml.proofs.opening.declares.Goals as goal

pub returns-then-s-at : goal.returns-then-s-at
returns-then-s-at c = declares_short _ _ c.if-s-at.true

pub returns : goal.returns
returns c = let a = c.args in
    declares_is a.s.now a.at _ _ c.starts_at.ensures c.is_space.ensures
