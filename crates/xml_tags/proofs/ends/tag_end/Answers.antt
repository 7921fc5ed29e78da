-- Each way through the body is a case of the definition.
use borrow.Author.Tests.{eq-eqb, ne_eqb}
use Rattle.xml_tags.proofs.TagEnds.{tag_on, tag_stop, tag_none}
use Rattle.xml_tags.proofs.ends.tag_end.Goals.{in-Some+then-b-open, in-Some+else-b-open, in-None+else-b-eq62+then-b, in-None+else-b-eq62+else-b}
use Rattle.xml_tags.proofs.ends.tag_end.Goals as goal

pub returns-then-b-eq62 : goal.returns-then-b-eq62
returns-then-b-eq62 c = tag_stop _ _ _ _ c.loop-i.invariant c.loop-i-test.true (rw (c.in-None.is, eq-eqb _ _ c.if-b-eq62.true))

pub loop-i-preserved : goal.loop-i-preserved
loop-i-preserved c = let v = c.loop-i.invariant in let h = c.loop-i-test.true in
    elim c.match-quote.branch [
      | in-Some+then-b-open w ↦
          tag_on _ _ _ _ v _ h (rw w.in-Some.is) (rw (w.quote-is, w.in-Some.is, eq-eqb _ _ w.if-b-open.true))
      | in-Some+else-b-open w ↦
          tag_on _ _ _ _ v _ h (rw w.in-Some.is) (rw (w.quote-is, w.in-Some.is, ne_eqb _ _ w.if-b-open.false))
      | in-None+else-b-eq62+then-b w ↦
          tag_on _ _ _ _ v _ h (rw (w.in-None.is, ne_eqb _ _ w.if-b-eq62.false)) (rw (w.quote-is, w.in-None.is, w.if-b.true))
      | in-None+else-b-eq62+else-b w ↦
          tag_on _ _ _ _ v _ h (rw (w.in-None.is, ne_eqb _ _ w.if-b-eq62.false)) (rw (w.quote-is, w.in-None.is, w.if-b.false))
    ]

pub returns : goal.returns
returns c = tag_none _ _ _ _ c.loop-i.invariant c.loop-i-test.false
