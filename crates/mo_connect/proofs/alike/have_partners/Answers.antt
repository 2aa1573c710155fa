use Rattle.mo_connect.proofs.AlikeLemmas.{partners_more, without_partner, false_answer}
use Rattle.mo_connect.proofs.alike.have_partners.Goals as goal

pub returns-in-None : goal.returns-in-None
returns-in-None c = false_answer (without_partner _ _ _ _ c.index-leaves-i.is c.loop-i-test.true c.in-None.ensures)

pub loop-i-preserved : goal.loop-i-preserved
loop-i-preserved c = partners_more _ _ _ _ c.index-leaves-i.is c.loop-i-test.true c.loop-i.invariant _ c.in-Some.ensures
