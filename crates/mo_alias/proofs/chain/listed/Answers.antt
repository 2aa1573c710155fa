use Rattle.mo_alias.proofs.Taking.{listed_done, listed_next}
use Rattle.mo_graph.proofs.Ready.{empty_at}
use Rattle.mo_alias.proofs.chain.listed.Goals as goal

pub loop-number-preserved : goal.loop-number-preserved
loop-number-preserved c = rw c.in_ok-push.ensures.ok (listed_next c.args.set c.loop-number.set c.pop_first.new.self c.loop-number.made c.in-Some.number c.loop-number.invariant c.in-Some.ensures.member c.in-Some.ensures.least c.in-Some.ensures.updates)

pub returns-clause-members : goal.returns-clause-members
returns-clause-members c = listed_done c.args.set c.loop-number.set c.loop-number.made c.loop-number.invariant (empty_at c.loop-number.set c.in_default.ensures.variant.1)
