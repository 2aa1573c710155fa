use Rattle.std.proofs.Common.{arith, rules}
use Rattle.mo_connect.proofs.AlikeLemmas.{same_steps}
use Rattle.mo_connect.proofs.alike.are_same_steps.Goals as goal

pub returns : goal.returns
returns c = (λ _. same_steps _ _ c.loop-k.k (omega arith) (omega arith) c.loop-k.invariant, λ _. search rules)
