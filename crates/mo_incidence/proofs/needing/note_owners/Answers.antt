use Rattle.std.proofs.Common.{arith}
use Rattle.mo_incidence.proofs.Owning.{owners_next}
use Rattle.mo_incidence.proofs.needing.note_owners.Goals as goal

pub loop-i-preserved : goal.loop-i-preserved
loop-i-preserved c =
    owners_next _ _ _ c.loop-i.invariant (omega (arith, c.requires.known c.loop-i.i (omega arith))) (λ r l same. let e = c.requires.apart r c.loop-i.i (omega arith) (omega arith) same in omega arith)
