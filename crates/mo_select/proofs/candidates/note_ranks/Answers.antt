use Rattle.std.proofs.Common.{arith}
use Rattle.mo_incidence.proofs.Owning.{owners_next}
use Rattle.mo_select.proofs.candidates.note_ranks.Goals as goal

pub loop-place-preserved : goal.loop-place-preserved
loop-place-preserved c =
    owners_next _ _ _ c.loop-place.invariant (omega (arith, c.requires.known c.loop-place.place (omega arith)))
    (λ r l same. let e = c.requires.apart r c.loop-place.place (omega arith) (omega arith) same in omega arith)
