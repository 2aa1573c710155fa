-- What is held, or what is resolved now.
use Rattle.std.proofs.Common.{refl}
use Rattle.mo_equations.proofs.SharedExpressions.{resolved_by, shared_made}
use Rattle.mo_equations.proofs.shared.shared_for.Goals as goal

pub returns-in-Some-clause-is : goal.returns-in-Some-clause-is
returns-in-Some-clause-is c = resolved_by c.args.s.now _ c.in-Some.shared c.args.asked.now c.in-Some.ensures.shared c.in-Some.ensures.by c.requires.left

pub returns-in-Some-found-clause-shared : goal.returns-in-Some-found-clause-shared
returns-in-Some-found-clause-shared c =
    shared_made c.args.s.now c.resolution_of.new.s _ _ c.args.asked.now c.in_ok-found.ensures.stays.goes.grows c.requires.frame (rw c.in-Some-found.is at c.in_ok-found.ensures.resolution)
    (record { frame = refl; outside = c.requires.outside; value = c.requires.value }) c.requires.left (rw c.in-Some-found.is at c.in_ok-found.ensures.is)
