use Rattle.std.proofs.Common.{length}
use Rattle.mo_incidence.specs.Offsets.{by_place}
use Rattle.mo_certify.specs.Reasons.{named}
use Rattle.mo_certify.proofs.Following.{IsFollowing, unmarked}
use Rattle.mo_certify.proofs.least.leads_to_zero.Given as goal

abbrev pub invariant-follow : goal.invariant-follow
invariant-follow l = IsFollowing (by_place l.c) (named l.from) (length l.c) l.marks l.start l.mark l.place

abbrev pub decreases-follow : goal.decreases-follow
decreases-follow l = unmarked l.marks
