use Rattle.mo_verify.proofs.Judging.{can_cover}
use Rattle.mo_verify.proofs.whole.assigned_verdict.Goals as goal

pub right_claims-requires-clause-can : goal.right_claims-requires-clause-can
right_claims-requires-clause-can c = can_cover c.args.m.now c.args.text.now c.args.work.assignment (rw c.requires.model at c.requires.assigned) (rw c.requires.model at c.requires.all)
