use Rattle.std.proofs.Common.{refl}
use Rattle.mo_verify.specs.Finding.{already, one_more}
use Rattle.mo_verify.proofs.chains.mark.Goals as goal

pub returns-then-marks-place : goal.returns-then-marks-place
returns-then-marks-place c = already c.in-Some.place c.in-Some.is c.if-marks-place.true refl refl

pub returns : goal.returns
returns c = one_more c.in-Some.place c.in-Some.is c.if-marks-place.false refl c.in_ok-push.ensures.items
