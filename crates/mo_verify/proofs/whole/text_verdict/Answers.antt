use Rattle.mo_verify.specs.Verdict as verdict
use Rattle.mo_verify.proofs.whole.text_verdict.Goals as goal

pub returns-in-Some : goal.returns-in-Some
returns-in-Some c = verdict.unreadable c.in-Some.ensures.some
