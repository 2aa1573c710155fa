use Rattle.mo_verify.proofs.Judging.{ok_through, deficit_verdict}
use Rattle.mo_verify.proofs.whole.begun_verdict.Goals as goal

pub returns-in-Missing : goal.returns-in-Missing
returns-in-Missing c =
    ok_through c.compared.result _ _ (λ v is. deficit_verdict c.args.m.now c.args.text.now c.deficit_report.new.report v c.requires.begun c.deficit_report.ensures is) c.compared.ensures
