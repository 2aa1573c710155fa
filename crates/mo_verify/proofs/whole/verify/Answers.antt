use Rattle.mo_verify.proofs.Judging.{ok_through, yes_is_right, admissible_is_shown, less_is_shown}
use Rattle.mo_verify.proofs.Deciding.{one_verdict}
use Rattle.mo_verify.proofs.Deficits.{complete}
use Rattle.mo_verify.proofs.whole.verify.Goals as goal

pub returns-in-Ok-clause-yes : goal.returns-in-Ok-clause-yes
returns-in-Ok-clause-yes c =
    let sound = rw (c.in-Ok.ensures.ok c.requires.sound) at c.equations-equations.ensures.sound in
    ok_through c.text_verdict.result _ _ (λ v is. yes_is_right c.args.m.now c.args.report.now sound v is) c.text_verdict.ensures

pub returns-in-Ok-clause-admissible : goal.returns-in-Ok-clause-admissible
returns-in-Ok-clause-admissible c = ok_through c.text_verdict.result _ _ (λ v is. admissible_is_shown c.args.m.now c.args.report.now v is) c.text_verdict.ensures

pub returns-in-Ok-clause-smaller : goal.returns-in-Ok-clause-smaller
returns-in-Ok-clause-smaller c = ok_through c.text_verdict.result _ _ (λ v is. less_is_shown c.args.m.now c.args.report.now v is) c.text_verdict.ensures

pub returns-in-Ok-clause-complete : goal.returns-in-Ok-clause-complete
returns-in-Ok-clause-complete c =
    let sound = rw (c.in-Ok.ensures.ok c.requires.sound) at c.equations-equations.ensures.sound in
    ok_through c.text_verdict.result _ _ (λ v is. λ names right. complete c.args.m.now names sound c.args.report.now c.requires.few right v is) c.text_verdict.ensures

pub returns-in-Ok-clause-only : goal.returns-in-Ok-clause-only
returns-in-Ok-clause-only c = ok_through c.text_verdict.result _ _ (λ v is. λ other that. one_verdict c.args.m.now c.args.report.now other v that is) c.text_verdict.ensures
