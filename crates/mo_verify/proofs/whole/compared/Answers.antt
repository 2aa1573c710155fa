use Rattle.std.proofs.Common.{◌≡◌, refl, ◌∙◌}
use Rattle.mo_report.specs.Lines.{report_lines}
use Rattle.mo_verify.specs.Steps.{differs, same}
use Rattle.mo_verify.proofs.Judging.{ok_through}
use Rattle.mo_verify.proofs.whole.compared.Goals as goal

pub returns-in-None : goal.returns-in-None
returns-in-None c = same (c.in-None.ensures.none ∙ (c.as_bytes.ensures.value ∙ (c.as_str.ensures ∙ c.in_ok-wanted.ensures))) refl

pub returns-in-Some : goal.returns-in-Some
returns-in-Some c =
    let wanted : c.as_bytes.result.now ≡ report_lines c.args.report.now = c.as_bytes.ensures.value ∙ (c.as_str.ensures ∙ c.in_ok-wanted.ensures) in
    let differ = rw wanted at c.in-Some.ensures.some in
    ok_through c.told.result _ _ (λ v is. differs c.in-Some.difference.line c.in-Some.difference.printed.now c.in-Some.difference.wanted.now differ is) c.told.ensures
