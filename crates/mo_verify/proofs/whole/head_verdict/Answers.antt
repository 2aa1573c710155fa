use Rattle.std.proofs.Common.{◌≡◌, length, ap, ◌∙◌}
use Rattle.mo_incidence.specs.Signature.{equations}
use Rattle.mo_verify.specs.Verdict.{head_text}
use Rattle.mo_verify.proofs.Feeds.{blank_head}
use Rattle.mo_verify.proofs.Judging.{equations_of, some_through, none_through, head_verdict, begun}
use Rattle.mo_verify.proofs.whole.head_verdict.Goals as goal

pub returns-clause-some : goal.returns-clause-some
returns-clause-some c =
    let count : equations c.args._inc.now ≡ length c.args.m.now.equations = ap equations c.requires.model ∙ equations_of c.args.m.now c.args.text.now in
    let head : c.as_str.result.now ≡ head_text c.args.m.now = c.as_str.ensures ∙ (c.in_ok-head.ensures ∙ blank_head c.args.m.now c.args._inc.now c.args.blank.now count c.requires.blank) in
    some_through c.line_verdict.result _ _ (λ v is. head_verdict c.args.m.now c.args.text.now v c.requires.readable (rw head at is)) c.line_verdict.ensures.some

pub returns-clause-none : goal.returns-clause-none
returns-clause-none c =
    let count : equations c.args._inc.now ≡ length c.args.m.now.equations = ap equations c.requires.model ∙ equations_of c.args.m.now c.args.text.now in
    let head : c.as_str.result.now ≡ head_text c.args.m.now = c.as_str.ensures ∙ (c.in_ok-head.ensures ∙ blank_head c.args.m.now c.args._inc.now c.args.blank.now count c.requires.blank) in
    none_through c.line_verdict.result _ _ (λ agree. begun c.args.m.now c.args.text.now c.requires.readable (rw head at agree)) c.line_verdict.ensures.none
