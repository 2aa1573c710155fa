use Rattle.mo_report_lines.proofs.Options.{some_to, none_to}
use Rattle.mo_report_lines.proofs.Derivatives.{never_derived, not_closed, only_derivative}
use Rattle.mo_report_lines.proofs.name.after_derivative.Goals as goal

pub returns-in_err-rest-clause-none : goal.returns-in_err-rest-clause-none
returns-in_err-rest-clause-none c =
    let o = c.opened-depth.ensures in
    rw c.from_residual.ensures (never_derived c.args.text.now c.opened-depth.result.1.now c.opened-depth.result.0 o.to o.back o.end c.in_err-rest.ensures.none)

pub returns-clause-some : goal.returns-clause-some
returns-clause-some c =
    let o = c.opened-depth.ensures in
    some_to c.after_closed.result (λ x e. only_derivative c.args.text.now c.opened-depth.result.1.now c.opened-depth.result.0 o.to o.back o.end c.in_ok-rest.rest.now c.in_ok-rest.ensures.some x e) c.after_closed.ensures.some

pub returns-clause-none : goal.returns-clause-none
returns-clause-none c =
    let o = c.opened-depth.ensures in
    none_to c.after_closed.result (λ e. not_closed c.args.text.now c.opened-depth.result.1.now c.opened-depth.result.0 o.to o.back o.end c.in_ok-rest.rest.now c.in_ok-rest.ensures.some e) c.after_closed.ensures.none
