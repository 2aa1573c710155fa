use Rattle.std.proofs.Common.{◌≤◌, arith}
use Rattle.mo_incidence.specs.Signature.{equations}
use Rattle.mo_certify.proofs.Following.{reason_yes, reason_no}
use Rattle.mo_certify.proofs.least.is_reason.Goals as goal

pub returns-clause-yes : goal.returns-clause-yes
returns-clause-yes c =
    let within : c.args.from ≤ equations c.args.inc.now = omega (arith, c.if-from-equations.false, c.equations.ensures.count) in
    λ e. reason_yes _ _ _ _ _ _ c.if-from-eq0.false within c.if-from-row.false (c.row_is_tight.ensures.yes e)

pub returns-clause-no : goal.returns-clause-no
returns-clause-no c = λ e. reason_no _ _ _ _ _ _ (c.row_is_tight.ensures.no e)
