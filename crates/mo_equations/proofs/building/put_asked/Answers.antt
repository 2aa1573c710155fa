-- The expression, or what broke a rule.
use Rattle.std.proofs.Common.{◌≡◌, Err, Ok, subst}
use Rattle.std.specs.Prelude.{IfOk, OnOk}
use Rattle.mo_syntax.specs.Outcome.{IfBroken}
use Rattle.mo_flat.specs.declared.expr.FlatExpr.{FlatExpr}
use Rattle.mo_equations.specs.Replacing.{with_variables}
use Rattle.mo_equations.specs.steps.Flats.{IsFlat}
use Rattle.mo_equations.specs.steps.Standing.{AreAsked, AreReplaced}
use Rattle.mo_equations.proofs.Making.{if_ok}
use Rattle.mo_equations.proofs.Replacings.{flat_is, refused_answers}
use Rattle.mo_equations.proofs.building.put_asked.Goals as goal

pub returns-in-Ok : goal.returns-in-Ok
returns-in-Ok c = λ replace refused are asked.
    let o = with_variables replace c.args.e.now in
    let replaced = subst (λ r. OnOk r (AreReplaced replace c.args.replaced.now)) c.in-Ok.is are in
    let all = subst (λ r. IfOk r (λ _. AreAsked c.args.replaced.now c.args.e.now)) c.in-Ok.is asked in
    flat_is c.or_stop.result c.put_together.result o c.or_stop.ensures.value c.or_stop.ensures.error
    (if_ok {Q = λ flat. (e : FlatExpr) × (o ≡ Ok e) × IsFlat flat e} c.put_together.result (λ flat h. h replace replaced all) c.put_together.ensures)

pub returns-in-Err : goal.returns-in-Err
returns-in-Err c = λ replace refused are asked.
    let o = with_variables replace c.args.e.now in
    refused_answers (Unit {0}) IsFlat o c.in-Err.stop (subst (λ r. IfBroken r (λ broken. o ≡ Err broken)) c.in-Err.is refused)
