-- The assert, or what broke behind the condition.
use Rattle.std.proofs.Common.{subst}
use Rattle.mo_equations.specs.Gathering.{made_assert}
use Rattle.mo_equations.specs.steps.Asserts.{IsRest, made_with}
use Rattle.mo_equations.specs.steps.Flats.{Answers}
use Rattle.mo_equations.specs.steps.Makings.{IsMade}
use Rattle.mo_equations.proofs.Arguments.{rest_halts, rest_made}
use Rattle.mo_equations.proofs.Making.{if_ok}
use Rattle.mo_equations.proofs.asserts.with_rest.Goals as goal

pub returns-in-Err : goal.returns-in-Err
returns-in-Err c = λ condition told flat gives.
    rest_halts IsRest IsMade c.in-Err.stop told (made_with condition) (subst (λ r. Answers IsRest r told) c.in-Err.is gives)

pub returns-in-Ok : goal.returns-in-Ok
returns-in-Ok c = λ condition told flat gives.
    let of = subst (λ r. Answers IsRest r told) c.in-Ok.is gives in
    rest_made c.or_stop.result c.one_assert.result condition of.0 told c.or_stop.ensures.value c.or_stop.ensures.error of.1
    (if_ok {Q = λ held. IsMade held (made_assert (record { condition = condition; message = of.0.0; level = of.0.1 }))} c.one_assert.result (λ held h. h condition of.0.0 of.0.1 flat of.2.0 of.2.1) c.one_assert.ensures)
