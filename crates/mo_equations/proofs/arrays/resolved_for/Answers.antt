-- What is resolved, as the binding of the component.
use Rattle.std.proofs.Common.{◌≡◌, Err, rules, sym, ◌∙◌}
use Rattle.mo_equations.proofs.ArrayBindings.{array_binding_made}
use Rattle.mo_equations.proofs.ResolvedOnce.{left_all}
use Rattle.mo_equations.proofs.arrays.resolved_for.Goals as goal

pub returns-in_err-found-clause-refused : goal.returns-in_err-found-clause-refused
returns-in_err-found-clause-refused c =
    let stop = c.in_err-found.field-0.0 in
    let p : c.from_residual.result ≡ Err stop = search rules in
    rw p c.in_err-found.ensures.refused

pub returns-in-Some-clause-binding : goal.returns-in-Some-clause-binding
returns-in-Some-clause-binding c =
    array_binding_made c.args.s.now c.resolution_of.new.s _ _ c.args._instance.now.frame.0 _ c.in_ok-found.ensures.stays.goes.grows c.requires.element c.requires.chosen.is
    (rw c.in-Some.is at c.in_ok-found.ensures.resolution)
    (sym (left_all c.args.s.now c.args.asked.now.left c.args.asked.now.at.now c.args.asked.now.value.now c.requires.left) ∙ (rw c.in-Some.is at c.in_ok-found.ensures.is))

pub returns-in-Some-clause-is : goal.returns-in-Some-clause-is
returns-in-Some-clause-is c = rw c.in-Some.is at c.in_ok-found.ensures.is

-- ---- what stays

pub returns-in_err-found-clause-stays : goal.returns-in_err-found-clause-stays
returns-in_err-found-clause-stays c = c.in_err-found.ensures.stays

pub returns-in-Some-clause-stays : goal.returns-in-Some-clause-stays
returns-in-Some-clause-stays c = c.in_ok-found.ensures.stays

pub returns-in-None-clause-stays : goal.returns-in-None-clause-stays
returns-in-None-clause-stays c = c.in_ok-found.ensures.stays
