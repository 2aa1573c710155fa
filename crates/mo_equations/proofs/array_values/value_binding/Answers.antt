-- What is held, or what is resolved now.
use Rattle.std.proofs.Common.{◌≡◌, Err, Option, rules}
use Rattle.mo_scope.specs.Worlds.{frames_of}
use Rattle.mo_eval.specs.Seen.{resolved_seen}
use Rattle.mo_equations.specs.declared.desk.ValueBinding.{ValueBinding}
use Rattle.mo_equations.proofs.ArrayBindings.{value_binding_made, value_for_element}
use Rattle.mo_equations.proofs.ResolvedOnce.{refused_of}
use Rattle.mo_equations.proofs.Staying.{reads, stays_on}
use Rattle.mo_equations.proofs.array_values.value_binding.Goals as goal

pub returns-in-Some-clause-is : goal.returns-in-Some-clause-is
returns-in-Some-clause-is c = value_for_element c.args.s.now c.in-Some.binding c.args.instance.now.frame.0 _ c.in-Some.ensures.binding c.in-Some.ensures.element c.requires.chosen.is

pub returns-in_err-resolved-clause-refused : goal.returns-in_err-resolved-clause-refused
returns-in_err-resolved-clause-refused c =
    let stop = c.in_err-resolved.field-0.0 in
    let p : c.from_residual.result ≡ Err stop = search rules in
    rw p (refused_of (Option ValueBinding) (resolved_seen (frames_of c.resolved_for_value.new.s)) _ stop c.in_err-resolved.ensures.exact)

pub resolved_for_value-requires : goal.resolved_for_value-requires
resolved_for_value-requires c = record { frame = c.requires.frame; kept = c.taken.ensures.stays.goes.desk.reader }

pub returns-clause-binding : goal.returns-clause-binding
returns-clause-binding c =
    value_binding_made c.args.s.now c.resolved_for_value.new.s _ c.args.instance.now.frame.0 _ c.resolved_for_value.ensures.grows (rw c.in-Some-component_of.is at c.component_of.ensures) c.requires.chosen.is
    c.in_ok-resolved.ensures.there c.in_ok-layers.ensures.layers c.in_ok-resolved.ensures.exact

pub returns-clause-is : goal.returns-clause-is
returns-clause-is c = c.in_ok-resolved.ensures.exact

-- ---- what stays

pub returns-in_err-resolved-clause-stays : goal.returns-in_err-resolved-clause-stays
returns-in_err-resolved-clause-stays c =
    let before = c.taken.ensures.stays in
    stays_on c.args.s.now c.args.s.now c.resolved_for_value.new.s c.args.desk.now c.taken.new.desk _ before
    (reads c.args.s.now c.resolved_for_value.new.s c.taken.new.desk c.resolved_for_value.new.self c.resolved_for_value.ensures.grows c.resolved_for_value.ensures.kept before.goes.desk)

pub returns-in_err-layers-clause-stays : goal.returns-in_err-layers-clause-stays
returns-in_err-layers-clause-stays c =
    let before = c.taken.ensures.stays in
    stays_on c.args.s.now c.args.s.now c.resolved_for_value.new.s c.args.desk.now c.taken.new.desk _ before
    (reads c.args.s.now c.resolved_for_value.new.s c.taken.new.desk c.resolved_for_value.new.self c.resolved_for_value.ensures.grows c.resolved_for_value.ensures.kept before.goes.desk)

pub returns-clause-stays : goal.returns-clause-stays
returns-clause-stays c =
    let before = c.taken.ensures.stays in
    stays_on c.args.s.now c.args.s.now c.resolved_for_value.new.s c.args.desk.now c.taken.new.desk _ before
    (reads c.args.s.now c.resolved_for_value.new.s c.taken.new.desk c.resolved_for_value.new.self c.resolved_for_value.ensures.grows c.resolved_for_value.ensures.kept before.goes.desk)
