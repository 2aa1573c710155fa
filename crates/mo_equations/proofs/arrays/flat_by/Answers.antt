-- The element of what is resolved.
use Rattle.std.proofs.Common.{◌≡◌, Err, rules}
use Rattle.mo_equations.proofs.ArrayBindings.{array_binding_with}
use Rattle.mo_equations.proofs.Staying.{with_binding}
use Rattle.mo_equations.proofs.arrays.flat_by.Goals as goal

pub flat_of_resolution-requires-clause-resolution : goal.flat_of_resolution-requires-clause-resolution
flat_of_resolution-requires-clause-resolution c = c.requires.binding.resolution

pub returns-in_err-flat-clause-exact : goal.returns-in_err-flat-clause-exact
returns-in_err-flat-clause-exact c =
    let stop = c.in_err-flat.field-0.0 in
    let p : c.from_residual.result ≡ Err stop = search rules in
    rw p c.in_err-flat.ensures.exact

pub returns-clause-exact : goal.returns-clause-exact
returns-clause-exact c = c.in_ok-flat.ensures.exact

-- ---- what stays

pub returns-in_err-flat-clause-stays : goal.returns-in_err-flat-clause-stays
returns-in_err-flat-clause-stays c = c.in_err-flat.ensures.stays

pub returns-clause-stays : goal.returns-clause-stays
returns-clause-stays c =
    with_binding c.args.s.now c.flat_of_resolution.new.s c.args.desk.now c.flat_of_resolution.new.desk _ c.in_ok-flat.ensures.stays
    (array_binding_with c.args.s.now c.flat_of_resolution.new.s c.args.desk.now.leaves c.flat_of_resolution.new.desk.leaves c.args.binding c.flat_of_resolution.new.resolution c.in_ok-flat.ensures.stays.goes.grows c.requires.binding
    c.in_ok-flat.ensures.resolution c.in_ok-flat.ensures.resolved)
