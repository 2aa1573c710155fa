-- The element of what is resolved.
use Rattle.std.proofs.Common.{◌≡◌, Err, rules}
use Rattle.mo_equations.proofs.SharedExpressions.{shared_with}
use Rattle.mo_equations.proofs.Staying.{stays_on}
use Rattle.mo_equations.proofs.shared.flat_by.Goals as goal

pub flat_of_resolution-requires-clause-resolution : goal.flat_of_resolution-requires-clause-resolution
flat_of_resolution-requires-clause-resolution c = c.requires.shared.resolution

pub returns-in_err-flat-clause-exact : goal.returns-in_err-flat-clause-exact
returns-in_err-flat-clause-exact c =
    let stop = c.in_err-flat.field-0.0 in
    let p : c.from_residual.result ≡ Err stop = search rules in
    rw p c.in_err-flat.ensures.exact

pub hold-requires : goal.hold-requires
hold-requires c = record {
  desk = c.in_ok-flat.ensures.stays.goes.desk;
  shared = shared_with c.args.s.now c.flat_of_resolution.new.s c.args.desk.now.leaves c.flat_of_resolution.new.desk.leaves c.args.shared c.flat_of_resolution.new.resolution c.in_ok-flat.ensures.stays.goes.grows c.requires.shared
      c.in_ok-flat.ensures.resolution c.in_ok-flat.ensures.resolved;
}

pub returns-clause-exact : goal.returns-clause-exact
returns-clause-exact c = c.in_ok-flat.ensures.exact

-- ---- what stays

pub returns-in_err-flat-clause-stays : goal.returns-in_err-flat-clause-stays
returns-in_err-flat-clause-stays c = c.in_err-flat.ensures.stays

pub returns-in_err-hold-clause-stays : goal.returns-in_err-hold-clause-stays
returns-in_err-hold-clause-stays c = stays_on c.args.s.now c.flat_of_resolution.new.s c.flat_of_resolution.new.s c.args.desk.now c.flat_of_resolution.new.desk c.hold.new.desk c.in_ok-flat.ensures.stays c.hold.ensures

pub returns-clause-stays : goal.returns-clause-stays
returns-clause-stays c = stays_on c.args.s.now c.flat_of_resolution.new.s c.flat_of_resolution.new.s c.args.desk.now c.flat_of_resolution.new.desk c.hold.new.desk c.in_ok-flat.ensures.stays c.hold.ensures
