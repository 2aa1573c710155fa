-- What was found has to be a component.
use Rattle.mo_scope.specs.Worlds.{frames_of, scope_in, table_in}
use Rattle.mo_names.specs.Sights.{found_in, member_of}
use Rattle.mo_equations.proofs.ByName.{finding_stops, first_found, found_exists}
use Rattle.mo_equations.proofs.ends.declared_first.Goals as goal

pub returns-in-Err-clause-value : goal.returns-in-Err-clause-value
returns-in-Err-clause-value c =
    let u = c.args.s.now in
    let v = c.find_declared.new.s in
    finding_stops (table_in u) c.args.top (scope_in (frames_of u) c.args.at.now.frame.0 c.args.at.now.iters) c.args.part.now (found_in (frames_of v)) (member_of (frames_of v)) c.in-Err.stop (rw c.in-Err.is at c.find_declared.ensures.value)

pub returns-in-Ok-clause-value : goal.returns-in-Ok-clause-value
returns-in-Ok-clause-value c =
    let u = c.args.s.now in
    let v = c.find_declared.new.s in
    first_found (table_in u) c.args.top (scope_in (frames_of u) c.args.at.now.frame.0 c.args.at.now.iters) c.args.part.now (frames_of v) c.in-Ok.found c.component_found.result
    (rw c.in-Ok.is at c.find_declared.ensures.value) c.component_found.ensures

pub returns-in-Ok-clause-exists : goal.returns-in-Ok-clause-exists
returns-in-Ok-clause-exists c = found_exists c.find_declared.new.s c.args.part.now.place c.in-Ok.found c.component_found.result (rw c.in-Ok.is at c.find_declared.ensures.stand) c.component_found.ensures
