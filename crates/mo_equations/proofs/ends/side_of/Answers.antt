-- By which components are connectors.
use Rattle.std.proofs.Common.{ap, ◌∙◌}
use Rattle.mo_scope.specs.Worlds.{frames_of, scope_in, table_in}
use Rattle.mo_equations.specs.Ends.{side_by}
use Rattle.mo_equations.proofs.ByName.{side_halted, side_is}
use Rattle.mo_equations.proofs.ends.side_of.Goals as goal

pub returns-in-Ok-clause-value : goal.returns-in-Ok-clause-value
returns-in-Ok-clause-value c =
    let u = c.args.s.now in
    c.side_of_connectors.ensures
    ∙ (ap side_by c.as_slice.ensures ∙ side_is (table_in u) (scope_in (frames_of u) c.args.at.now.frame.0 c.args.at.now.iters) c.args.reference.now c.in-Ok.connectors c.in-Ok.ensures.value)

pub returns-in-Err-clause-value : goal.returns-in-Err-clause-value
returns-in-Err-clause-value c =
    let u = c.args.s.now in
    side_halted (table_in u) (scope_in (frames_of u) c.args.at.now.frame.0 c.args.at.now.iters) c.args.reference.now c.in-Err.stop c.side_of_stop.result c.in-Err.ensures.value c.side_of_stop.ensures.neither c.side_of_stop.ensures.broken
