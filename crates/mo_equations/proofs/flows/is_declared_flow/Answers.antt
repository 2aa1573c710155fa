-- The asked class is no component.
use Rattle.std.proofs.Common.{List, ap, sym, ◌∙◌}
use Rattle.mo_scope.specs.Frames.{Frame, Member}
use Rattle.mo_scope.specs.Lookup.{named, own_members}
use Rattle.mo_scope.specs.Worlds.{table_in}
use Rattle.mo_equations.specs.Connectors.{is_flow_member, last_name}
use Rattle.mo_equations.proofs.Prefixed.{none_of_top}
use Rattle.mo_equations.proofs.flows.is_declared_flow.Goals as goal

pub returns-in_default-clause-is : goal.returns-in_default-clause-is
returns-in_default-clause-is c =
    let s = c.args.s.now in
    let at = c.args.instance.now in
    let owner = rw c.in_default.is at c.owner.ensures.is in
    ap (λ (ms : List Member). is_flow_member (table_in s) (named (last_name at.path.0) ms)) (sym (none_of_top s.files))
    ∙ ap (λ (f : Frame). is_flow_member (table_in s) (named (last_name at.path.0) (own_members (table_in s) f))) owner
