-- The components, then whether each is a connector.
use Rattle.std.proofs.Common.{◌≡◌, List, Err, map, subst, sym, rules}
use Rattle.mo_scope.specs.declared.row.Member.{Member as MemberAt}
use Rattle.mo_scope.specs.Places.{Every}
use Rattle.mo_scope.specs.Rows.{Table}
use Rattle.mo_scope.specs.Worlds.{frames_of, scope_in, table_in}
use Rattle.mo_names.specs.Sights.{IsMember, member_of}
use Rattle.mo_names.proofs.Later.{table_later}
use Rattle.mo_typing.specs.Outcome.{Gives, each}
use Rattle.mo_equations.specs.Ends.{is_connector_member}
use Rattle.mo_equations.proofs.ByName.{among_named, naming_stops}
use Rattle.mo_equations.proofs.ends.connectors_of_name.Goals as goal

pub returns-in_err-members-clause-value : goal.returns-in_err-members-clause-value
returns-in_err-members-clause-value c =
    let u = c.args.s.now in
    let v = c.declared_by_name.new.s in
    let stop = c.in_err-members.field-0.0 in
    let p : c.from_residual.result ≡ Err stop = search rules in
    rw p (naming_stops (table_in u) (scope_in (frames_of u) c.args.at.now.frame.0 c.args.at.now.iters) c.args.reference.now (map (member_of (frames_of v))) stop c.in_err-members.ensures.value)

pub connectors_among-requires : goal.connectors_among-requires
connectors_among-requires c = subst (Every (IsMember c.declared_by_name.new.s)) (sym c.as_slice.ensures) c.in_ok-members.ensures.exist

pub returns-clause-value : goal.returns-clause-value
returns-clause-value c =
    let u = c.args.s.now in
    let v = c.declared_by_name.new.s in
    let seen = member_of (frames_of v) in
    let members = c.in_ok-members.members in
    among_named (table_in u) (scope_in (frames_of u) c.args.at.now.frame.0 c.args.at.now.iters) c.args.reference.now (map seen members) c.connectors_among.result c.in_ok-members.ensures.value
    (subst (λ (t : Table). Gives c.connectors_among.result (each (is_connector_member t) (map seen members))) (table_later u v c.in_ok-members.ensures.grows)
    (subst (λ (ms : List MemberAt). Gives c.connectors_among.result (each (is_connector_member (table_in v)) (map seen ms))) c.as_slice.ensures c.connectors_among.ensures.value))
