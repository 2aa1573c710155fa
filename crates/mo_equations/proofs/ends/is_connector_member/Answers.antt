-- The class of the type.
use Rattle.std.proofs.Common.{◌≡◌, Bool, Ok, Err, ap, sym, ◌∙◌, rules}
use Rattle.mo_scope.specs.Frames.{class_of}
use Rattle.mo_scope.specs.Rows.{Table}
use Rattle.mo_scope.specs.Worlds.{frame_at, frames_of, table_in}
use Rattle.mo_names.specs.Children.{child_seen}
use Rattle.mo_names.specs.Sights.{member_of}
use Rattle.mo_names.proofs.Later.{table_later}
use Rattle.mo_equations.specs.Connectors.{is_connector_class}
use Rattle.mo_equations.proofs.ByName.{connector_is, connector_stops}
use Rattle.mo_equations.proofs.ends.is_connector_member.Goals as goal

pub returns-in_err-child-clause-value : goal.returns-in_err-child-clause-value
returns-in_err-child-clause-value c =
    let u = c.args.s.now in
    let v = c.child_of_member.new.s in
    let stop = c.in_err-child.field-0.0 in
    let p : c.from_residual.result ≡ Err stop = search rules in
    rw p (connector_stops (table_in u) (member_of (frames_of u) c.args.member.now) (child_seen (frames_of v)) stop c.in_err-child.ensures.value)

pub returns-clause-value : goal.returns-clause-value
returns-clause-value c =
    let u = c.args.s.now in
    let v = c.child_of_member.new.s in
    let child = c.in_ok-child.child in
    let same = c.is_connector_class.ensures
    ∙ (ap (is_connector_class (table_in v)) c.class_of.ensures.is ∙ ap (λ (t : Table). is_connector_class t (class_of (frame_at v child.class.0))) (table_later u v c.in_ok-child.ensures.grows)) in
    connector_is (table_in u) (member_of (frames_of u) c.args.member.now) (child_seen (frames_of v) child) c.in_ok-child.ensures.value ∙ ap (λ (b : Bool). Ok b) (sym same)
