-- The frame of the component, then what its name reaches there.
use Rattle.std.proofs.Common.{◌≡◌, Err, ap, subst, sym, ◌∙◌, rules}
use Rattle.mo_syntax.specs.declared.meaning.FrameId.{FrameId}
use Rattle.mo_scope.specs.Lookup.{asking_of, reached}
use Rattle.mo_scope.specs.Outcome.{Gives}
use Rattle.mo_scope.specs.Rows.{Table}
use Rattle.mo_scope.specs.Worlds.{frame_at, frames_of, table_in}
use Rattle.mo_names.specs.declared.found.Reached.{Reached as ReachedAt}
use Rattle.mo_names.specs.Sights.{IsMember, member_of, reached_seen}
use Rattle.mo_names.proofs.Later.{table_later}
use Rattle.mo_equations.proofs.ByName.{element_reached, entering_stops, none_reached, other_reached, reaching_stops}
use Rattle.mo_equations.proofs.Making.{if_ok}
use Rattle.mo_equations.proofs.ends.declared_behind.Goals as goal

pub returns-in_err-frame-clause-value : goal.returns-in_err-frame-clause-value
returns-in_err-frame-clause-value c =
    let u = c.args.s.now in
    let v = c.enter_component.new.s in
    let stop = c.in_err-frame.field-0.0 in
    let p : c.from_residual.result ≡ Err stop = search rules in
    rw p (entering_stops (table_in u) (member_of (frames_of u) c.args.member.now) c.args.part.now (λ (frame : FrameId). frame_at v frame.0) (member_of (frames_of v)) stop c.in_err-frame.ensures.value)

pub returns-in-Err-clause-value : goal.returns-in-Err-clause-value
returns-in-Err-clause-value c =
    let u = c.args.s.now in
    let v = c.enter_component.new.s in
    let w = c.find_element.new.s in
    let part = c.args.part.now in
    let frame = frame_at v c.in_ok-frame.frame.0 in
    let stop = c.in-Err.stop in
    reaching_stops (table_in u) (member_of (frames_of u) c.args.member.now) part frame c.in_ok-frame.ensures.value (reached_seen (frames_of w)) (member_of (frames_of w)) stop
    (subst (λ (t : Table). Gives {T = ReachedAt} (reached_seen (frames_of w)) (Err stop) (reached t (asking_of t) part.place frame part.name)) (table_later u v c.in_ok-frame.ensures.grows) c.in-Err.ensures.value)

pub returns-in-Ok-Element-clause-value : goal.returns-in-Ok-Element-clause-value
returns-in-Ok-Element-clause-value c =
    let u = c.args.s.now in
    let v = c.enter_component.new.s in
    let w = c.find_element.new.s in
    let part = c.args.part.now in
    let frame = frame_at v c.in_ok-frame.frame.0 in
    let same = ap (λ (t : Table). reached t (asking_of t) part.place frame part.name) (table_later u v c.in_ok-frame.ensures.grows) in
    element_reached (table_in u) (member_of (frames_of u) c.args.member.now) part frame c.in_ok-frame.ensures.value (frames_of w) c.in-Ok-Element.next c.component_only.result
    (sym same ∙ (rw c.in-Ok-Element.field-0-is at c.in-Ok-Element.ensures.value)) c.component_only.ensures.value

pub returns-in-Ok-Element-clause-exists : goal.returns-in-Ok-Element-clause-exists
returns-in-Ok-Element-clause-exists c =
    let w = c.find_element.new.s in
    if_ok c.component_only.result (λ m e. subst (IsMember w) (sym e) (rw c.in-Ok-Element.field-0-is at c.in-Ok-Element.ensures.stand)) c.component_only.ensures.same

pub returns-in-Ok-Other-clause-value : goal.returns-in-Ok-Other-clause-value
returns-in-Ok-Other-clause-value c =
    let u = c.args.s.now in
    let v = c.enter_component.new.s in
    let part = c.args.part.now in
    let frame = frame_at v c.in_ok-frame.frame.0 in
    let same = ap (λ (t : Table). reached t (asking_of t) part.place frame part.name) (table_later u v c.in_ok-frame.ensures.grows) in
    rw c.stop.ensures
    (other_reached (table_in u) (member_of (frames_of u) c.args.member.now) part frame c.in_ok-frame.ensures.value _ (sym same ∙ (rw c.in-Ok-Other.field-0-is at c.in-Ok-Other.ensures.value)))

pub returns-in-Ok-Absent-clause-value : goal.returns-in-Ok-Absent-clause-value
returns-in-Ok-Absent-clause-value c =
    let u = c.args.s.now in
    let v = c.enter_component.new.s in
    let part = c.args.part.now in
    let frame = frame_at v c.in_ok-frame.frame.0 in
    let same = ap (λ (t : Table). reached t (asking_of t) part.place frame part.name) (table_later u v c.in_ok-frame.ensures.grows) in
    rw c.stop-in-Ok-Absent.ensures
    (none_reached (table_in u) (member_of (frames_of u) c.args.member.now) part frame c.in_ok-frame.ensures.value (sym same ∙ (rw c.in-Ok-Absent.field-0-is at c.in-Ok-Absent.ensures.value)))
