use Rattle.std.proofs.Common.{◌≡◌, Err, ap, rules}
use Rattle.mo_syntax.specs.declared.meaning.FrameId.{FrameId}
use Rattle.mo_scope.specs.Worlds.{frame_at, frames_of, table_in}
use Rattle.mo_scope.specs.Names.{component_entered}
use Rattle.mo_names.specs.Sights.{member_of}
use Rattle.mo_names.proofs.Later.{grows_trans, table_later}
use Rattle.mo_eval.specs.steps.Selecting.{component_in}
use Rattle.mo_eval.proofs.Chosen.{component_behind_by}
use Rattle.mo_eval.proofs.Earlier.{seen_as, seen_halts_seen}
use Rattle.mo_eval.proofs.selections.component_behind.Goals as goal

pub returns-in_err-frame-clause-exact : goal.returns-in_err-frame-clause-exact
returns-in_err-frame-clause-exact c =
    let T = table_in c.args.s.now in
    let member = member_of (frames_of c.args.s.now) c.args.member.now in
    let end = c.enter_component.new.s in
    let stop = c.in_err-frame.field-0.0 in
    let p : c.from_residual.result ≡ Err stop = search rules in
    rw (p, component_behind_by T c.args.place member c.args.index.now c.args.name.now)
    (seen_halts_seen (λ (frame : FrameId). frame_at end frame.0) (member_of (frames_of end)) stop (component_entered T member c.args.index.now) (λ frame. component_in T c.args.place frame c.args.name.now) c.in_err-frame.ensures.value)

pub returns-clause-exact : goal.returns-clause-exact
returns-clause-exact c =
    let T = table_in c.args.s.now in
    let member = member_of (frames_of c.args.s.now) c.args.member.now in
    let mid = c.enter_component.new.s in
    rw (component_behind_by T c.args.place member c.args.index.now c.args.name.now, c.in_ok-frame.ensures.value)
    (seen_as (member_of (frames_of c.component_in.new.s)) c.component_in.result _ _
    (ap (λ t. component_in t c.args.place (frame_at mid c.in_ok-frame.frame.0) c.args.name.now) (table_later c.args.s.now mid c.in_ok-frame.ensures.grows)) c.component_in.ensures.exact)

pub returns-clause-grows : goal.returns-clause-grows
returns-clause-grows c = grows_trans _ _ _ c.in_ok-frame.ensures.grows c.component_in.ensures.grows
