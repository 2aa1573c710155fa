-- The base of a partial short class, then the frame.
use Rattle.std.proofs.Common.{refl}
use Rattle.std.proofs.lemmas.Result.{err_from_is_err_and}
use Rattle.mo_scope.specs.Worlds.{frame_at, frames_of, table_in}
use Rattle.mo_names.specs.Sights.{walk_seen}
use Rattle.mo_instance.specs.Checks.{frame_checked, partial_base, type_checked}
use Rattle.mo_instance.proofs.Checking.{type_left}
use Rattle.mo_instance.proofs.Lists.{broken_on, gives_as}
use Rattle.mo_names.proofs.Later.{grows_trans}
use Rattle.mo_instance.proofs.checks.type_checked.Goals as goal

pub returns-in_err-partial_base-clause-value : goal.returns-in_err-partial_base-clause-value
returns-in_err-partial_base-clause-value c =
    let p = err_from_is_err_and c.from_residual.result c.from_residual.ensures.1 in
    let T = table_in c.args.s.now in
    let f = frame_at c.args.s.now c.args.frame.0 in
    rw (p.1, p.2) (broken_on {T = Unit {0}} {A = Unit {0}} (λ _. tt) (walk_seen (frames_of c.partial_base.new.s)) c.in_err-partial_base.field-0.0
    (partial_base T f) (λ _. frame_checked T c.args.place f) (type_checked T c.args.place f) c.in_err-partial_base.ensures.value refl)

pub returns-clause-value : goal.returns-clause-value
returns-clause-value c =
    let u = c.args.s.now in
    let v = c.partial_base.new.s in
    gives_as (walk_seen (frames_of c.frame_checked.new.s)) c.frame_checked.result
    (frame_checked (table_in v) c.args.place (frame_at v c.args.frame.0)) (type_checked (table_in u) c.args.place (frame_at u c.args.frame.0))
    (type_left u v c.args.place c.args.frame.0 c.in_ok-partial_base.ensures.grows c.requires c.in_ok-partial_base.ensures.value)
    c.frame_checked.ensures.value

pub returns-clause-grows : goal.returns-clause-grows
returns-clause-grows c = grows_trans _ _ _ c.in_ok-partial_base.ensures.grows c.frame_checked.ensures.grows
