-- The frame, then its bases.
use Rattle.std.proofs.Common.{Err, false, List, Ok, ap, map, sym, ◌∙◌}
use Rattle.std.proofs.lemmas.Result.{err_from_is_err_and}
use Rattle.mo_syntax.specs.Outcome.{and_then}
use Rattle.mo_syntax.specs.declared.meaning.FrameId.{FrameId}
use Rattle.mo_scope.specs.Frames.{sources_of}
use Rattle.mo_scope.specs.Lookup.{Walked}
use Rattle.mo_scope.specs.Redeclarations.{Checked, each_checked}
use Rattle.mo_scope.specs.Worlds.{frame_at, frames_of, table_in}
use Rattle.mo_names.specs.Sights.{frames_through, walk_seen}
use Rattle.mo_names.proofs.Later.{grows_refl, grows_trans, is_walk_later, walk_later}
use Rattle.mo_instance.specs.Checks.{frame_passed}
use Rattle.mo_instance.specs.steps.Checks.{through_passed}
use Rattle.mo_instance.proofs.Checking.{bases_before, bases_checked, bases_left, whole_passed}
use Rattle.mo_instance.proofs.Lists.{broken_on, gives_as}
use Rattle.mo_instance.proofs.checks.frame_checked.Goals as goal

pub returns-in_err-walk-clause-value : goal.returns-in_err-walk-clause-value
returns-in_err-walk-clause-value c =
    let p = err_from_is_err_and c.from_residual-in_err-walk.result c.from_residual-in_err-walk.ensures.1 in
    let T = table_in c.args.s.now in
    let f = frame_at c.args.s.now c.args.frame.0 in
    let F = frames_of c.frame_passed.new.s in
    rw (p.1, p.2) (broken_on (walk_seen F) (walk_seen F) c.in_err-walk.field-0.0 (frame_passed T (λ name. false) (sources_of f) f) (bases_checked T c.args.place f) _
    c.in_err-walk.ensures.value (whole_passed T c.args.place f c.in_ok-whole_class.ensures))

pub returns-in_err-bases_passed-clause-value : goal.returns-in_err-bases_passed-clause-value
returns-in_err-bases_passed-clause-value c =
    let p = err_from_is_err_and c.from_residual-in_err-bases_passed.result c.from_residual-in_err-bases_passed.ensures.1 in
    let u = c.args.s.now in
    let v = c.frame_passed.new.s in
    let T = table_in u in
    let f = frame_at u c.args.frame.0 in
    let walked = walk_seen (frames_of v) c.in_ok-walk.walk in
    rw (p.1, p.2) (broken_on {T = Unit {0}} {A = Unit {0}} (λ _. tt) (walk_seen (frames_of c.bases_passed.new.s)) c.in_err-bases_passed.field-0.0 (each_checked (through_passed T f) walked.bases) (λ _. Ok walked) _
    (gives_as {T = Unit {0}} (λ _. tt) (Err c.in_err-bases_passed.field-0.0) _ _
    (ap (λ (xs : List (List FrameId)). each_checked (through_passed (table_in v) (frame_at v c.args.frame.0)) (map (frames_through (frames_of v)) xs)) c.as_slice.ensures
    ∙ bases_before u v c.args.frame.0 walked.bases c.in_ok-walk.ensures.grows c.requires)
    c.in_err-bases_passed.ensures.value)
    (bases_left T c.args.place f walked c.in_ok-whole_class.ensures c.in_ok-walk.ensures.value))

pub returns-clause-value : goal.returns-clause-value
returns-clause-value c =
    let u = c.args.s.now in
    let v = c.frame_passed.new.s in
    let T = table_in u in
    let f = frame_at u c.args.frame.0 in
    let walked = walk_seen (frames_of v) c.in_ok-walk.walk in
    sym (bases_left T c.args.place f walked c.in_ok-whole_class.ensures c.in_ok-walk.ensures.value)
    ∙ ap (λ (o : Checked). and_then o (λ _. Ok walked))
    (sym (ap (λ (xs : List (List FrameId)). each_checked (through_passed (table_in v) (frame_at v c.args.frame.0)) (map (frames_through (frames_of v)) xs)) c.as_slice.ensures
    ∙ bases_before u v c.args.frame.0 walked.bases c.in_ok-walk.ensures.grows c.requires)
    ∙ c.in_ok-bases_passed.ensures.value)
    ∙ ap (λ (x : Walked). Ok x) (sym (walk_later v c.bases_passed.new.s c.in_ok-walk.walk c.in_ok-bases_passed.ensures.grows c.in_ok-walk.ensures.stand))

pub returns-clause-stand : goal.returns-clause-stand
returns-clause-stand c = is_walk_later c.frame_passed.new.s c.bases_passed.new.s c.in_ok-walk.walk c.in_ok-bases_passed.ensures.grows c.in_ok-walk.ensures.stand

pub returns-in_err-whole_class-clause-grows : goal.returns-in_err-whole_class-clause-grows
returns-in_err-whole_class-clause-grows c = grows_refl _

pub returns-in_err-bases_passed-clause-grows : goal.returns-in_err-bases_passed-clause-grows
returns-in_err-bases_passed-clause-grows c = grows_trans _ _ _ c.in_ok-walk.ensures.grows c.in_err-bases_passed.ensures.grows

pub returns-clause-grows : goal.returns-clause-grows
returns-clause-grows c = grows_trans _ _ _ c.in_ok-walk.ensures.grows c.in_ok-bases_passed.ensures.grows
