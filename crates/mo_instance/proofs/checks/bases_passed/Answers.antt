-- One base after another.
use Rattle.std.proofs.Common.{◌+◌, List, Err, drop, map, ap, sym, subst, ◌∙◌}
use Rattle.std.proofs.lemmas.List.{drop_all}
use Rattle.std.proofs.lemmas.Result.{err_from_is_err_and}
use Rattle.mo_syntax.specs.declared.meaning.FrameId.{FrameId}
use Rattle.mo_scope.specs.Outcome.{Gives}
use Rattle.mo_scope.specs.Redeclarations.{each_checked}
use Rattle.mo_scope.specs.Worlds.{frame_at, frames_of, table_in}
use Rattle.mo_names.specs.Sights.{IsBase, frames_through}
use Rattle.mo_names.proofs.Circling.{left_from, then_ok}
use Rattle.mo_names.proofs.Later.{grows_trans, is_walk_later}
use Rattle.mo_instance.specs.steps.Checks.{through_passed}
use Rattle.mo_instance.proofs.Checking.{through_before}
use Rattle.mo_instance.proofs.Later.{elements_later}
use Rattle.mo_instance.proofs.Lists.{broken_on, every_at}
use Rattle.mo_instance.proofs.checks.bases_passed.Goals as goal

pub through_passed-requires-clause-walk : goal.through_passed-requires-clause-walk
through_passed-requires-clause-walk c = is_walk_later c.args.s.now c.loop-through.s c.args.walk.now c.loop-through.invariant.grows c.requires.walk

pub through_passed-requires-clause-elements : goal.through_passed-requires-clause-elements
through_passed-requires-clause-elements c =
    elements_later c.args.s.now c.loop-through.s c.args.frame.0 c.args.walk.now c.loop-through.invariant.grows c.requires.frame c.requires.walk c.requires.elements

pub returns-in_err-through_passed-clause-value : goal.returns-in_err-through_passed-clause-value
returns-in_err-through_passed-clause-value c =
    let p = err_from_is_err_and c.from_residual.result c.from_residual.ensures.1 in
    let check = through_passed (table_in c.args.s.now) (frame_at c.args.s.now c.args.frame.0) in
    let G = λ (xs : List (List FrameId)). each_checked check (map (frames_through (frames_of c.args.s.now)) xs) in
    let is = every_at (IsBase c.args.s.now) c.args.bases.now c.loop-through.through-index c.through-item.result c.requires.bases c.loop-through-test.true c.through-item.is in
    rw (p.1, p.2) (broken_on {T = Unit {0}} {U = Unit {0}} (λ _. tt) (λ _. tt) c.in_err-through_passed.field-0.0 (check (frames_through (frames_of c.args.s.now) c.through-item.result))
    (λ _. G (drop (c.loop-through.through-index + 1) c.args.bases.now)) _
    (subst (Gives {T = Unit {0}} (λ _. tt) (Err c.in_err-through_passed.field-0.0))
    (through_before c.args.s.now c.loop-through.s c.args.frame.0 c.through-item.result c.loop-through.invariant.grows c.requires.frame is.frames)
    c.in_err-through_passed.ensures.value)
    (left_from G c.args.bases.now c.loop-through.through-index c.through-item.result _ c.loop-through-test.true c.through-item.is c.loop-through.invariant.left))

pub loop-through-preserved : goal.loop-through-preserved
loop-through-preserved c =
    let check = through_passed (table_in c.args.s.now) (frame_at c.args.s.now c.args.frame.0) in
    let G = λ (xs : List (List FrameId)). each_checked check (map (frames_through (frames_of c.args.s.now)) xs) in
    let is = every_at (IsBase c.args.s.now) c.args.bases.now c.loop-through.through-index c.through-item.result c.requires.bases c.loop-through-test.true c.through-item.is in
    record {
      grows = grows_trans c.args.s.now c.loop-through.s c.through_passed.new.s c.loop-through.invariant.grows c.in_ok-through_passed.ensures.grows;
      left =
          then_ok (check (frames_through (frames_of c.args.s.now) c.through-item.result)) (λ _. G (drop (c.loop-through.through-index + 1) c.args.bases.now)) tt _
          (left_from G c.args.bases.now c.loop-through.through-index c.through-item.result _ c.loop-through-test.true c.through-item.is c.loop-through.invariant.left)
          (sym (through_before c.args.s.now c.loop-through.s c.args.frame.0 c.through-item.result c.loop-through.invariant.grows c.requires.frame is.frames)
          ∙ c.in_ok-through_passed.ensures.value);
    }

pub returns-clause-value : goal.returns-clause-value
returns-clause-value c =
    sym c.loop-through.invariant.left
    ∙ ap (λ (xs : List (List FrameId)). each_checked (through_passed (table_in c.args.s.now) (frame_at c.args.s.now c.args.frame.0)) (map (frames_through (frames_of c.args.s.now)) xs)) (drop_all c.loop-through.through-index c.args.bases.now c.loop-through-test.false)
