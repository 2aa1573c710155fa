-- What is answered of the paths of imports, and of packages before a star.
use Rattle.mo_names.proofs.Circling.{drop_map, left_from, loop_err, names_step, then_ok, told_of, package_names_step, exit_err, later_gives, package_is}
use Rattle.mo_names.proofs.Later.{grows_trans, grows_refl}
use Rattle.mo_names.specs.Sights.{asks, found_at}
use Rattle.mo_names.specs.steps.Lookup.{before_dot, import_step, package_behind, package_step, package_at_top}
use Rattle.mo_scope.specs.Frames.{Frame}
use Rattle.mo_scope.specs.Lookup.{Found, import_behind}
use Rattle.mo_scope.specs.Worlds.{frame_at, table_in}
use Rattle.mo_syntax.specs.declared.meaning.FrameId.{FrameId}
use Rattle.mo_syntax.specs.declared.place.Place.{Place}
use Rattle.mo_syntax.specs.declared.text.Text.{Text}
use Rattle.std.proofs.Common.{List, ℕ, ap, arith, sym, ◌≡◌, ◌∙◌, ◌+◌, Bor, Option, drop, map, Err, refl}
use Rattle.std.proofs.lemmas.Result.{err_from_is_err_and}
use Rattle.mo_names.proofs.+names.Goals as goal

pub import_step-returns-in_err-frame-clause-grows : goal.circle::import_step-returns-in_err-frame-clause-grows
import_step-returns-in_err-frame-clause-grows t c = grows_refl c.args.s.now

pub import_step-behind_class-requires : goal.circle::import_step-behind_class-requires
import_step-behind_class-requires t c = (omega arith, c.in_ok-frame.ensures.stand)

pub import_step-returns-in_err-frame-clause-stand : goal.circle::import_step-returns-in_err-frame-clause-stand
import_step-returns-in_err-frame-clause-stand t c =
    let p = err_from_is_err_and c.from_residual.result c.from_residual.ensures.1 in
    rw p.1 tt

pub import_step-returns-clause-grows : goal.circle::import_step-returns-clause-grows
import_step-returns-clause-grows t c = c.behind_class.ensures.grows

pub import_step-returns-clause-stand : goal.circle::import_step-returns-clause-stand
import_step-returns-clause-stand t c = c.behind_class.ensures.stand

pub import_behind-returns-in-Err-clause-value : goal.circle::import_behind-returns-in-Err-clause-value
import_behind-returns-in-Err-clause-value t c =
    let F : Found = found_at c.loop-at.s c.loop-at.found in
    let rest : List (List ℕ) = map (λ (name : Bor Text). name.now) (drop (c.loop-at.at + 1) c.args.names.now) in
    let before : c.before_dot-before.result ≡ before_dot c.args.place rest = c.before_dot-before.ensures ∙ ap (before_dot c.args.place) (drop_map (λ (name : Bor Text). name.now) c.args.names.now (c.loop-at.at + 1)) in
    loop_err (found_at c.import_step.new.s) (found_at c.import_step.new.s) c.in-Err.stop c.args.s.now c.loop-at.s
    (λ t. import_step t (asks t c.args.ask.now) c.args.ask.now.place c.args.place c.before_dot-before.result F c.index-names-at.result.now)
    (λ next. import_behind (table_in c.args.s.now) (asks (table_in c.args.s.now) c.args.ask.now) c.args.ask.now.place c.args.place next rest) _
    c.loop-at.invariant.grows c.in-Err.ensures.value
    (rw before (names_step (table_in c.args.s.now) (asks (table_in c.args.s.now) c.args.ask.now) c.args.ask.now.place c.args.place F c.index-names-at.result.now rest
    ∙ left_from (λ xs. import_behind (table_in c.args.s.now) (asks (table_in c.args.s.now) c.args.ask.now) c.args.ask.now.place c.args.place F (map (λ (name : Bor Text). name.now) xs)) c.args.names.now c.loop-at.at c.index-names-at.result _ c.loop-at-test.true c.index-names-at.is c.loop-at.invariant.left))

pub import_behind-loop-at-preserved : goal.circle::import_behind-loop-at-preserved
import_behind-loop-at-preserved t c =
    let F : Found = found_at c.loop-at.s c.loop-at.found in
    let rest : List (List ℕ) = map (λ (name : Bor Text). name.now) (drop (c.loop-at.at + 1) c.args.names.now) in
    let before : c.before_dot-before.result ≡ before_dot c.args.place rest = c.before_dot-before.ensures ∙ ap (before_dot c.args.place) (drop_map (λ (name : Bor Text). name.now) c.args.names.now (c.loop-at.at + 1)) in
    record {
      grows = grows_trans c.args.s.now c.loop-at.s c.import_step.new.s c.loop-at.invariant.grows c.in-Ok.ensures.grows;
      stand = c.in-Ok.ensures.stand;
      left =
          then_ok (import_step (table_in c.args.s.now) (asks (table_in c.args.s.now) c.args.ask.now) c.args.ask.now.place c.args.place (before_dot c.args.place rest) F c.index-names-at.result.now)
          (λ next. import_behind (table_in c.args.s.now) (asks (table_in c.args.s.now) c.args.ask.now) c.args.ask.now.place c.args.place next rest)
          (found_at c.import_step.new.s c.in-Ok.next) _
          (names_step (table_in c.args.s.now) (asks (table_in c.args.s.now) c.args.ask.now) c.args.ask.now.place c.args.place F c.index-names-at.result.now rest
          ∙ left_from (λ xs. import_behind (table_in c.args.s.now) (asks (table_in c.args.s.now) c.args.ask.now) c.args.ask.now.place c.args.place F (map (λ (name : Bor Text). name.now) xs)) c.args.names.now c.loop-at.at c.index-names-at.result _ c.loop-at-test.true c.index-names-at.is c.loop-at.invariant.left)
          (ap (λ (b : Option Place). import_step (table_in c.args.s.now) (asks (table_in c.args.s.now) c.args.ask.now) c.args.ask.now.place c.args.place b F c.index-names-at.result.now) (sym before)
          ∙ told_of (λ t. import_step t (asks t c.args.ask.now) c.args.ask.now.place c.args.place c.before_dot-before.result F c.index-names-at.result.now) c.args.s.now c.loop-at.s _ c.loop-at.invariant.grows c.in-Ok.ensures.value);
    }

pub import_behind-import_step-requires : goal.circle::import_behind-import_step-requires
import_behind-import_step-requires t c = (omega arith, c.loop-at.invariant.stand)

pub import_behind-returns-in-Err-clause-grows : goal.circle::import_behind-returns-in-Err-clause-grows
import_behind-returns-in-Err-clause-grows t c = grows_trans _ _ _ c.loop-at.invariant.grows c.in-Err.ensures.grows

pub import_behind-loop-at-init : goal.circle::import_behind-loop-at-init
import_behind-loop-at-init t c = record {
  grows = grows_refl c.args.s.now;
  stand = c.requires;
  left = refl;
}

pub import_behind-returns-clause-grows : goal.circle::import_behind-returns-clause-grows
import_behind-returns-clause-grows t c = c.loop-at.invariant.grows

pub import_behind-returns-clause-stand : goal.circle::import_behind-returns-clause-stand
import_behind-returns-clause-stand t c = c.loop-at.invariant.stand

pub imported-import_behind-requires : goal.circle::imported-import_behind-requires
imported-import_behind-requires t c = (omega arith, c.in-Ok.ensures.stand)

pub imported-returns-in-Ok-clause-grows : goal.circle::imported-returns-in-Ok-clause-grows
imported-returns-in-Ok-clause-grows t c = grows_trans _ _ _ c.in-Ok.ensures.grows c.import_behind.ensures.grows

pub imported-returns-in-empty-clause-grows : goal.circle::imported-returns-in-empty-clause-grows
imported-returns-in-empty-clause-grows t c = grows_refl c.args.s.now

pub imported-returns-in-Err-clause-grows : goal.circle::imported-returns-in-Err-clause-grows
imported-returns-in-Err-clause-grows t c = c.in-Err.ensures.grows

pub imported-returns-in-Ok-clause-stand : goal.circle::imported-returns-in-Ok-clause-stand
imported-returns-in-Ok-clause-stand t c = c.import_behind.ensures.stand

pub package_step-returns-clause-value : goal.circle::package_step-returns-clause-value
package_step-returns-clause-value t c = c.class_given.ensures.value _ c.behind_class-found.ensures.value

pub package_step-behind_class-found-requires : goal.circle::package_step-behind_class-found-requires
package_step-behind_class-found-requires t c = (omega arith, c.requires)

pub package_step-class_given-requires : goal.circle::package_step-class_given-requires
package_step-class_given-requires t c = c.behind_class-found.ensures.stand

pub package_step-returns-clause-grows : goal.circle::package_step-returns-clause-grows
package_step-returns-clause-grows t c = c.behind_class-found.ensures.grows

pub package_step-returns-clause-stand : goal.circle::package_step-returns-clause-stand
package_step-returns-clause-stand t c = c.class_given.ensures.stand

pub package_behind-returns-in_err-frame-clause-value : goal.circle::package_behind-returns-in_err-frame-clause-value
package_behind-returns-in_err-frame-clause-value t c =
    let p = err_from_is_err_and c.from_residual.result c.from_residual.ensures.1 in
    let F : Frame = frame_at c.loop-name.s c.loop-name.frame.0 in
    rw (p.1, p.2) (loop_err (λ (f : FrameId). frame_at c.package_step.new.s f.0) (λ (f : FrameId). frame_at c.package_step.new.s f.0) c.in_err-frame.field-0.0 c.args.s.now c.loop-name.s
    (λ t. package_step t (asks t c.args.ask.now) c.args.ask.now.place c.args.place F c.name-item.result)
    (λ next. package_behind (table_in c.args.s.now) (asks (table_in c.args.s.now) c.args.ask.now) c.args.ask.now.place c.args.place next (drop (c.loop-name.name-index + 1) c.args.names.now)) _
    c.loop-name.invariant.grows c.in_err-frame.ensures.value
    (package_names_step (table_in c.args.s.now) (asks (table_in c.args.s.now) c.args.ask.now) c.args.ask.now.place c.args.place F c.name-item.result (drop (c.loop-name.name-index + 1) c.args.names.now)
    ∙ left_from (package_behind (table_in c.args.s.now) (asks (table_in c.args.s.now) c.args.ask.now) c.args.ask.now.place c.args.place F) c.args.names.now c.loop-name.name-index c.name-item.result _ c.loop-name-test.true c.name-item.is c.loop-name.invariant.left))

pub package_behind-loop-name-preserved : goal.circle::package_behind-loop-name-preserved
package_behind-loop-name-preserved t c = record {
  grows = grows_trans c.args.s.now c.loop-name.s c.package_step.new.s c.loop-name.invariant.grows c.in_ok-frame.ensures.grows;
  stand = c.in_ok-frame.ensures.stand;
  left =
      let F : Frame = frame_at c.loop-name.s c.loop-name.frame.0 in
      then_ok (package_step (table_in c.args.s.now) (asks (table_in c.args.s.now) c.args.ask.now) c.args.ask.now.place c.args.place F c.name-item.result)
      (λ next. package_behind (table_in c.args.s.now) (asks (table_in c.args.s.now) c.args.ask.now) c.args.ask.now.place c.args.place next (drop (c.loop-name.name-index + 1) c.args.names.now))
      (frame_at c.package_step.new.s c.in_ok-frame.frame.0) _
      (package_names_step (table_in c.args.s.now) (asks (table_in c.args.s.now) c.args.ask.now) c.args.ask.now.place c.args.place F c.name-item.result (drop (c.loop-name.name-index + 1) c.args.names.now)
      ∙ left_from (package_behind (table_in c.args.s.now) (asks (table_in c.args.s.now) c.args.ask.now) c.args.ask.now.place c.args.place F) c.args.names.now c.loop-name.name-index c.name-item.result _ c.loop-name-test.true c.name-item.is c.loop-name.invariant.left)
      (told_of (λ t. package_step t (asks t c.args.ask.now) c.args.ask.now.place c.args.place F c.name-item.result) c.args.s.now c.loop-name.s _ c.loop-name.invariant.grows c.in_ok-frame.ensures.value);
}

pub package_behind-package_step-requires : goal.circle::package_behind-package_step-requires
package_behind-package_step-requires t c = (omega arith, c.loop-name.invariant.stand)

pub package_behind-returns-in_err-frame-clause-grows : goal.circle::package_behind-returns-in_err-frame-clause-grows
package_behind-returns-in_err-frame-clause-grows t c = grows_trans _ _ _ c.loop-name.invariant.grows c.in_err-frame.ensures.grows

pub package_behind-loop-name-init : goal.circle::package_behind-loop-name-init
package_behind-loop-name-init t c = record {
  grows = grows_refl c.args.s.now;
  stand = c.requires;
  left = refl;
}

pub package_behind-returns-in_err-frame-clause-stand : goal.circle::package_behind-returns-in_err-frame-clause-stand
package_behind-returns-in_err-frame-clause-stand t c =
    let p = err_from_is_err_and c.from_residual.result c.from_residual.ensures.1 in
    rw p.1 tt

pub package_behind-returns-clause-grows : goal.circle::package_behind-returns-clause-grows
package_behind-returns-clause-grows t c = c.loop-name.invariant.grows

pub package_behind-returns-clause-stand : goal.circle::package_behind-returns-clause-stand
package_behind-returns-clause-stand t c = c.loop-name.invariant.stand

pub package_named-returns-in_err-first-clause-value : goal.circle::package_named-returns-in_err-first-clause-value
package_named-returns-in_err-first-clause-value t c =
    let p = err_from_is_err_and c.from_residual.result c.from_residual.ensures.1 in
    exit_err (λ (f : FrameId). frame_at c.package_at_top.new.s f.0) _ c.from_residual.result c.in_err-first.field-0.0 c.args.s.now c.args.s.now
    (λ t. package_at_top t c.args.place c.args.name.now)
    (λ frame. package_behind (table_in c.args.s.now) (asks (table_in c.args.s.now) c.args.ask.now) c.args.ask.now.place c.args.place frame c.args.names.now) _ (p.1 ∙ ap Err p.2)
    (grows_refl c.args.s.now) c.in_err-first.ensures.value
    (package_is (table_in c.args.s.now) (asks (table_in c.args.s.now) c.args.ask.now) c.args.ask.now.place c.args.place c.args.name.now c.args.names.now)

pub package_named-returns-clause-value : goal.circle::package_named-returns-clause-value
package_named-returns-clause-value t c =
    later_gives _ c.package_behind.result c.args.s.now c.package_at_top.new.s
    (λ t. package_behind t (asks t c.args.ask.now) c.args.ask.now.place c.args.place (frame_at c.package_at_top.new.s c.in_ok-first.first.0) c.args.names.now) _
    c.in_ok-first.ensures.grows c.package_behind.ensures.value
    (then_ok (package_at_top (table_in c.args.s.now) c.args.place c.args.name.now)
    (λ frame. package_behind (table_in c.args.s.now) (asks (table_in c.args.s.now) c.args.ask.now) c.args.ask.now.place c.args.place frame c.args.names.now)
    (frame_at c.package_at_top.new.s c.in_ok-first.first.0) _
    (package_is (table_in c.args.s.now) (asks (table_in c.args.s.now) c.args.ask.now) c.args.ask.now.place c.args.place c.args.name.now c.args.names.now)
    c.in_ok-first.ensures.value)

pub package_named-package_behind-requires : goal.circle::package_named-package_behind-requires
package_named-package_behind-requires t c = (omega arith, c.in_ok-first.ensures.stand)

pub package_named-returns-in_err-first-clause-grows : goal.circle::package_named-returns-in_err-first-clause-grows
package_named-returns-in_err-first-clause-grows t c = c.in_err-first.ensures.grows

pub package_named-returns-clause-grows : goal.circle::package_named-returns-clause-grows
package_named-returns-clause-grows t c = grows_trans _ _ _ c.in_ok-first.ensures.grows c.package_behind.ensures.grows

pub package_named-returns-in_err-first-clause-stand : goal.circle::package_named-returns-in_err-first-clause-stand
package_named-returns-in_err-first-clause-stand t c =
    let p = err_from_is_err_and c.from_residual.result c.from_residual.ensures.1 in
    rw p.1 tt

pub package_named-returns-clause-stand : goal.circle::package_named-returns-clause-stand
package_named-returns-clause-stand t c = c.package_behind.ensures.stand

pub imported_package-returns-in-empty-clause-grows : goal.circle::imported_package-returns-in-empty-clause-grows
imported_package-returns-in-empty-clause-grows t c = grows_refl c.args.s.now

pub imported_package-returns-in-len1-up-clause-grows : goal.circle::imported_package-returns-in-len1-up-clause-grows
imported_package-returns-in-len1-up-clause-grows t c = c.package_named.ensures.grows

pub imported_package-returns-in-len1-up-clause-stand : goal.circle::imported_package-returns-in-len1-up-clause-stand
imported_package-returns-in-len1-up-clause-stand t c = c.package_named.ensures.stand
