-- What is answered of the names of classes.
use Rattle.mo_names.proofs.Circling.{left_from, loop_err, then_ok, told_of, exit_err, later_gives, class_names_step}
use Rattle.mo_names.proofs.Later.{grows_trans, grows_refl, is_frame_later}
use Rattle.mo_names.proofs.Naming.{class_named_is}
use Rattle.mo_names.proofs.Outcomes.{gives_same}
use Rattle.mo_names.proofs.WalkOutwards.{behind_told}
use Rattle.mo_names.specs.steps.Bases.{first_of_parts}
use Rattle.mo_names.specs.Sights.{asks, classed_seen}
use Rattle.mo_names.specs.steps.Lookup.{class_step}
use Rattle.mo_scope.specs.Frames.{Scope}
use Rattle.mo_scope.specs.Lookup.{Asking, Classed, class_behind}
use Rattle.mo_scope.specs.Sights.{scope_at}
use Rattle.mo_scope.specs.Worlds.{frames_of, table_in}
use Rattle.std.proofs.Common.{ap, arith, sym, ◌∙◌, ◌+◌, drop, Err, refl}
use Rattle.std.proofs.lemmas.Result.{err_from_is_err_and}
use Rattle.mo_names.proofs.+names.Goals as goal

pub first_class-returns-clause-value : goal.bases::first_class-returns-clause-value
first_class-returns-clause-value t c = c.classed_met.ensures.value _ c.found_first-met.ensures.value

pub first_class-classed_met-requires : goal.bases::first_class-classed_met-requires
first_class-classed_met-requires t c = c.found_first-met.ensures.stand

pub first_class-returns-clause-grows : goal.bases::first_class-returns-clause-grows
first_class-returns-clause-grows t c = c.found_first-met.ensures.grows

pub first_class-returns-clause-stand : goal.bases::first_class-returns-clause-stand
first_class-returns-clause-stand t c = c.classed_met.ensures.stand

pub class_first-first_class-requires : goal.bases::class_first-first_class-requires
class_first-first_class-requires t c = (omega arith, c.requires)

pub class_first-returns-in-None-clause-grows : goal.bases::class_first-returns-in-None-clause-grows
class_first-returns-in-None-clause-grows t c = grows_refl c.args.s.now

pub class_first-returns-in-Some-clause-grows : goal.bases::class_first-returns-in-Some-clause-grows
class_first-returns-in-Some-clause-grows t c = c.first_class.ensures.grows

pub class_first-returns-in-Some-clause-stand : goal.bases::class_first-returns-in-Some-clause-stand
class_first-returns-in-Some-clause-stand t c = c.first_class.ensures.stand

pub found_behind-behind_class-found-requires : goal.bases::found_behind-behind_class-found-requires
found_behind-behind_class-found-requires t c = (omega arith, c.requires)

pub found_behind-kept_behind-requires-clause-frame : goal.bases::found_behind-kept_behind-requires-clause-frame
found_behind-kept_behind-requires-clause-frame t c = is_frame_later _ _ _ c.behind_class-found.ensures.grows c.requires

pub found_behind-kept_behind-requires-clause-is : goal.bases::found_behind-kept_behind-requires-clause-is
found_behind-kept_behind-requires-clause-is t c =
    gives_same _ c.behind_class-found.result _ _ (sym (behind_told c.args.s.now c.behind_class-found.new.s c.args.ask.now c.args.frame.0 c.args.name.now c.behind_class-found.ensures.grows c.requires)) c.behind_class-found.ensures.value

pub found_behind-kept_behind-requires-clause-stands : goal.bases::found_behind-kept_behind-requires-clause-stands
found_behind-kept_behind-requires-clause-stands t c = c.behind_class-found.ensures.stand

pub found_behind-returns-in-Some-clause-grows : goal.bases::found_behind-returns-in-Some-clause-grows
found_behind-returns-in-Some-clause-grows t c = grows_refl c.args.s.now

pub found_behind-returns-in-Some-clause-value : goal.bases::found_behind-returns-in-Some-clause-value
found_behind-returns-in-Some-clause-value t c = c.in-Some.ensures.is

pub found_behind-returns-in-Some-clause-stand : goal.bases::found_behind-returns-in-Some-clause-stand
found_behind-returns-in-Some-clause-stand t c = c.in-Some.ensures.stand

pub found_behind-returns-in-None-clause-grows : goal.bases::found_behind-returns-in-None-clause-grows
found_behind-returns-in-None-clause-grows t c = grows_trans _ _ _ c.behind_class-found.ensures.grows c.kept_behind.ensures.grows

pub found_behind-returns-in-None-clause-value : goal.bases::found_behind-returns-in-None-clause-value
found_behind-returns-in-None-clause-value t c =
    gives_same _ c.kept_behind.result _ _ (behind_told c.args.s.now c.behind_class-found.new.s c.args.ask.now c.args.frame.0 c.args.name.now c.behind_class-found.ensures.grows c.requires) c.kept_behind.ensures.value

pub found_behind-returns-in-None-clause-stand : goal.bases::found_behind-returns-in-None-clause-stand
found_behind-returns-in-None-clause-stand t c = c.kept_behind.ensures.stand

pub class_step-returns-clause-value : goal.bases::class_step-returns-clause-value
class_step-returns-clause-value t c = c.classed_given.ensures.value _ c.found_behind-found.ensures.value

pub class_step-classed_given-requires : goal.bases::class_step-classed_given-requires
class_step-classed_given-requires t c = c.found_behind-found.ensures.stand

pub class_step-returns-clause-grows : goal.bases::class_step-returns-clause-grows
class_step-returns-clause-grows t c = c.found_behind-found.ensures.grows

pub class_step-returns-clause-stand : goal.bases::class_step-returns-clause-stand
class_step-returns-clause-stand t c = c.classed_given.ensures.stand

pub class_behind-returns-in_err-class-clause-value : goal.bases::class_behind-returns-in_err-class-clause-value
class_behind-returns-in_err-class-clause-value t c =
    let p = err_from_is_err_and c.from_residual.result c.from_residual.ensures.1 in
    let C : Classed = classed_seen (frames_of c.loop-part.s) c.loop-part.class in
    rw (p.1, p.2) (loop_err (classed_seen (frames_of c.class_step.new.s)) (classed_seen (frames_of c.class_step.new.s)) c.in_err-class.field-0.0 c.args.s.now c.loop-part.s
    (λ t. class_step t (asks t c.args.ask.now) C c.part-item.result)
    (λ next. class_behind (table_in c.args.s.now) (asks (table_in c.args.s.now) c.args.ask.now) next (drop (c.loop-part.part-index + 1) c.args.parts.now)) _
    c.loop-part.invariant.grows c.in_err-class.ensures.value
    (class_names_step (table_in c.args.s.now) (asks (table_in c.args.s.now) c.args.ask.now) C c.part-item.result (drop (c.loop-part.part-index + 1) c.args.parts.now)
    ∙ left_from (class_behind (table_in c.args.s.now) (asks (table_in c.args.s.now) c.args.ask.now) C) c.args.parts.now c.loop-part.part-index c.part-item.result _ c.loop-part-test.true c.part-item.is c.loop-part.invariant.left))

pub class_behind-loop-part-preserved : goal.bases::class_behind-loop-part-preserved
class_behind-loop-part-preserved t c = record {
  grows = grows_trans c.args.s.now c.loop-part.s c.class_step.new.s c.loop-part.invariant.grows c.in_ok-class.ensures.grows;
  stand = c.in_ok-class.ensures.stand;
  left =
      let C : Classed = classed_seen (frames_of c.loop-part.s) c.loop-part.class in
      then_ok (class_step (table_in c.args.s.now) (asks (table_in c.args.s.now) c.args.ask.now) C c.part-item.result)
      (λ next. class_behind (table_in c.args.s.now) (asks (table_in c.args.s.now) c.args.ask.now) next (drop (c.loop-part.part-index + 1) c.args.parts.now))
      (classed_seen (frames_of c.class_step.new.s) c.in_ok-class.class) _
      (class_names_step (table_in c.args.s.now) (asks (table_in c.args.s.now) c.args.ask.now) C c.part-item.result (drop (c.loop-part.part-index + 1) c.args.parts.now)
      ∙ left_from (class_behind (table_in c.args.s.now) (asks (table_in c.args.s.now) c.args.ask.now) C) c.args.parts.now c.loop-part.part-index c.part-item.result _ c.loop-part-test.true c.part-item.is c.loop-part.invariant.left)
      (told_of (λ t. class_step t (asks t c.args.ask.now) C c.part-item.result) c.args.s.now c.loop-part.s _ c.loop-part.invariant.grows c.in_ok-class.ensures.value);
}

pub class_behind-class_step-requires : goal.bases::class_behind-class_step-requires
class_behind-class_step-requires t c = (omega arith, c.loop-part.invariant.stand)

pub class_behind-returns-in_err-class-clause-grows : goal.bases::class_behind-returns-in_err-class-clause-grows
class_behind-returns-in_err-class-clause-grows t c = grows_trans _ _ _ c.loop-part.invariant.grows c.in_err-class.ensures.grows

pub class_behind-loop-part-init : goal.bases::class_behind-loop-part-init
class_behind-loop-part-init t c = record {
  grows = grows_refl c.args.s.now;
  stand = c.requires;
  left = refl;
}

pub class_behind-returns-in_err-class-clause-stand : goal.bases::class_behind-returns-in_err-class-clause-stand
class_behind-returns-in_err-class-clause-stand t c =
    let p = err_from_is_err_and c.from_residual.result c.from_residual.ensures.1 in
    rw p.1 tt

pub class_behind-returns-clause-grows : goal.bases::class_behind-returns-clause-grows
class_behind-returns-clause-grows t c = c.loop-part.invariant.grows

pub class_behind-returns-clause-stand : goal.bases::class_behind-returns-clause-stand
class_behind-returns-clause-stand t c = c.loop-part.invariant.stand

pub class_named-returns-in_err-first-clause-value : goal.bases::class_named-returns-in_err-first-clause-value
class_named-returns-in_err-first-clause-value t c =
    let p = err_from_is_err_and c.from_residual.result c.from_residual.ensures.1 in
    let A : Asking = asks (table_in c.args.s.now) c.args.ask.now in
    let S : Scope = scope_at c.args.s.now c.args.scope.now in
    exit_err (classed_seen (frames_of c.class_first.new.s)) _ c.from_residual.result c.in_err-first.field-0.0 c.args.s.now c.args.s.now
    (λ t. first_of_parts t (asks t c.args.ask.now) c.args.bare c.args.reference.now.top S c.args.reference.now.parts)
    (λ class. class_behind (table_in c.args.s.now) A class (drop 1 c.args.reference.now.parts)) _ (p.1 ∙ ap Err p.2)
    (grows_refl c.args.s.now) c.in_err-first.ensures.value
    (class_named_is (table_in c.args.s.now) A c.args.bare S c.args.reference.now)

pub class_named-returns-clause-value : goal.bases::class_named-returns-clause-value
class_named-returns-clause-value t c =
    let A : Asking = asks (table_in c.args.s.now) c.args.ask.now in
    let S : Scope = scope_at c.args.s.now c.args.scope.now in
    let C : Classed = classed_seen (frames_of c.class_first.new.s) c.in_ok-first.first in
    later_gives _ c.class_behind.result c.args.s.now c.class_first.new.s
    (λ t. class_behind t (asks t c.args.ask.now) C c.behind_first-parts.result.now) _
    c.in_ok-first.ensures.grows c.class_behind.ensures.value
    (ap (class_behind (table_in c.args.s.now) A C) (c.behind_first-parts.ensures ∙ ap (drop 1) c.as_slice.ensures)
    ∙ then_ok (first_of_parts (table_in c.args.s.now) A c.args.bare c.args.reference.now.top S c.args.reference.now.parts)
    (λ class. class_behind (table_in c.args.s.now) A class (drop 1 c.args.reference.now.parts)) C _
    (class_named_is (table_in c.args.s.now) A c.args.bare S c.args.reference.now)
    c.in_ok-first.ensures.value)

pub class_named-class_first-requires : goal.bases::class_named-class_first-requires
class_named-class_first-requires t c = (omega arith, c.requires)

pub class_named-class_behind-requires : goal.bases::class_named-class_behind-requires
class_named-class_behind-requires t c = (omega arith, c.in_ok-first.ensures.stand)

pub class_named-returns-in_err-first-clause-grows : goal.bases::class_named-returns-in_err-first-clause-grows
class_named-returns-in_err-first-clause-grows t c = c.in_err-first.ensures.grows

pub class_named-returns-clause-grows : goal.bases::class_named-returns-clause-grows
class_named-returns-clause-grows t c = grows_trans _ _ _ c.in_ok-first.ensures.grows c.class_behind.ensures.grows

pub class_named-returns-in_err-first-clause-stand : goal.bases::class_named-returns-in_err-first-clause-stand
class_named-returns-in_err-first-clause-stand t c =
    let p = err_from_is_err_and c.from_residual.result c.from_residual.ensures.1 in
    rw p.1 tt

pub class_named-returns-clause-stand : goal.bases::class_named-returns-clause-stand
class_named-returns-clause-stand t c = c.class_behind.ensures.stand
