-- What is answered of what import clauses find.
use Rattle.mo_names.proofs.Circling.{loop_err, then_ok, told_of, later_gives, star_is, left_read}
use Rattle.mo_names.proofs.HandedOn.{imported_is, option_later, some_later, through_star_told}
use Rattle.mo_names.proofs.Later.{grows_trans, grows_refl, table_later, is_frame_later}
use Rattle.mo_names.proofs.Outcomes.{gives_same}
use Rattle.mo_names.specs.steps.Parts.{imports_of}
use Rattle.mo_names.specs.Sights.{asks, found_at}
use Rattle.mo_names.specs.steps.Lookup.{also_found, found_by, found_by_all}
use Rattle.mo_scope.specs.Lookup.{and_also, Found, through_star}
use Rattle.mo_scope.specs.Rows.{row_at}
use Rattle.mo_scope.specs.Worlds.{frame_at, table_in}
use Rattle.mo_syntax.specs.Outcome.{and_then}
use Rattle.mo_syntax.specs.declared.class.Import.{Import}
use Rattle.std.proofs.Common.{List, ℕ, ap, arith, ◌≡◌, ◌∙◌, ◌+◌, Option, drop, Some, None, subst}
use Rattle.std.proofs.lemmas.Result.{err_from_is_err_and}
use Rattle.std.specs.Prelude.{option_map, slice_get}
use Rattle.mo_names.proofs.+names.Goals as goal

pub through_star-returns-clause-value : goal.circle::through_star-returns-clause-value
through_star-returns-clause-value t c =
    gives_same _ c.star_given.result _ _
    (through_star_told c.args.s.now c.reached-any.new.s c.counted_given-counts.new.s c.args.ask.now c.args.place c.args.frame.0 c.args.name.now c.reached-any.ensures.grows c.counted_given-counts.ensures.grows c.requires)
    (c.star_given.ensures.value _ (c.counted_given-counts.ensures.value _ (c.shown-public.ensures.value _ c.reached-any.ensures.value)))

pub through_star-reached-any-requires : goal.circle::through_star-reached-any-requires
through_star-reached-any-requires t c = (omega arith, c.requires)

pub through_star-counted_given-counts-requires : goal.circle::through_star-counted_given-counts-requires
through_star-counted_given-counts-requires t c = (omega arith, (is_frame_later _ _ _ c.reached-any.ensures.grows c.requires, c.shown-public.ensures.stand))

pub through_star-star_given-requires-clause-frame : goal.circle::through_star-star_given-requires-clause-frame
through_star-star_given-requires-clause-frame t c = is_frame_later _ _ _ c.counted_given-counts.ensures.grows (is_frame_later _ _ _ c.reached-any.ensures.grows c.requires)

pub through_star-returns-clause-grows : goal.circle::through_star-returns-clause-grows
through_star-returns-clause-grows t c = grows_trans _ _ _ c.reached-any.ensures.grows (grows_trans _ _ _ c.counted_given-counts.ensures.grows c.star_given.ensures.grows)

pub through_star-shown-public-requires : goal.circle::through_star-shown-public-requires
through_star-shown-public-requires t c = c.reached-any.ensures.stand

pub through_star-star_given-requires-clause-any : goal.circle::through_star-star_given-requires-clause-any
through_star-star_given-requires-clause-any t c = c.counted_given-counts.ensures.stand

pub through_star-returns-clause-stand : goal.circle::through_star-returns-clause-stand
through_star-returns-clause-stand t c = c.star_given.ensures.stand

pub found_by_import-returns-in-Ok-None-clause-grows : goal.circle::found_by_import-returns-in-Ok-None-clause-grows
found_by_import-returns-in-Ok-None-clause-grows t c = grows_refl c.args.s.now

pub found_by_import-returns-clause-grows : goal.circle::found_by_import-returns-clause-grows
found_by_import-returns-clause-grows t c = grows_refl c.args.s.now

pub found_by_star-returns-in_ok-frame-in-All-clause-value : goal.circle::found_by_star-returns-in_ok-frame-in-All-clause-value
found_by_star-returns-in_ok-frame-in-All-clause-value t c =
    later_gives (option_map (found_at c.through_star.new.s)) c.through_star.result c.args.s.now c.imported_package.new.s
    (λ t. through_star t (asks t c.args.ask.now) c.args.ask.now.place c.in-All.place (frame_at c.imported_package.new.s c.in_ok-frame-in-All.frame.0) c.args.name.now) _
    c.in_ok-frame-in-All.ensures.grows c.through_star.ensures.value
    (star_is (table_in c.args.s.now) (asks (table_in c.args.s.now) c.args.ask.now) c.args.ask.now.place c.in-All.place c.in-All.path c.as_slice.result.now c.args.name.now c.args.clause.now
    (frame_at c.imported_package.new.s c.in_ok-frame-in-All.frame.0) c.in-All.is c.as_slice.ensures c.in_ok-frame-in-All.ensures.value)

pub found_by_star-through_star-requires : goal.circle::found_by_star-through_star-requires
found_by_star-through_star-requires t c = (omega arith, c.in_ok-frame-in-All.ensures.stand)

pub found_by_star-returns-in_err-frame-in-All-clause-grows : goal.circle::found_by_star-returns-in_err-frame-in-All-clause-grows
found_by_star-returns-in_err-frame-in-All-clause-grows t c = c.in_err-frame-in-All.ensures.grows

pub found_by_star-returns-in_ok-frame-in-All-clause-grows : goal.circle::found_by_star-returns-in_ok-frame-in-All-clause-grows
found_by_star-returns-in_ok-frame-in-All-clause-grows t c = grows_trans _ _ _ c.in_ok-frame-in-All.ensures.grows c.through_star.ensures.grows

pub found_by_star-returns-in-Renamed-clause-grows : goal.circle::found_by_star-returns-in-Renamed-clause-grows
found_by_star-returns-in-Renamed-clause-grows t c = grows_refl c.args.s.now

pub found_by_star-returns-in-Named-clause-grows : goal.circle::found_by_star-returns-in-Named-clause-grows
found_by_star-returns-in-Named-clause-grows t c = grows_refl c.args.s.now

pub found_by_star-returns-in-Group-clause-grows : goal.circle::found_by_star-returns-in-Group-clause-grows
found_by_star-returns-in-Group-clause-grows t c = grows_refl c.args.s.now

pub found_by_star-returns-in_err-frame-in-All-clause-stand : goal.circle::found_by_star-returns-in_err-frame-in-All-clause-stand
found_by_star-returns-in_err-frame-in-All-clause-stand t c =
    let p = err_from_is_err_and c.from_residual.result c.from_residual.ensures.1 in
    rw p.1 tt

pub found_by_star-returns-in_ok-frame-in-All-clause-stand : goal.circle::found_by_star-returns-in_ok-frame-in-All-clause-stand
found_by_star-returns-in_ok-frame-in-All-clause-stand t c = c.through_star.ensures.stand

pub found_by-returns-then-star-clause-grows : goal.circle::found_by-returns-then-star-clause-grows
found_by-returns-then-star-clause-grows t c = c.found_by_star.ensures.grows

pub found_by-returns-then-star-clause-stand : goal.circle::found_by-returns-then-star-clause-stand
found_by-returns-then-star-clause-stand t c = c.found_by_star.ensures.stand

pub found_by-returns-else-star-clause-grows : goal.circle::found_by-returns-else-star-clause-grows
found_by-returns-else-star-clause-grows t c = c.found_by_import.ensures.grows

pub found_by-returns-else-star-clause-stand : goal.circle::found_by-returns-else-star-clause-stand
found_by-returns-else-star-clause-stand t c = c.found_by_import.ensures.stand

pub also_by-returns-clause-value : goal.circle::also_by-returns-clause-value
also_by-returns-clause-value t c =
    gives_same _ c.also_given.result _ _
    (ap (λ so_far. and_then (found_by (table_in c.args.s.now) (asks (table_in c.args.s.now) c.args.ask.now) c.args.ask.now.place c.args.star c.args.name.now c.args.clause.now) (and_also c.args.ask.now.place so_far))
    (option_later c.args.s.now c.found_by-found.new.s c.args.so_far c.found_by-found.ensures.grows c.requires))
    (c.also_given.ensures.value _ c.found_by-found.ensures.value)

pub also_by-also_given-requires-clause-so_far : goal.circle::also_by-also_given-requires-clause-so_far
also_by-also_given-requires-clause-so_far t c = some_later _ _ c.args.so_far c.found_by-found.ensures.grows c.requires

pub also_by-also_given-requires-clause-found : goal.circle::also_by-also_given-requires-clause-found
also_by-also_given-requires-clause-found t c = c.found_by-found.ensures.stand

pub also_by-returns-clause-grows : goal.circle::also_by-returns-clause-grows
also_by-returns-clause-grows t c = c.found_by-found.ensures.grows

pub also_by-returns-clause-stand : goal.circle::also_by-returns-clause-stand
also_by-returns-clause-stand t c = c.also_given.ensures.stand

pub found_by_each-returns-in-Err-clause-value : goal.circle::found_by_each-returns-in-Err-clause-value
found_by_each-returns-in-Err-clause-value t c =
    let F : Option Found = option_map (found_at c.loop-at.s) c.loop-at.found in
    let all : List Import = imports_of (row_at (table_in c.args.s.now) c.class_of-class.result.0) in
    let read : slice_get all c.loop-at.at ≡ Some c.import_at-clause.result.now = subst (λ t. slice_get (imports_of (row_at t c.class_of-class.result.0)) c.loop-at.at ≡ Some c.import_at-clause.result.now) (table_later c.args.s.now c.loop-at.s c.loop-at.invariant.grows) c.import_at-clause.ensures in
    loop_err (option_map (found_at c.also_by.new.s)) (option_map (found_at c.also_by.new.s)) c.in-Err.stop c.args.s.now c.loop-at.s
    (λ t. also_found t (asks t c.args.ask.now) c.args.ask.now.place c.args.star c.args.name.now F c.import_at-clause.result.now)
    (λ next. found_by_all (table_in c.args.s.now) (asks (table_in c.args.s.now) c.args.ask.now) c.args.ask.now.place c.args.star c.args.name.now next (drop (c.loop-at.at + 1) all)) _
    c.loop-at.invariant.grows c.in-Err.ensures.value
    (left_read (found_by_all (table_in c.args.s.now) (asks (table_in c.args.s.now) c.args.ask.now) c.args.ask.now.place c.args.star c.args.name.now F) all c.loop-at.at c.import_at-clause.result.now _ read c.loop-at.invariant.left
    ∙ ap (λ (n : ℕ). found_by_all (table_in c.args.s.now) (asks (table_in c.args.s.now) c.args.ask.now) c.args.ask.now.place c.args.star c.args.name.now None (imports_of (row_at (table_in c.args.s.now) n))) c.class_of-class.ensures.is)

pub found_by_each-loop-at-preserved : goal.circle::found_by_each-loop-at-preserved
found_by_each-loop-at-preserved t c =
    let F : Option Found = option_map (found_at c.loop-at.s) c.loop-at.found in
    let all : List Import = imports_of (row_at (table_in c.args.s.now) c.class_of-class.result.0) in
    let read : slice_get all c.loop-at.at ≡ Some c.import_at-clause.result.now = subst (λ t. slice_get (imports_of (row_at t c.class_of-class.result.0)) c.loop-at.at ≡ Some c.import_at-clause.result.now) (table_later c.args.s.now c.loop-at.s c.loop-at.invariant.grows) c.import_at-clause.ensures in
    record {
      grows = grows_trans c.args.s.now c.loop-at.s c.also_by.new.s c.loop-at.invariant.grows c.in-Ok.ensures.grows;
      stand = c.in-Ok.ensures.stand;
      left =
          then_ok (also_found (table_in c.args.s.now) (asks (table_in c.args.s.now) c.args.ask.now) c.args.ask.now.place c.args.star c.args.name.now F c.import_at-clause.result.now)
          (λ next. found_by_all (table_in c.args.s.now) (asks (table_in c.args.s.now) c.args.ask.now) c.args.ask.now.place c.args.star c.args.name.now next (drop (c.loop-at.at + 1) all))
          (option_map (found_at c.also_by.new.s) c.in-Ok.next) _
          (left_read (found_by_all (table_in c.args.s.now) (asks (table_in c.args.s.now) c.args.ask.now) c.args.ask.now.place c.args.star c.args.name.now F) all c.loop-at.at c.import_at-clause.result.now _ read c.loop-at.invariant.left)
          (told_of (λ t. also_found t (asks t c.args.ask.now) c.args.ask.now.place c.args.star c.args.name.now F c.import_at-clause.result.now) c.args.s.now c.loop-at.s _ c.loop-at.invariant.grows c.in-Ok.ensures.value);
    }

pub found_by_each-also_by-requires : goal.circle::found_by_each-also_by-requires
found_by_each-also_by-requires t c = (omega arith, c.loop-at.invariant.stand)

pub found_by_each-returns-in-Err-clause-grows : goal.circle::found_by_each-returns-in-Err-clause-grows
found_by_each-returns-in-Err-clause-grows t c = grows_trans _ _ _ c.loop-at.invariant.grows c.in-Err.ensures.grows

pub found_by_each-returns-clause-grows : goal.circle::found_by_each-returns-clause-grows
found_by_each-returns-clause-grows t c = c.loop-at.invariant.grows

pub found_by_each-returns-clause-stand : goal.circle::found_by_each-returns-clause-stand
found_by_each-returns-clause-stand t c = c.loop-at.invariant.stand

pub found_by_imports-found_by_each-requires : goal.circle::found_by_imports-found_by_each-requires
found_by_imports-found_by_each-requires t c = (omega arith, c.requires)

pub found_by_imports-found_by_each-requires-in-Ok-None : goal.circle::found_by_imports-found_by_each-requires-in-Ok-None
found_by_imports-found_by_each-requires-in-Ok-None t c = (omega arith, is_frame_later _ _ _ c.in-Ok-None.ensures.grows c.requires)

pub found_by_imports-returns-in-Ok-None-clause-grows : goal.circle::found_by_imports-returns-in-Ok-None-clause-grows
found_by_imports-returns-in-Ok-None-clause-grows t c = grows_trans _ _ _ c.in-Ok-None.ensures.grows c.found_by_each-in-Ok-None.ensures.grows

pub found_by_imports-returns-in-Err-clause-grows : goal.circle::found_by_imports-returns-in-Err-clause-grows
found_by_imports-returns-in-Err-clause-grows t c = c.in-Err.ensures.grows

pub found_by_imports-returns-in-Ok-Some-clause-grows : goal.circle::found_by_imports-returns-in-Ok-Some-clause-grows
found_by_imports-returns-in-Ok-Some-clause-grows t c = c.in-Ok-Some.ensures.grows

pub found_by_imports-returns-in-Ok-None-clause-stand : goal.circle::found_by_imports-returns-in-Ok-None-clause-stand
found_by_imports-returns-in-Ok-None-clause-stand t c = c.found_by_each-in-Ok-None.ensures.stand

pub met_by_imports-returns-clause-value : goal.circle::met_by_imports-returns-clause-value
met_by_imports-returns-clause-value t c =
    gives_same _ c.met_given.result _ _ (imported_is _) (c.met_given.ensures.value _ c.found_by_imports-found.ensures.value)

pub met_by_imports-found_by_imports-found-requires : goal.circle::met_by_imports-found_by_imports-found-requires
met_by_imports-found_by_imports-found-requires t c = (omega arith, c.requires)

pub met_by_imports-met_given-requires : goal.circle::met_by_imports-met_given-requires
met_by_imports-met_given-requires t c = c.found_by_imports-found.ensures.stand

pub met_by_imports-returns-clause-grows : goal.circle::met_by_imports-returns-clause-grows
met_by_imports-returns-clause-grows t c = c.found_by_imports-found.ensures.grows

pub met_by_imports-returns-clause-stand : goal.circle::met_by_imports-returns-clause-stand
met_by_imports-returns-clause-stand t c = c.met_given.ensures.stand
