-- What is answered of bases, of the elements that they bring, and of the parts of a class.
use Rattle.mo_names.proofs.Circling.{then_ok, left_read, class_is}
use Rattle.mo_names.proofs.EnteredBases.{part_stands, stands_later}
use Rattle.mo_names.proofs.Later.{grows_trans, grows_refl, is_frame_later, is_walk_later}
use Rattle.mo_names.proofs.Outcomes.{gives_same, exit_same, then_same_ok}
use Rattle.mo_names.proofs.OwnElements.{counted_next, own_part, own_part_later}
use Rattle.mo_names.proofs.Walking.{part_read, part_told}
use Rattle.mo_names.specs.steps.Bases.{StandsAt, part_walked, parts_walked}
use Rattle.mo_names.specs.steps.Parts.{parts_of}
use Rattle.mo_names.specs.Sights.{asks, walk_at}
use Rattle.mo_names.specs.steps.Lookup.{next_item, started}
use Rattle.mo_scope.specs.Frames.{Frame, class_of}
use Rattle.mo_scope.specs.Lookup.{Asking, Walked, leaf_checked}
use Rattle.mo_scope.specs.Rows.{Base_of, row_at, Part, Row}
use Rattle.mo_scope.specs.Sights.{clause_seen, part_seen}
use Rattle.mo_scope.specs.declared.row.Part.{Part as PartAt}
use Rattle.mo_scope.specs.Worlds.{frame_at, table_in}
use Rattle.mo_syntax.specs.Outcome.{and_then}
use Rattle.std.proofs.Common.{ℕ, ap, arith, ◌≡◌, ◌∙◌, ◌+◌, Option, drop, Err, Some, refl, subst}
use Rattle.std.proofs.lemmas.Result.{err_from_is_err_and}
use Rattle.std.specs.Prelude.{slice_get}
use Rattle.mo_names.proofs.+names.Goals as goal

pub base_class-returns-in_err-class-clause-grows : goal.bases::base_class-returns-in_err-class-clause-grows
base_class-returns-in_err-class-clause-grows t c = c.in_err-class.ensures.grows

pub base_class-returns-then-class-clause-grows : goal.bases::base_class-returns-then-class-clause-grows
base_class-returns-then-class-clause-grows t c = c.in_ok-class.ensures.grows

pub base_class-returns-clause-grows : goal.bases::base_class-returns-clause-grows
base_class-returns-clause-grows t c = c.in_ok-class.ensures.grows

pub base_class-returns-in_err-class-clause-stand : goal.bases::base_class-returns-in_err-class-clause-stand
base_class-returns-in_err-class-clause-stand t c =
    let p = err_from_is_err_and c.from_residual.result c.from_residual.ensures.1 in
    rw p.1 tt

pub base_class-returns-clause-stand : goal.bases::base_class-returns-clause-stand
base_class-returns-clause-stand t c = c.in_ok-class.ensures.stand

pub base_found-base_class-requires : goal.bases::base_found-base_class-requires
base_found-base_class-requires t c = (omega arith, c.requires.frame)

pub base_found-base_entered-requires-clause-frame : goal.bases::base_found-base_entered-requires-clause-frame
base_found-base_entered-requires-clause-frame t c = is_frame_later _ _ _ c.in_ok-class.ensures.grows c.requires.frame

pub base_found-base_entered-requires-clause-clause : goal.bases::base_found-base_entered-requires-clause-clause
base_found-base_entered-requires-clause-clause t c =
    stands_later c.args.s.now c.base_class.new.s c.args.frame.0 c.args.clause.now.at (Base_of (clause_seen c.args.clause.now.clause)) c.in_ok-class.ensures.grows c.requires.frame c.requires.clause

pub base_found-base_entered-requires-clause-class : goal.bases::base_found-base_entered-requires-clause-class
base_found-base_entered-requires-clause-class t c = c.in_ok-class.ensures.stand

pub base_found-returns-then-is_none-clause-grows : goal.bases::base_found-returns-then-is_none-clause-grows
base_found-returns-then-is_none-clause-grows t c = grows_refl c.args.s.now

pub base_found-returns-in_err-class-clause-grows : goal.bases::base_found-returns-in_err-class-clause-grows
base_found-returns-in_err-class-clause-grows t c = c.in_err-class.ensures.grows

pub base_found-returns-in_err-base_entered-clause-grows : goal.bases::base_found-returns-in_err-base_entered-clause-grows
base_found-returns-in_err-base_entered-clause-grows t c = grows_trans _ _ _ c.in_ok-class.ensures.grows c.in_err-base_entered.ensures.grows

pub base_found-returns-clause-grows : goal.bases::base_found-returns-clause-grows
base_found-returns-clause-grows t c = grows_trans _ _ _ c.in_ok-class.ensures.grows c.in_ok-base_entered.ensures.grows

pub base_found-returns-in_err-class-clause-stand : goal.bases::base_found-returns-in_err-class-clause-stand
base_found-returns-in_err-class-clause-stand t c =
    let p = err_from_is_err_and c.from_residual.result c.from_residual.ensures.1 in
    rw p.1 tt

pub base_found-returns-in_err-base_entered-clause-stand : goal.bases::base_found-returns-in_err-base_entered-clause-stand
base_found-returns-in_err-base_entered-clause-stand t c =
    let p = err_from_is_err_and c.from_residual-in_err-base_entered.result c.from_residual-in_err-base_entered.ensures.1 in
    rw p.1 tt

pub base_found-returns-clause-stand : goal.bases::base_found-returns-clause-stand
base_found-returns-clause-stand t c = c.in_ok-base_entered.ensures.stand

pub base_found-returns-then-is_none-clause-stand : goal.bases::base_found-returns-then-is_none-clause-stand
base_found-returns-then-is_none-clause-stand t c = c.requires.frame

pub base_elements-base_found-requires : goal.bases::base_elements-base_found-requires
base_elements-base_found-requires t c = (omega arith, (c.requires.frame, c.requires.clause))

pub base_elements-returns-in_err-base-clause-grows : goal.bases::base_elements-returns-in_err-base-clause-grows
base_elements-returns-in_err-base-clause-grows t c = c.in_err-base.ensures.grows

pub base_elements-returns-in_err-walked-clause-grows : goal.bases::base_elements-returns-in_err-walked-clause-grows
base_elements-returns-in_err-walked-clause-grows t c = grows_trans _ _ _ c.in_ok-base.ensures.grows c.in_err-walked.ensures.grows

pub base_elements-returns-clause-grows : goal.bases::base_elements-returns-clause-grows
base_elements-returns-clause-grows t c = grows_trans _ _ _ c.in_ok-base.ensures.grows c.in_ok-walked.ensures.grows

pub base_elements-returns-clause-stand : goal.bases::base_elements-returns-clause-stand
base_elements-returns-clause-stand t c = (is_frame_later _ _ _ c.in_ok-walked.ensures.grows c.in_ok-base.ensures.stand, c.in_ok-walked.ensures.stand)

pub base_elements-returns-in_err-base-clause-stand : goal.bases::base_elements-returns-in_err-base-clause-stand
base_elements-returns-in_err-base-clause-stand t c =
    let p = err_from_is_err_and c.from_residual.result c.from_residual.ensures.1 in
    rw p.1 tt

pub base_elements-returns-in_err-walked-clause-stand : goal.bases::base_elements-returns-in_err-walked-clause-stand
base_elements-returns-in_err-walked-clause-stand t c =
    let p = err_from_is_err_and c.from_residual-in_err-walked.result c.from_residual-in_err-walked.ensures.1 in
    rw p.1 tt

pub base_walked-with_base-requires-clause-so_far : goal.bases::base_walked-with_base-requires-clause-so_far
base_walked-with_base-requires-clause-so_far t c = is_walk_later c.args.s.now c.base_elements.new.s c.args.so_far.now c.in_ok-base.ensures.grows c.requires.so_far

pub base_walked-base_elements-requires : goal.bases::base_walked-base_elements-requires
base_walked-base_elements-requires t c = (omega arith, (c.requires.frame, c.requires.clause))

pub base_walked-returns-in_err-base-clause-grows : goal.bases::base_walked-returns-in_err-base-clause-grows
base_walked-returns-in_err-base-clause-grows t c = c.in_err-base.ensures.grows

pub base_walked-returns-in_err-base-clause-stand : goal.bases::base_walked-returns-in_err-base-clause-stand
base_walked-returns-in_err-base-clause-stand t c =
    let p = err_from_is_err_and c.from_residual.result c.from_residual.ensures.1 in
    rw p.1 tt

pub base_walked-returns-clause-grows : goal.bases::base_walked-returns-clause-grows
base_walked-returns-clause-grows t c = c.in_ok-base.ensures.grows

pub base_walked-returns-clause-stand : goal.bases::base_walked-returns-clause-stand
base_walked-returns-clause-stand t c = c.with_base.ensures.stand

pub part_walked-base_walked-requires : goal.bases::part_walked-base_walked-requires
part_walked-base_walked-requires t c = (
  omega arith,
  (
    c.requires.frame,
    (subst (λ (p : PartAt). StandsAt (row_at (table_in c.args.s.now) (class_of (frame_at c.args.s.now c.args.frame.0))) c.args.part.now.at (part_seen p)) c.in-Base.is c.requires.placed, c.requires.so_far),
  ),
)

pub part_walked-returns-in_err-own_walked-in-Element-clause-grows : goal.bases::part_walked-returns-in_err-own_walked-in-Element-clause-grows
part_walked-returns-in_err-own_walked-in-Element-clause-grows t c = grows_refl c.args.s.now

pub part_walked-returns-in_ok-own_walked-in-Element-clause-grows : goal.bases::part_walked-returns-in_ok-own_walked-in-Element-clause-grows
part_walked-returns-in_ok-own_walked-in-Element-clause-grows t c = grows_refl c.args.s.now

pub part_walked-returns-in_err-base_walked-in-Base-clause-grows : goal.bases::part_walked-returns-in_err-base_walked-in-Base-clause-grows
part_walked-returns-in_err-base_walked-in-Base-clause-grows t c = c.in_err-base_walked-in-Base.ensures.grows

pub part_walked-returns-in_ok-base_walked-in-Base-clause-grows : goal.bases::part_walked-returns-in_ok-base_walked-in-Base-clause-grows
part_walked-returns-in_ok-base_walked-in-Base-clause-grows t c = c.in_ok-base_walked-in-Base.ensures.grows

pub walked_parts-returns-in_err-item-clause-value : goal.bases::walked_parts-returns-in_err-item-clause-value
walked_parts-returns-in_err-item-clause-value t c =
    let p = err_from_is_err_and c.from_residual.result c.from_residual.ensures.1 in
    let F : Frame = frame_at c.args.s.now c.args.frame.0 in
    let A : Asking = asks (table_in c.args.s.now) c.args.ask.now in
    let row : Option Row = row_at (table_in c.args.s.now) (class_of F) in
    let W : Walked = walk_at c.loop-at.s c.loop-at.so_far in
    let part : Part = part_seen c.part_at-part.result.part in
    let read : slice_get (parts_of row) c.loop-at.at ≡ Some part = part_read c.args.s.now c.loop-at.s c.class_of-class.result.0 F c.loop-at.at part c.loop-at.invariant.grows c.class_of-class.ensures.is c.part_at-part.ensures.is in
    exit_same {T = ℕ} (λ _. walk_at c.part_walked.new.s c.part_walked.new.so_far) _ c.from_residual.result c.in_err-item.field-0.0 _ (part_walked (table_in c.args.s.now) A F row c.loop-at.item part W)
    (λ w. parts_walked (table_in c.args.s.now) A F row (next_item part c.loop-at.item) (drop (c.loop-at.at + 1) (parts_of row)) w) _
    (p.1 ∙ ap Err p.2) (part_told c.args.s.now c.loop-at.s c.args.ask.now c.args.frame.0 c.loop-at.item part W c.loop-at.invariant.grows c.requires.frame) c.in_err-item.ensures.value
    (left_read (λ ps. parts_walked (table_in c.args.s.now) A F row c.loop-at.item ps W) (parts_of row) c.loop-at.at part _ read c.loop-at.invariant.left)

pub walked_parts-part_walked-requires : goal.bases::walked_parts-part_walked-requires
walked_parts-part_walked-requires t c =
    let F : Frame = frame_at c.args.s.now c.args.frame.0 in
    let part : Part = part_seen c.part_at-part.result.part in (
      omega arith,
      (
        is_frame_later c.args.s.now c.loop-at.s c.args.frame.0 c.loop-at.invariant.grows c.requires.frame,
        (
          c.loop-at.invariant.stand,
          (
            c.part_at-part.ensures.exists,
            (
              own_part_later c.args.s.now c.loop-at.s c.args.frame.0 c.loop-at.item part c.loop-at.invariant.grows c.requires.frame
                  (own_part (table_in c.args.s.now) F c.loop-at.at c.loop-at.item part
                  (part_read c.args.s.now c.loop-at.s c.class_of-class.result.0 F c.loop-at.at part c.loop-at.invariant.grows c.class_of-class.ensures.is c.part_at-part.ensures.is)
                  c.loop-at.invariant.counted),
              part_stands c.args.s.now c.loop-at.s c.class_of-class.result.0 c.args.frame.0 c.loop-at.at c.part_at-part.result.at part c.loop-at.invariant.grows c.requires.frame c.class_of-class.ensures.is
                  c.part_at-part.ensures.at c.part_at-part.ensures.is,
            ),
          ),
        ),
      ),
    )

pub walked_parts-loop-at-preserved : goal.bases::walked_parts-loop-at-preserved
walked_parts-loop-at-preserved t c =
    let F : Frame = frame_at c.args.s.now c.args.frame.0 in
    let A : Asking = asks (table_in c.args.s.now) c.args.ask.now in
    let row : Option Row = row_at (table_in c.args.s.now) (class_of F) in
    let W : Walked = walk_at c.loop-at.s c.loop-at.so_far in
    let part : Part = part_seen c.part_at-part.result.part in
    let read : slice_get (parts_of row) c.loop-at.at ≡ Some part = part_read c.args.s.now c.loop-at.s c.class_of-class.result.0 F c.loop-at.at part c.loop-at.invariant.grows c.class_of-class.ensures.is c.part_at-part.ensures.is in
    record {
      grows = grows_trans c.args.s.now c.loop-at.s c.part_walked.new.s c.loop-at.invariant.grows c.in_ok-item.ensures.grows;
      stand = c.in_ok-item.ensures.stand;
      left =
          ap (λ n. parts_walked (table_in c.args.s.now) A F row n (drop (c.loop-at.at + 1) (parts_of row)) (walk_at c.part_walked.new.s c.part_walked.new.so_far)) c.in_ok-item.ensures.item
          ∙ then_same_ok _ (part_walked (table_in c.args.s.now) A F row c.loop-at.item part W)
          (λ w. parts_walked (table_in c.args.s.now) A F row (next_item part c.loop-at.item) (drop (c.loop-at.at + 1) (parts_of row)) w)
          (walk_at c.part_walked.new.s c.part_walked.new.so_far) _
          (part_told c.args.s.now c.loop-at.s c.args.ask.now c.args.frame.0 c.loop-at.item part W c.loop-at.invariant.grows c.requires.frame)
          (left_read (λ ps. parts_walked (table_in c.args.s.now) A F row c.loop-at.item ps W) (parts_of row) c.loop-at.at part _ read c.loop-at.invariant.left)
          c.in_ok-item.ensures.value;
      counted = c.in_ok-item.ensures.item ∙ counted_next (parts_of row) c.loop-at.at c.loop-at.item part read c.loop-at.invariant.counted;
    }

pub walked_parts-returns-in_err-item-clause-grows : goal.bases::walked_parts-returns-in_err-item-clause-grows
walked_parts-returns-in_err-item-clause-grows t c = grows_trans _ _ _ c.loop-at.invariant.grows c.in_err-item.ensures.grows

pub walked_parts-returns-in_err-item-clause-stand : goal.bases::walked_parts-returns-in_err-item-clause-stand
walked_parts-returns-in_err-item-clause-stand t c =
    let p = err_from_is_err_and c.from_residual.result c.from_residual.ensures.1 in
    rw p.1 tt

pub walked_parts-returns-clause-grows : goal.bases::walked_parts-returns-clause-grows
walked_parts-returns-clause-grows t c = c.loop-at.invariant.grows

pub walked_parts-returns-clause-stand : goal.bases::walked_parts-returns-clause-stand
walked_parts-returns-clause-stand t c = c.loop-at.invariant.stand

pub walked_class-returns-in_err-walk-clause-value : goal.bases::walked_class-returns-in_err-walk-clause-value
walked_class-returns-in_err-walk-clause-value t c =
    let p = err_from_is_err_and c.from_residual.result c.from_residual.ensures.1 in
    let A : Asking = asks (table_in c.args.s.now) c.args.ask.now in
    let F : Frame = frame_at c.args.s.now c.args.frame.0 in
    let row : Option Row = row_at (table_in c.args.s.now) (class_of F) in
    exit_same (walk_at c.args.s.now) _ c.from_residual.result c.in_err-walk.field-0.0 (started F row) (started F row)
    (λ w. and_then (parts_walked (table_in c.args.s.now) A F row 0 (parts_of row) w) leaf_checked) _ (p.1 ∙ ap Err p.2) refl c.in_err-walk.ensures.value
    (class_is (table_in c.args.s.now) A F row)

pub walked_class-returns-clause-value : goal.bases::walked_class-returns-clause-value
walked_class-returns-clause-value t c =
    let A : Asking = asks (table_in c.args.s.now) c.args.ask.now in
    let F : Frame = frame_at c.args.s.now c.args.frame.0 in
    let row : Option Row = row_at (table_in c.args.s.now) (class_of F) in
    let W : Walked = walk_at c.args.s.now c.in_ok-walk.walk in
    gives_same _ c.walk_checked.result _ _
    (then_ok (started F row) (λ w. and_then (parts_walked (table_in c.args.s.now) A F row 0 (parts_of row) w) leaf_checked) W _ (class_is (table_in c.args.s.now) A F row) c.in_ok-walk.ensures.value)
    (c.walk_checked.ensures.value _ c.walked_parts-done.ensures.value)

pub walked_class-walked_parts-done-requires : goal.bases::walked_class-walked_parts-done-requires
walked_class-walked_parts-done-requires t c = (omega arith, (c.requires, c.in_ok-walk.ensures.stand))

pub walked_class-returns-in_err-walk-clause-grows : goal.bases::walked_class-returns-in_err-walk-clause-grows
walked_class-returns-in_err-walk-clause-grows t c = grows_refl c.args.s.now

pub walked_class-returns-in_err-walk-clause-stand : goal.bases::walked_class-returns-in_err-walk-clause-stand
walked_class-returns-in_err-walk-clause-stand t c =
    let p = err_from_is_err_and c.from_residual.result c.from_residual.ensures.1 in
    rw p.1 tt

pub walked_class-walk_checked-requires : goal.bases::walked_class-walk_checked-requires
walked_class-walk_checked-requires t c = c.walked_parts-done.ensures.stand

pub walked_class-returns-clause-grows : goal.bases::walked_class-returns-clause-grows
walked_class-returns-clause-grows t c = c.walked_parts-done.ensures.grows

pub walked_class-returns-clause-stand : goal.bases::walked_class-returns-clause-stand
walked_class-returns-clause-stand t c = c.walk_checked.ensures.stand
