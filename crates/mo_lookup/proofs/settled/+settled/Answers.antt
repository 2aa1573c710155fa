-- Frames whose elements do not depend on the classes whose bases are being found, one after another.
use Rattle.std.proofs.Common.{◌≡◌, Option, Some, ap, arith, sym, subst, ◌∙◌}
use Rattle.std.specs.Prelude.{slice_get}
use Rattle.mo_scope.specs.Frames.{Frame, class_of}
use Rattle.mo_scope.specs.declared.row.Part.{Part as PartAt}
use Rattle.mo_scope.specs.Lookup.{Walked, asking_at}
use Rattle.mo_scope.specs.Rows.{Part, Row, Table, number_of_classes, row_at}
use Rattle.mo_scope.specs.Sights.{clause_seen, declares_seen, part_seen}
use Rattle.mo_scope.specs.Worlds.{frame_at, table_in}
use Rattle.mo_names.specs.steps.Bases.{IsOwnPart, PartExists, StandsAt, part_walked, parts_walked}
use Rattle.mo_lookup.specs.steps.Settled.{AreSettled, ToldFree, ToldOwned}
use Rattle.mo_names.specs.steps.Lookup.{next_item}
use Rattle.mo_names.specs.steps.Parts.{parts_of}
use Rattle.mo_names.specs.Sights.{walk_at}
use Rattle.mo_names.specs.steps.Twins.{owned_walk}
use Rattle.mo_names.proofs.EnteredBases.{part_stands}
use Rattle.mo_names.proofs.Later.{grows_refl, grows_trans, is_frame_later, is_walk_later}
use Rattle.mo_names.proofs.OwnElements.{counted_next, own_part, own_part_later}
use Rattle.mo_lookup.proofs.Settling.{are_settled_later, base_told, base_told_owned, class_owned_later, class_told, class_told_later, class_told_owned, own_told, own_told_owned, part_on, part_told_free, part_told_owned}
use Rattle.mo_names.proofs.Walking.{part_read}
use Rattle.mo_names.proofs.Outcomes.{at_exit}
use Rattle.mo_lookup.proofs.settled.+settled.Goals as goal

pub base_settled-settle-requires : goal.base_settled-settle-requires
base_settled-settle-requires t c = (
  omega arith,
  (c.in_ok-base.ensures.stand, are_settled_later c.args.s.now c.base_named.new.s c.args.known.now c.in_ok-base.ensures.grows c.requires.known),
)

pub base_settled-base_joined-requires-clause-so_far : goal.base_settled-base_joined-requires-clause-so_far
base_settled-base_joined-requires-clause-so_far t c =
    is_walk_later c.args.s.now c.settle.new.s c.args.so_far.now.walk (grows_trans c.args.s.now c.base_named.new.s c.settle.new.s c.in_ok-base.ensures.grows c.in_ok-settle.ensures.grows) c.requires.so_far

pub base_settled-returns-clause-told : goal.base_settled-returns-clause-told
base_settled-returns-clause-told t c =
    let F : Frame = frame_at c.args.s.now c.args.frame.0 in
    base_told c.args.s.now c.base_named.new.s c.settle.new.s F (row_at (table_in c.args.s.now) (class_of F)) (clause_seen c.args.clause.now.clause) c.in_ok-base.base.0 c.args.so_far.now c.base_joined.new.so_far
    c.in_ok-base.ensures.grows c.in_ok-settle.ensures.grows c.in_ok-base.ensures.stand c.requires.so_far c.in_ok-base.ensures.value c.in_ok-base_joined.ensures.joined

pub base_settled-returns-clause-owned : goal.base_settled-returns-clause-owned
base_settled-returns-clause-owned t c =
    λ alike. base_told_owned c.args.s.now c.base_named.new.s c.settle.new.s c.args.frame.0 (clause_seen c.args.clause.now.clause) c.in_ok-base.base.0 c.args.so_far.now c.base_joined.new.so_far
    c.in_ok-base.ensures.grows c.in_ok-settle.ensures.grows c.requires.frame c.in_ok-base.ensures.stand c.requires.so_far c.in_ok-base.ensures.value c.in_ok-base_joined.ensures.joined
    (c.are_both-so_far.ensures.first alike) (c.is_base_alike-alike.ensures.row (c.are_both-so_far.ensures.second alike)) (c.is_base_alike-alike.ensures.unowned (c.are_both-so_far.ensures.second alike))
    (c.is_base_alike-alike.ensures.sources (c.are_both-so_far.ensures.second alike)) (c.is_base_alike-alike.ensures.elsewhere (c.are_both-so_far.ensures.second alike))

pub base_settled-returns-clause-further : goal.base_settled-returns-clause-further
base_settled-returns-clause-further t c = record {
  classes = c.in_ok-base_joined.ensures.further.classes;
  deep = c.in_ok-base_joined.ensures.further.deep;
  alike = λ alike. c.in_ok-base_joined.ensures.further.alike (c.are_both-so_far.ensures.first alike);
}

pub part_settled-returns-in_ok-own_settled-in-Element-clause-owned : goal.part_settled-returns-in_ok-own_settled-in-Element-clause-owned
part_settled-returns-in_ok-own_settled-in-Element-clause-owned t c =
    let T : Table = table_in c.args.s.now in
    let F : Frame = frame_at c.args.s.now c.args.frame.0 in
    let row : Option Row = row_at T (class_of F) in
    let W : Walked = walk_at c.args.s.now c.args.so_far.now.walk in
    let V : Walked = walk_at c.args.s.now c.own_settled.new.so_far.walk in
    let after = c.own_settled.new.so_far in
    λ alike. subst (λ (p : PartAt). ToldOwned T after.classes after.deep F (λ asking owned x. part_walked T asking owned row c.args.so_far.now.item (part_seen p) x) W V) (sym c.in-Element.is)
    (own_told_owned T F row c.args.so_far.now.item (declares_seen c.in-Element.declares) W V after.classes after.deep c.in_ok-own_settled-in-Element.ensures.joined)

pub parts_settled-loop-at-init : goal.parts_settled-loop-at-init
parts_settled-loop-at-init t c =
    let F : Frame = frame_at c.args.s.now c.args.frame.0 in
    let row : Option Row = row_at (table_in c.args.s.now) (class_of F) in
    record {
      grows = grows_refl c.args.s.now;
      known = c.requires.known;
      stand = c.requires.so_far;
      left = λ left busy free. ap (λ n. parts_walked (table_in c.args.s.now) (asking_at (table_in c.args.s.now) left busy) F row n (parts_of row) (walk_at c.args.s.now c.args.so_far.now.walk)) c.requires.none;
      owned = λ alike owned twin left busy free. ap (λ n. parts_walked (table_in c.args.s.now) (asking_at (table_in c.args.s.now) left busy) owned row n (parts_of row) (owned_walk owned (walk_at c.args.s.now c.args.so_far.now.walk))) c.requires.none;
      alike = λ alike. alike;
      counted = c.requires.none;
    }

pub parts_settled-part_settled-requires : goal.parts_settled-part_settled-requires
parts_settled-part_settled-requires t c =
    let F : Frame = frame_at c.args.s.now c.args.frame.0 in
    let part : Part = part_seen c.part_at-part.result.part in (
      omega arith,
      (
        is_frame_later c.args.s.now c.loop-at.s c.args.frame.0 c.loop-at.invariant.grows c.requires.frame,
        (
          c.loop-at.invariant.known,
          (
            c.loop-at.invariant.stand,
            (
              c.part_at-part.ensures.exists,
              (
                own_part_later c.args.s.now c.loop-at.s c.args.frame.0 c.loop-at.so_far.item part c.loop-at.invariant.grows c.requires.frame
                    (own_part (table_in c.args.s.now) F c.loop-at.at c.loop-at.so_far.item part
                    (part_read c.args.s.now c.loop-at.s c.class_of-class.result.0 F c.loop-at.at part c.loop-at.invariant.grows c.class_of-class.ensures.is c.part_at-part.ensures.is)
                    c.loop-at.invariant.counted),
                part_stands c.args.s.now c.loop-at.s c.class_of-class.result.0 c.args.frame.0 c.loop-at.at c.part_at-part.result.at part c.loop-at.invariant.grows c.requires.frame
                    c.class_of-class.ensures.is c.part_at-part.ensures.at c.part_at-part.ensures.is,
              ),
            ),
          ),
        ),
      ),
    )

pub parts_settled-loop-at-preserved : goal.parts_settled-loop-at-preserved
parts_settled-loop-at-preserved t c =
    let F : Frame = frame_at c.args.s.now c.args.frame.0 in
    let row : Option Row = row_at (table_in c.args.s.now) (class_of F) in
    let part : Part = part_seen c.part_at-part.result.part in
    let read : slice_get (parts_of row) c.loop-at.at ≡ Some part = part_read c.args.s.now c.loop-at.s c.class_of-class.result.0 F c.loop-at.at part c.loop-at.invariant.grows c.class_of-class.ensures.is c.part_at-part.ensures.is in
    record {
      grows = grows_trans c.args.s.now c.loop-at.s c.part_settled.new.s c.loop-at.invariant.grows c.in_ok-part_settled.ensures.grows;
      known = c.in_ok-part_settled.ensures.known;
      stand = c.in_ok-part_settled.ensures.stand;
      left =
          part_on (table_in c.args.s.now) F row c.loop-at.so_far c.part_settled.new.so_far c.loop-at.at part
          (walk_at c.loop-at.s c.loop-at.so_far.walk) (walk_at c.part_settled.new.s c.part_settled.new.so_far.walk)
          (λ left busy. parts_walked (table_in c.args.s.now) (asking_at (table_in c.args.s.now) left busy) F row 0 (parts_of row) (walk_at c.args.s.now c.args.so_far.now.walk))
          read c.in_ok-part_settled.ensures.further c.in_ok-part_settled.ensures.item
          (part_told_free c.args.s.now c.loop-at.s c.args.frame.0 c.loop-at.so_far.item part (walk_at c.loop-at.s c.loop-at.so_far.walk) (walk_at c.part_settled.new.s c.part_settled.new.so_far.walk)
          c.part_settled.new.so_far.classes c.part_settled.new.so_far.deep c.loop-at.invariant.grows c.requires.frame c.in_ok-part_settled.ensures.told)
          c.loop-at.invariant.left;
      owned = λ alike owned twin.
          part_on (table_in c.args.s.now) owned row c.loop-at.so_far c.part_settled.new.so_far c.loop-at.at part
          (owned_walk owned (walk_at c.loop-at.s c.loop-at.so_far.walk)) (owned_walk owned (walk_at c.part_settled.new.s c.part_settled.new.so_far.walk))
          (λ left busy. parts_walked (table_in c.args.s.now) (asking_at (table_in c.args.s.now) left busy) owned row 0 (parts_of row) (owned_walk owned (walk_at c.args.s.now c.args.so_far.now.walk)))
          read c.in_ok-part_settled.ensures.further c.in_ok-part_settled.ensures.item
          (part_told_owned c.args.s.now c.loop-at.s c.args.frame.0 c.loop-at.so_far.item part (walk_at c.loop-at.s c.loop-at.so_far.walk) (walk_at c.part_settled.new.s c.part_settled.new.so_far.walk)
          c.part_settled.new.so_far.classes c.part_settled.new.so_far.deep c.loop-at.invariant.grows c.requires.frame (c.in_ok-part_settled.ensures.owned alike) owned twin)
          (c.loop-at.invariant.owned (c.in_ok-part_settled.ensures.further.alike alike) owned twin);
      alike = λ alike. c.loop-at.invariant.alike (c.in_ok-part_settled.ensures.further.alike alike);
      counted = c.in_ok-part_settled.ensures.item ∙ counted_next (parts_of row) c.loop-at.at c.loop-at.so_far.item part read c.loop-at.invariant.counted;
    }

pub class_settled-returns-clause-told : goal.class_settled-returns-clause-told
class_settled-returns-clause-told t c =
    let F : Frame = frame_at c.args.s.now c.args.frame.0 in
    class_told (table_in c.args.s.now) F (walk_at c.args.s.now c.in_ok-made.made.walk) (walk_at c.parts_settled.new.s c.parts_settled.new.so_far.walk)
    c.parts_settled.new.so_far.classes c.parts_settled.new.so_far.deep c.in_ok-made.ensures.value c.in_ok-parts_settled.ensures.told c.in_ok-leaf_checked.ensures

pub settle-put_settled-requires-clause-told : goal.settle-put_settled-requires-clause-told
settle-put_settled-requires-clause-told t c =
    class_told_later c.args.s.now c.class_settled.new.s c.args.frame.0 (walk_at c.class_settled.new.s c.in_ok-made.made.walk) c.in_ok-made.made.classes c.in_ok-made.made.deep
    c.in_ok-made.ensures.grows c.requires.frame c.in_ok-made.ensures.told

pub class_settled-returns-clause-owned : goal.class_settled-returns-clause-owned
class_settled-returns-clause-owned t c =
    let F : Frame = frame_at c.args.s.now c.args.frame.0 in
    λ alike. class_told_owned (table_in c.args.s.now) F (walk_at c.args.s.now c.in_ok-made.made.walk) (walk_at c.parts_settled.new.s c.parts_settled.new.so_far.walk)
    c.parts_settled.new.so_far.classes c.parts_settled.new.so_far.deep c.in_ok-made.ensures.value (c.in_ok-made.ensures.leaf (c.in_ok-parts_settled.ensures.alike alike)) (c.in_ok-parts_settled.ensures.owned alike)

pub settle-put_settled-requires-clause-owned : goal.settle-put_settled-requires-clause-owned
settle-put_settled-requires-clause-owned t c =
    λ alike. class_owned_later c.args.s.now c.class_settled.new.s c.args.frame.0 (walk_at c.class_settled.new.s c.in_ok-made.made.walk) c.in_ok-made.made.classes c.in_ok-made.made.deep
    c.in_ok-made.ensures.grows c.requires.frame (c.in_ok-made.ensures.owned alike)

pub base_settled-returns-in_err-base-clause-grows : goal.base_settled-returns-in_err-base-clause-grows
base_settled-returns-in_err-base-clause-grows t c = c.in_err-base.ensures.grows

pub base_settled-returns-in_err-base-clause-known : goal.base_settled-returns-in_err-base-clause-known
base_settled-returns-in_err-base-clause-known t c = at_exit _ _ c.from_residual.result c.from_residual.ensures.1

pub base_settled-returns-in_err-base-clause-told : goal.base_settled-returns-in_err-base-clause-told
base_settled-returns-in_err-base-clause-told t c = at_exit _ _ c.from_residual.result c.from_residual.ensures.1

pub base_settled-returns-in_err-base-clause-owned : goal.base_settled-returns-in_err-base-clause-owned
base_settled-returns-in_err-base-clause-owned t c = at_exit _ _ c.from_residual.result c.from_residual.ensures.1

pub base_settled-returns-in_err-base-clause-further : goal.base_settled-returns-in_err-base-clause-further
base_settled-returns-in_err-base-clause-further t c = at_exit _ _ c.from_residual.result c.from_residual.ensures.1

pub base_settled-returns-in_err-base-clause-item : goal.base_settled-returns-in_err-base-clause-item
base_settled-returns-in_err-base-clause-item t c = at_exit _ _ c.from_residual.result c.from_residual.ensures.1

pub base_settled-returns-in_err-base-clause-stand : goal.base_settled-returns-in_err-base-clause-stand
base_settled-returns-in_err-base-clause-stand t c = at_exit _ _ c.from_residual.result c.from_residual.ensures.1

pub base_settled-returns-in_err-settle-clause-grows : goal.base_settled-returns-in_err-settle-clause-grows
base_settled-returns-in_err-settle-clause-grows t c = grows_trans c.args.s.now c.base_named.new.s c.settle.new.s c.in_ok-base.ensures.grows c.in_err-settle.ensures.grows

pub base_settled-returns-in_err-settle-clause-known : goal.base_settled-returns-in_err-settle-clause-known
base_settled-returns-in_err-settle-clause-known t c = at_exit _ _ c.from_residual-in_err-settle.result c.from_residual-in_err-settle.ensures.1

pub base_settled-returns-in_err-settle-clause-told : goal.base_settled-returns-in_err-settle-clause-told
base_settled-returns-in_err-settle-clause-told t c = at_exit _ _ c.from_residual-in_err-settle.result c.from_residual-in_err-settle.ensures.1

pub base_settled-returns-in_err-settle-clause-owned : goal.base_settled-returns-in_err-settle-clause-owned
base_settled-returns-in_err-settle-clause-owned t c = at_exit _ _ c.from_residual-in_err-settle.result c.from_residual-in_err-settle.ensures.1

pub base_settled-returns-in_err-settle-clause-further : goal.base_settled-returns-in_err-settle-clause-further
base_settled-returns-in_err-settle-clause-further t c = at_exit _ _ c.from_residual-in_err-settle.result c.from_residual-in_err-settle.ensures.1

pub base_settled-returns-in_err-settle-clause-item : goal.base_settled-returns-in_err-settle-clause-item
base_settled-returns-in_err-settle-clause-item t c = at_exit _ _ c.from_residual-in_err-settle.result c.from_residual-in_err-settle.ensures.1

pub base_settled-returns-in_err-settle-clause-stand : goal.base_settled-returns-in_err-settle-clause-stand
base_settled-returns-in_err-settle-clause-stand t c = at_exit _ _ c.from_residual-in_err-settle.result c.from_residual-in_err-settle.ensures.1

pub base_settled-returns-in_err-base_joined-clause-grows : goal.base_settled-returns-in_err-base_joined-clause-grows
base_settled-returns-in_err-base_joined-clause-grows t c = grows_trans c.args.s.now c.base_named.new.s c.settle.new.s c.in_ok-base.ensures.grows c.in_ok-settle.ensures.grows

pub base_settled-returns-in_err-base_joined-clause-known : goal.base_settled-returns-in_err-base_joined-clause-known
base_settled-returns-in_err-base_joined-clause-known t c = at_exit _ _ c.from_residual-in_err-base_joined.result c.from_residual-in_err-base_joined.ensures.1

pub base_settled-returns-in_err-base_joined-clause-told : goal.base_settled-returns-in_err-base_joined-clause-told
base_settled-returns-in_err-base_joined-clause-told t c = at_exit _ _ c.from_residual-in_err-base_joined.result c.from_residual-in_err-base_joined.ensures.1

pub base_settled-returns-in_err-base_joined-clause-owned : goal.base_settled-returns-in_err-base_joined-clause-owned
base_settled-returns-in_err-base_joined-clause-owned t c = at_exit _ _ c.from_residual-in_err-base_joined.result c.from_residual-in_err-base_joined.ensures.1

pub base_settled-returns-in_err-base_joined-clause-further : goal.base_settled-returns-in_err-base_joined-clause-further
base_settled-returns-in_err-base_joined-clause-further t c = at_exit _ _ c.from_residual-in_err-base_joined.result c.from_residual-in_err-base_joined.ensures.1

pub base_settled-returns-in_err-base_joined-clause-item : goal.base_settled-returns-in_err-base_joined-clause-item
base_settled-returns-in_err-base_joined-clause-item t c = at_exit _ _ c.from_residual-in_err-base_joined.result c.from_residual-in_err-base_joined.ensures.1

pub base_settled-returns-in_err-base_joined-clause-stand : goal.base_settled-returns-in_err-base_joined-clause-stand
base_settled-returns-in_err-base_joined-clause-stand t c = at_exit _ _ c.from_residual-in_err-base_joined.result c.from_residual-in_err-base_joined.ensures.1

pub base_settled-base_joined-requires-clause-known : goal.base_settled-base_joined-requires-clause-known
base_settled-base_joined-requires-clause-known t c = subst (AreSettled c.settle.new.s) (sym c.as_slice.ensures) c.in_ok-settle.ensures.known

pub base_settled-is_base_alike-alike-requires-clause-frame : goal.base_settled-is_base_alike-alike-requires-clause-frame
base_settled-is_base_alike-alike-requires-clause-frame t c = is_frame_later c.args.s.now c.settle.new.s c.args.frame.0 (grows_trans c.args.s.now c.base_named.new.s c.settle.new.s c.in_ok-base.ensures.grows c.in_ok-settle.ensures.grows) c.requires.frame

pub base_settled-is_base_alike-alike-requires-clause-base : goal.base_settled-is_base_alike-alike-requires-clause-base
base_settled-is_base_alike-alike-requires-clause-base t c = is_frame_later c.base_named.new.s c.settle.new.s c.in_ok-base.base.0 c.in_ok-settle.ensures.grows c.in_ok-base.ensures.stand

pub base_settled-returns-clause-grows : goal.base_settled-returns-clause-grows
base_settled-returns-clause-grows t c = grows_trans c.args.s.now c.base_named.new.s c.settle.new.s c.in_ok-base.ensures.grows c.in_ok-settle.ensures.grows

pub base_settled-returns-clause-known : goal.base_settled-returns-clause-known
base_settled-returns-clause-known t c = c.in_ok-settle.ensures.known

pub base_settled-returns-clause-item : goal.base_settled-returns-clause-item
base_settled-returns-clause-item t c = c.in_ok-base_joined.ensures.item

pub base_settled-returns-clause-stand : goal.base_settled-returns-clause-stand
base_settled-returns-clause-stand t c = c.in_ok-base_joined.ensures.stand

pub part_settled-returns-in_err-own_settled-in-Element-clause-grows : goal.part_settled-returns-in_err-own_settled-in-Element-clause-grows
part_settled-returns-in_err-own_settled-in-Element-clause-grows t c = grows_refl c.args.s.now

pub part_settled-returns-in_err-own_settled-in-Element-clause-known : goal.part_settled-returns-in_err-own_settled-in-Element-clause-known
part_settled-returns-in_err-own_settled-in-Element-clause-known t c = at_exit _ _ c.from_residual.result c.from_residual.ensures.1

pub part_settled-returns-in_err-own_settled-in-Element-clause-told : goal.part_settled-returns-in_err-own_settled-in-Element-clause-told
part_settled-returns-in_err-own_settled-in-Element-clause-told t c = at_exit _ _ c.from_residual.result c.from_residual.ensures.1

pub part_settled-returns-in_err-own_settled-in-Element-clause-owned : goal.part_settled-returns-in_err-own_settled-in-Element-clause-owned
part_settled-returns-in_err-own_settled-in-Element-clause-owned t c = at_exit _ _ c.from_residual.result c.from_residual.ensures.1

pub part_settled-returns-in_err-own_settled-in-Element-clause-further : goal.part_settled-returns-in_err-own_settled-in-Element-clause-further
part_settled-returns-in_err-own_settled-in-Element-clause-further t c = at_exit _ _ c.from_residual.result c.from_residual.ensures.1

pub part_settled-returns-in_err-own_settled-in-Element-clause-item : goal.part_settled-returns-in_err-own_settled-in-Element-clause-item
part_settled-returns-in_err-own_settled-in-Element-clause-item t c = at_exit _ _ c.from_residual.result c.from_residual.ensures.1

pub part_settled-returns-in_err-own_settled-in-Element-clause-stand : goal.part_settled-returns-in_err-own_settled-in-Element-clause-stand
part_settled-returns-in_err-own_settled-in-Element-clause-stand t c = at_exit _ _ c.from_residual.result c.from_residual.ensures.1

pub part_settled-returns-in_err-base_settled-in-Base-clause-grows : goal.part_settled-returns-in_err-base_settled-in-Base-clause-grows
part_settled-returns-in_err-base_settled-in-Base-clause-grows t c = c.in_err-base_settled-in-Base.ensures.grows

pub part_settled-returns-in_err-base_settled-in-Base-clause-known : goal.part_settled-returns-in_err-base_settled-in-Base-clause-known
part_settled-returns-in_err-base_settled-in-Base-clause-known t c = at_exit _ _ c.from_residual-in_err-base_settled-in-Base.result c.from_residual-in_err-base_settled-in-Base.ensures.1

pub part_settled-returns-in_err-base_settled-in-Base-clause-told : goal.part_settled-returns-in_err-base_settled-in-Base-clause-told
part_settled-returns-in_err-base_settled-in-Base-clause-told t c = at_exit _ _ c.from_residual-in_err-base_settled-in-Base.result c.from_residual-in_err-base_settled-in-Base.ensures.1

pub part_settled-returns-in_err-base_settled-in-Base-clause-owned : goal.part_settled-returns-in_err-base_settled-in-Base-clause-owned
part_settled-returns-in_err-base_settled-in-Base-clause-owned t c = at_exit _ _ c.from_residual-in_err-base_settled-in-Base.result c.from_residual-in_err-base_settled-in-Base.ensures.1

pub part_settled-returns-in_err-base_settled-in-Base-clause-further : goal.part_settled-returns-in_err-base_settled-in-Base-clause-further
part_settled-returns-in_err-base_settled-in-Base-clause-further t c = at_exit _ _ c.from_residual-in_err-base_settled-in-Base.result c.from_residual-in_err-base_settled-in-Base.ensures.1

pub part_settled-returns-in_err-base_settled-in-Base-clause-item : goal.part_settled-returns-in_err-base_settled-in-Base-clause-item
part_settled-returns-in_err-base_settled-in-Base-clause-item t c = at_exit _ _ c.from_residual-in_err-base_settled-in-Base.result c.from_residual-in_err-base_settled-in-Base.ensures.1

pub part_settled-returns-in_err-base_settled-in-Base-clause-stand : goal.part_settled-returns-in_err-base_settled-in-Base-clause-stand
part_settled-returns-in_err-base_settled-in-Base-clause-stand t c = at_exit _ _ c.from_residual-in_err-base_settled-in-Base.result c.from_residual-in_err-base_settled-in-Base.ensures.1

pub part_settled-returns-in_ok-own_settled-in-Element-clause-grows : goal.part_settled-returns-in_ok-own_settled-in-Element-clause-grows
part_settled-returns-in_ok-own_settled-in-Element-clause-grows t c = grows_refl c.args.s.now

pub part_settled-returns-in_ok-own_settled-in-Element-clause-known : goal.part_settled-returns-in_ok-own_settled-in-Element-clause-known
part_settled-returns-in_ok-own_settled-in-Element-clause-known t c = c.requires.known

pub part_settled-returns-in_ok-own_settled-in-Element-clause-told : goal.part_settled-returns-in_ok-own_settled-in-Element-clause-told
part_settled-returns-in_ok-own_settled-in-Element-clause-told t c =
    let T : Table = table_in c.args.s.now in
    let F : Frame = frame_at c.args.s.now c.args.frame.0 in
    let row : Option Row = row_at T (class_of F) in
    let W : Walked = walk_at c.args.s.now c.args.so_far.now.walk in
    let V : Walked = walk_at c.args.s.now c.own_settled.new.so_far.walk in
    let after = c.own_settled.new.so_far in
    subst (λ (p : PartAt). ToldFree T after.classes after.deep (λ asking. part_walked T asking F row c.args.so_far.now.item (part_seen p) W) V) (sym c.in-Element.is)
    (own_told T F row c.args.so_far.now.item (declares_seen c.in-Element.declares) W V after.classes after.deep c.in_ok-own_settled-in-Element.ensures.joined)

pub part_settled-returns-in_ok-own_settled-in-Element-clause-further : goal.part_settled-returns-in_ok-own_settled-in-Element-clause-further
part_settled-returns-in_ok-own_settled-in-Element-clause-further t c = c.in_ok-own_settled-in-Element.ensures.further

pub part_settled-returns-in_ok-own_settled-in-Element-clause-item : goal.part_settled-returns-in_ok-own_settled-in-Element-clause-item
part_settled-returns-in_ok-own_settled-in-Element-clause-item t c = c.in_ok-own_settled-in-Element.ensures.item ∙ ap (λ (p : PartAt). next_item (part_seen p) c.args.so_far.now.item) (sym c.in-Element.is)

pub part_settled-returns-in_ok-own_settled-in-Element-clause-stand : goal.part_settled-returns-in_ok-own_settled-in-Element-clause-stand
part_settled-returns-in_ok-own_settled-in-Element-clause-stand t c = c.in_ok-own_settled-in-Element.ensures.stand

pub part_settled-returns-in_ok-base_settled-in-Base-clause-grows : goal.part_settled-returns-in_ok-base_settled-in-Base-clause-grows
part_settled-returns-in_ok-base_settled-in-Base-clause-grows t c = c.in_ok-base_settled-in-Base.ensures.grows

pub part_settled-returns-in_ok-base_settled-in-Base-clause-known : goal.part_settled-returns-in_ok-base_settled-in-Base-clause-known
part_settled-returns-in_ok-base_settled-in-Base-clause-known t c = c.in_ok-base_settled-in-Base.ensures.known

pub part_settled-returns-in_ok-base_settled-in-Base-clause-told : goal.part_settled-returns-in_ok-base_settled-in-Base-clause-told
part_settled-returns-in_ok-base_settled-in-Base-clause-told t c =
    let T : Table = table_in c.args.s.now in
    let F : Frame = frame_at c.args.s.now c.args.frame.0 in
    let row : Option Row = row_at T (class_of F) in
    let W : Walked = walk_at c.args.s.now c.args.so_far.now.walk in
    let V : Walked = walk_at c.base_settled.new.s c.base_settled.new.so_far.walk in
    let after = c.base_settled.new.so_far in
    subst (λ (p : PartAt). ToldFree T after.classes after.deep (λ asking. part_walked T asking F row c.args.so_far.now.item (part_seen p) W) V) (sym c.in-Base.is) c.in_ok-base_settled-in-Base.ensures.told

pub part_settled-returns-in_ok-base_settled-in-Base-clause-owned : goal.part_settled-returns-in_ok-base_settled-in-Base-clause-owned
part_settled-returns-in_ok-base_settled-in-Base-clause-owned t c =
    let T : Table = table_in c.args.s.now in
    let F : Frame = frame_at c.args.s.now c.args.frame.0 in
    let row : Option Row = row_at T (class_of F) in
    let W : Walked = walk_at c.args.s.now c.args.so_far.now.walk in
    let V : Walked = walk_at c.base_settled.new.s c.base_settled.new.so_far.walk in
    let after = c.base_settled.new.so_far in
    λ alike. subst (λ (p : PartAt). ToldOwned T after.classes after.deep F (λ asking owned x. part_walked T asking owned row c.args.so_far.now.item (part_seen p) x) W V) (sym c.in-Base.is) (c.in_ok-base_settled-in-Base.ensures.owned alike)

pub part_settled-returns-in_ok-base_settled-in-Base-clause-further : goal.part_settled-returns-in_ok-base_settled-in-Base-clause-further
part_settled-returns-in_ok-base_settled-in-Base-clause-further t c = c.in_ok-base_settled-in-Base.ensures.further

pub part_settled-returns-in_ok-base_settled-in-Base-clause-item : goal.part_settled-returns-in_ok-base_settled-in-Base-clause-item
part_settled-returns-in_ok-base_settled-in-Base-clause-item t c = c.in_ok-base_settled-in-Base.ensures.item ∙ ap (λ (p : PartAt). next_item (part_seen p) c.args.so_far.now.item) (sym c.in-Base.is)

pub part_settled-returns-in_ok-base_settled-in-Base-clause-stand : goal.part_settled-returns-in_ok-base_settled-in-Base-clause-stand
part_settled-returns-in_ok-base_settled-in-Base-clause-stand t c = c.in_ok-base_settled-in-Base.ensures.stand

pub part_settled-own_settled-requires-clause-frame : goal.part_settled-own_settled-requires-clause-frame
part_settled-own_settled-requires-clause-frame t c = c.requires.frame

pub part_settled-own_settled-requires-clause-class : goal.part_settled-own_settled-requires-clause-class
part_settled-own_settled-requires-clause-class t c = subst (λ (p : PartAt). PartExists (number_of_classes (table_in c.args.s.now)) (part_seen p)) c.in-Element.is c.requires.part

pub part_settled-own_settled-requires-clause-own : goal.part_settled-own_settled-requires-clause-own
part_settled-own_settled-requires-clause-own t c = subst (λ (p : PartAt). IsOwnPart (table_in c.args.s.now) (frame_at c.args.s.now c.args.frame.0) c.args.so_far.now.item (part_seen p)) c.in-Element.is c.requires.own

pub part_settled-own_settled-requires-clause-so_far : goal.part_settled-own_settled-requires-clause-so_far
part_settled-own_settled-requires-clause-so_far t c = c.requires.so_far

pub part_settled-base_settled-requires : goal.part_settled-base_settled-requires
part_settled-base_settled-requires t c = (
  omega arith,
  (
    c.requires.frame,
    (
      subst (λ (p : PartAt). StandsAt (row_at (table_in c.args.s.now) (class_of (frame_at c.args.s.now c.args.frame.0))) c.args.part.now.at (part_seen p)) c.in-Base.is c.requires.placed,
      (c.requires.known, c.requires.so_far),
    ),
  ),
)

pub parts_settled-returns-in_err-part_settled-clause-grows : goal.parts_settled-returns-in_err-part_settled-clause-grows
parts_settled-returns-in_err-part_settled-clause-grows t c = grows_trans c.args.s.now c.loop-at.s c.part_settled.new.s c.loop-at.invariant.grows c.in_err-part_settled.ensures.grows

pub parts_settled-returns-in_err-part_settled-clause-known : goal.parts_settled-returns-in_err-part_settled-clause-known
parts_settled-returns-in_err-part_settled-clause-known t c = at_exit _ _ c.from_residual.result c.from_residual.ensures.1

pub parts_settled-returns-in_err-part_settled-clause-told : goal.parts_settled-returns-in_err-part_settled-clause-told
parts_settled-returns-in_err-part_settled-clause-told t c = at_exit _ _ c.from_residual.result c.from_residual.ensures.1

pub parts_settled-returns-in_err-part_settled-clause-owned : goal.parts_settled-returns-in_err-part_settled-clause-owned
parts_settled-returns-in_err-part_settled-clause-owned t c = at_exit _ _ c.from_residual.result c.from_residual.ensures.1

pub parts_settled-returns-in_err-part_settled-clause-alike : goal.parts_settled-returns-in_err-part_settled-clause-alike
parts_settled-returns-in_err-part_settled-clause-alike t c = at_exit _ _ c.from_residual.result c.from_residual.ensures.1

pub parts_settled-returns-in_err-part_settled-clause-stand : goal.parts_settled-returns-in_err-part_settled-clause-stand
parts_settled-returns-in_err-part_settled-clause-stand t c = at_exit _ _ c.from_residual.result c.from_residual.ensures.1

pub parts_settled-returns-clause-grows : goal.parts_settled-returns-clause-grows
parts_settled-returns-clause-grows t c = c.loop-at.invariant.grows

pub parts_settled-returns-clause-known : goal.parts_settled-returns-clause-known
parts_settled-returns-clause-known t c = c.loop-at.invariant.known

pub parts_settled-returns-clause-alike : goal.parts_settled-returns-clause-alike
parts_settled-returns-clause-alike t c = c.loop-at.invariant.alike

pub parts_settled-returns-clause-stand : goal.parts_settled-returns-clause-stand
parts_settled-returns-clause-stand t c = c.loop-at.invariant.stand

pub class_settled-returns-in_err-made-clause-grows : goal.class_settled-returns-in_err-made-clause-grows
class_settled-returns-in_err-made-clause-grows t c = grows_refl c.args.s.now

pub class_settled-returns-in_err-made-clause-known : goal.class_settled-returns-in_err-made-clause-known
class_settled-returns-in_err-made-clause-known t c = at_exit _ _ c.from_residual.result c.from_residual.ensures.1

pub class_settled-returns-in_err-made-clause-told : goal.class_settled-returns-in_err-made-clause-told
class_settled-returns-in_err-made-clause-told t c = at_exit _ _ c.from_residual.result c.from_residual.ensures.1

pub class_settled-returns-in_err-made-clause-owned : goal.class_settled-returns-in_err-made-clause-owned
class_settled-returns-in_err-made-clause-owned t c = at_exit _ _ c.from_residual.result c.from_residual.ensures.1

pub class_settled-returns-in_err-made-clause-stand : goal.class_settled-returns-in_err-made-clause-stand
class_settled-returns-in_err-made-clause-stand t c = at_exit _ _ c.from_residual.result c.from_residual.ensures.1

pub class_settled-returns-in_err-parts_settled-clause-grows : goal.class_settled-returns-in_err-parts_settled-clause-grows
class_settled-returns-in_err-parts_settled-clause-grows t c = c.in_err-parts_settled.ensures.grows

pub class_settled-returns-in_err-parts_settled-clause-known : goal.class_settled-returns-in_err-parts_settled-clause-known
class_settled-returns-in_err-parts_settled-clause-known t c = at_exit _ _ c.from_residual-in_err-parts_settled.result c.from_residual-in_err-parts_settled.ensures.1

pub class_settled-returns-in_err-parts_settled-clause-told : goal.class_settled-returns-in_err-parts_settled-clause-told
class_settled-returns-in_err-parts_settled-clause-told t c = at_exit _ _ c.from_residual-in_err-parts_settled.result c.from_residual-in_err-parts_settled.ensures.1

pub class_settled-returns-in_err-parts_settled-clause-owned : goal.class_settled-returns-in_err-parts_settled-clause-owned
class_settled-returns-in_err-parts_settled-clause-owned t c = at_exit _ _ c.from_residual-in_err-parts_settled.result c.from_residual-in_err-parts_settled.ensures.1

pub class_settled-returns-in_err-parts_settled-clause-stand : goal.class_settled-returns-in_err-parts_settled-clause-stand
class_settled-returns-in_err-parts_settled-clause-stand t c = at_exit _ _ c.from_residual-in_err-parts_settled.result c.from_residual-in_err-parts_settled.ensures.1

pub class_settled-returns-in_err-leaf_checked-clause-grows : goal.class_settled-returns-in_err-leaf_checked-clause-grows
class_settled-returns-in_err-leaf_checked-clause-grows t c = c.in_ok-parts_settled.ensures.grows

pub class_settled-returns-in_err-leaf_checked-clause-known : goal.class_settled-returns-in_err-leaf_checked-clause-known
class_settled-returns-in_err-leaf_checked-clause-known t c = at_exit _ _ c.from_residual-in_err-leaf_checked.result c.from_residual-in_err-leaf_checked.ensures.1

pub class_settled-returns-in_err-leaf_checked-clause-told : goal.class_settled-returns-in_err-leaf_checked-clause-told
class_settled-returns-in_err-leaf_checked-clause-told t c = at_exit _ _ c.from_residual-in_err-leaf_checked.result c.from_residual-in_err-leaf_checked.ensures.1

pub class_settled-returns-in_err-leaf_checked-clause-owned : goal.class_settled-returns-in_err-leaf_checked-clause-owned
class_settled-returns-in_err-leaf_checked-clause-owned t c = at_exit _ _ c.from_residual-in_err-leaf_checked.result c.from_residual-in_err-leaf_checked.ensures.1

pub class_settled-returns-in_err-leaf_checked-clause-stand : goal.class_settled-returns-in_err-leaf_checked-clause-stand
class_settled-returns-in_err-leaf_checked-clause-stand t c = at_exit _ _ c.from_residual-in_err-leaf_checked.result c.from_residual-in_err-leaf_checked.ensures.1

pub class_settled-returns-clause-grows : goal.class_settled-returns-clause-grows
class_settled-returns-clause-grows t c = c.in_ok-parts_settled.ensures.grows

pub class_settled-returns-clause-known : goal.class_settled-returns-clause-known
class_settled-returns-clause-known t c = c.in_ok-parts_settled.ensures.known

pub class_settled-returns-clause-stand : goal.class_settled-returns-clause-stand
class_settled-returns-clause-stand t c = c.in_ok-parts_settled.ensures.stand

pub class_settled-parts_settled-requires : goal.class_settled-parts_settled-requires
class_settled-parts_settled-requires t c = (omega arith, (c.requires.frame, (c.requires.known, (c.in_ok-made.ensures.stand, c.in_ok-made.ensures.none))))

pub settle-returns-in_err-made-clause-grows : goal.settle-returns-in_err-made-clause-grows
settle-returns-in_err-made-clause-grows t c = c.in_err-made.ensures.grows

pub settle-returns-in_err-made-clause-known : goal.settle-returns-in_err-made-clause-known
settle-returns-in_err-made-clause-known t c = at_exit _ _ c.from_residual.result c.from_residual.ensures.1

pub settle-returns-then-is_some-clause-grows : goal.settle-returns-then-is_some-clause-grows
settle-returns-then-is_some-clause-grows t c = grows_refl c.args.s.now

pub settle-returns-then-is_some-clause-known : goal.settle-returns-then-is_some-clause-known
settle-returns-then-is_some-clause-known t c = c.requires.known

pub settle-class_settled-requires : goal.settle-class_settled-requires
settle-class_settled-requires t c = (omega arith, (c.requires.frame, c.requires.known))

pub settle-put_settled-requires-clause-frame : goal.settle-put_settled-requires-clause-frame
settle-put_settled-requires-clause-frame t c = is_frame_later c.args.s.now c.class_settled.new.s c.args.frame.0 c.in_ok-made.ensures.grows c.requires.frame

pub settle-put_settled-requires-clause-made : goal.settle-put_settled-requires-clause-made
settle-put_settled-requires-clause-made t c = c.in_ok-made.ensures.stand

pub settle-put_settled-requires-clause-known : goal.settle-put_settled-requires-clause-known
settle-put_settled-requires-clause-known t c = c.in_ok-made.ensures.known

pub settle-returns-clause-grows : goal.settle-returns-clause-grows
settle-returns-clause-grows t c = c.in_ok-made.ensures.grows

pub settle-returns-clause-known : goal.settle-returns-clause-known
settle-returns-clause-known t c = c.put_settled.ensures
