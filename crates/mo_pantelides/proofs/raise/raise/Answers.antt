use Rattle.std.proofs.Common.{◌∙◌, refl, sym, arith}
use Rattle.mo_pantelides.proofs.Raises.{raise_begins, raise_clear, raise_ends, raise_inside, raise_next, raise_pair, raise_room_equation, raise_room_unknown}
use Rattle.mo_pantelides.proofs.raise.raise.Goals as goal

pub loop-t-init : goal.loop-t-init
loop-t-init g c = record {
  raised = raise_begins _ _ _ _ _ _ _ _ _ _ _ c.requires.matching c.requires.tree c.requires.sizes.0 c.requires.sizes.1;
  queue = refl;
  parent = refl;
}

pub at-equation-requires : goal.at-equation-requires
at-equation-requires g c = rw c.loop-t.invariant.queue (omega (arith, c.loop-t-test.true, c.requires.tree.room, c.requires.tree.queue_all))

pub unknown_of-unknown-requires : goal.unknown_of-unknown-requires
unknown_of-unknown-requires g c =
    let inside = c.requires.tree.in_range _ c.loop-t-test.true in
    rw (c.at-equation.ensures, c.loop-t.invariant.queue) (omega (arith, inside, c.requires.matching.equations_all))

pub set_mark-requires : goal.set_mark-requires
set_mark-requires g c =
    let before = c.loop-t.invariant in
    rw (c.at-equation.ensures, before.queue) (raise_inside _ _ _ _ _ _ _ _ _ _ _ c.requires.matching c.requires.tree _ _ _ _ c.loop-t-test.true before.raised).0

pub bounds-c-equation : goal.bounds-c-equation
bounds-c-equation g c =
    let before = c.loop-t.invariant in
    rw (c.at-equation.ensures, before.queue) (raise_inside _ _ _ _ _ _ _ _ _ _ _ c.requires.matching c.requires.tree _ _ _ _ c.loop-t-test.true before.raised).1

pub bounds-c-equation-in-loop-t : goal.bounds-c-equation-in-loop-t
bounds-c-equation-in-loop-t g c =
    let before = c.loop-t.invariant in
    rw (c.at-equation.ensures, before.queue) (raise_inside _ _ _ _ _ _ _ _ _ _ _ c.requires.matching c.requires.tree _ _ _ _ c.loop-t-test.true before.raised).1

pub overflow_add-c : goal.overflow_add-c
overflow_add-c g c =
    let before = c.loop-t.invariant in
    let room = raise_room_equation _ _ _ _ _ _ _ _ _ _ _ c.requires.matching c.requires.tree _ _ _ _ c.loop-t-test.true before.raised c.requires.room_c in
    rw (c.at-equation.ensures, before.queue) (omega (arith, room))

pub raise_unknown-requires-clause-known : goal.raise_unknown-requires-clause-known
raise_unknown-requires-clause-known g c =
    let before = c.loop-t.invariant in
    let pair = raise_pair _ _ _ _ _ _ _ _ _ _ _ c.requires.matching c.requires.tree _ _ _ _ c.loop-t-test.true before.raised in
    rw (c.unknown_of-unknown.ensures, c.at-equation.ensures, before.queue) (omega (arith, pair, before.raised.d_all))

pub raise_unknown-requires-clause-room : goal.raise_unknown-requires-clause-room
raise_unknown-requires-clause-room g c =
    let before = c.loop-t.invariant in
    rw (c.unknown_of-unknown.ensures, c.at-equation.ensures, before.queue)
    (raise_room_unknown _ _ _ _ _ _ _ _ _ _ _ c.requires.matching c.requires.tree _ _ _ _ c.loop-t-test.true before.raised c.requires.room_d)

pub loop-t-preserved : goal.loop-t-preserved
loop-t-preserved g c =
    let before = c.loop-t.invariant in
    let some = rw (c.unknown_of-unknown.ensures, c.at-equation.ensures, before.queue) at c.raise_unknown.ensures.some in
    let none = rw (c.unknown_of-unknown.ensures, c.at-equation.ensures, before.queue) at c.raise_unknown.ensures.none in
    record {
      raised = rw (c.set_mark.ensures.mark, c.at-equation.ensures, before.queue)
          (raise_next _ _ _ _ _ _ _ _ _ _ _ c.requires.matching c.requires.tree _ _ _ _ c.loop-t-test.true before.raised _ some none);
      queue = c.set_mark.ensures.kept.0 ∙ before.queue;
      parent = c.set_mark.ensures.kept.1 ∙ before.parent;
    }

pub returns-clause-raised : goal.returns-clause-raised
returns-clause-raised g c = raise_ends _ _ _ _ _ _ _ _ _ _ _ c.requires.matching c.requires.tree _ _ _ _ (omega arith) c.loop-t.invariant.raised

pub returns-clause-cleared : goal.returns-clause-cleared
returns-clause-cleared g c = raise_clear _ _ _ _ _ _ _ _ _ _ _ c.requires.matching c.requires.tree _ _ _ _ (omega arith) c.loop-t.invariant.raised

pub returns-clause-kept : goal.returns-clause-kept
returns-clause-kept g c = (c.loop-t.invariant.queue, c.loop-t.invariant.parent)

pub returns-clause-size : goal.returns-clause-size
returns-clause-size g c = c.loop-t.invariant.raised.mark_all ∙ sym c.requires.tree.mark_all
