use Rattle.std.proofs.Common.{◌+◌, arith}
use Rattle.mo_incidence.specs.Offsets.{by_place}
use Rattle.mo_select.proofs.Picking.{kept_passed, kept_taken, kept_whole}
use Rattle.mo_select.proofs.candidates.keep.Goals as goal

pub loop-place-preserved-then-c-place : goal.loop-place-preserved-then-c-place
loop-place-preserved-then-c-place c = kept_passed (by_place c.args.c.now) (c.args.done + 1) c.args.places.now _ _ c.loop-place.place-index c.loop-place.invariant (omega arith) (omega arith)

pub loop-place-preserved : goal.loop-place-preserved
loop-place-preserved c =
    rw c.in_ok-push.ensures.items (kept_taken (by_place c.args.c.now) (c.args.done + 1) c.args.places.now _ _ c.loop-place.place-index c.loop-place.invariant (omega arith) (omega arith))

pub returns : goal.returns
returns c = kept_whole (by_place c.args.c.now) (c.args.done + 1) c.args.places.now _ _ c.loop-place.place-index c.loop-place.invariant (omega arith)
