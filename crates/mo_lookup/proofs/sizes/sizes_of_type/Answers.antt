-- The way ends, comes back, or leads on.
use Rattle.std.proofs.Common.{◌≡◌, ◌∙◌, true, false, sym, arith}
use Rattle.mo_scope.specs.Frames.{class_of}
use Rattle.mo_scope.specs.Lookup.{contains}
use Rattle.mo_scope.specs.Worlds.{frame_at, frames_of}
use Rattle.mo_names.proofs.Later.{grows_trans, is_frame_later}
use Rattle.mo_lookup.specs.Sizing.{sizes_seen}
use Rattle.mo_lookup.proofs.Written.{are_sized_later, type_back, type_done, type_ended, type_step}
use Rattle.mo_lookup.proofs.sizes.sizes_of_type.Goals as goal

pub loop-left-preserved : goal.loop-left-preserved
loop-left-preserved c =
    let now = c.loop-left.s in
    let later = c.step.new.s in
    let grown = c.in_ok-onward.ensures.grows in
    let new : contains c.loop-left.busy (class_of (frame_at now c.loop-left.frame.0)) ≡ false = rw (c.as_slice.ensures, c.class_of-class.ensures.is) at (sym c.is_busy.ensures ∙ c.if-is_busy.false) in
    let some = rw c.in-Some.is at c.in_ok-onward.ensures.value in
    let stand = rw c.in-Some.is at c.in_ok-onward.ensures.stand in
    let here = is_frame_later now later c.loop-left.frame.0 grown c.loop-left.invariant.stand in
    record {
      grows = grows_trans c.args.s.now now later c.loop-left.invariant.grows grown;
      stand = stand;
      sized = c.in_ok-put_sizes.ensures.there later here (are_sized_later now later grown c.loop-left.made c.loop-left.invariant.sized);
      is = rw (c.in_ok-push.ensures.ok, c.class_of-class.ensures.is) (type_step c.args.s.now now later c.loop-left.made c.put_sizes.new.made c.loop-left.busy c.loop-left.frame.0 c.in-Some.onward.base.0 c.loop-left.left c.in-Some.onward.subscripts.now _
          c.loop-left.invariant.grows grown c.loop-left.invariant.stand c.loop-left.invariant.sized c.loop-left-test.true new some (rw c.new-in-loop-left.ensures at c.in_ok-put_sizes.ensures.exact) c.loop-left.invariant.is);
    }

pub returns-then-is_busy-clause-exact : goal.returns-then-is_busy-clause-exact
returns-then-is_busy-clause-exact c =
    let now = c.loop-left.s in
    let back : contains c.loop-left.busy (class_of (frame_at now c.loop-left.frame.0)) ≡ true = rw (c.as_slice.ensures, c.class_of-class.ensures.is) at (sym c.is_busy.ensures ∙ c.if-is_busy.true) in
    rw c.new.ensures (type_back c.args.s.now (sizes_seen (frames_of now) c.loop-left.made) c.loop-left.busy (frame_at now c.loop-left.frame.0) c.loop-left.left _ back c.loop-left.invariant.is)

pub returns-in_default-clause-there : goal.returns-in_default-clause-there
returns-in_default-clause-there c = are_sized_later c.loop-left.s c.step.new.s c.in_ok-onward.ensures.grows c.loop-left.made c.loop-left.invariant.sized

pub returns-in_default-clause-exact : goal.returns-in_default-clause-exact
returns-in_default-clause-exact c =
    let now = c.loop-left.s in
    let new : contains c.loop-left.busy (class_of (frame_at now c.loop-left.frame.0)) ≡ false = rw (c.as_slice.ensures, c.class_of-class.ensures.is) at (sym c.is_busy.ensures ∙ c.if-is_busy.false) in
    type_done c.args.s.now now c.step.new.s c.loop-left.made c.loop-left.busy c.loop-left.frame.0 c.loop-left.left _ c.loop-left.invariant.grows c.in_ok-onward.ensures.grows
    c.loop-left.invariant.sized c.loop-left-test.true new (rw c.in_default.is at c.in_ok-onward.ensures.value) c.loop-left.invariant.is

pub returns-clause-exact : goal.returns-clause-exact
returns-clause-exact c =
    rw c.new-2.ensures (type_ended c.args.s.now (sizes_seen (frames_of c.loop-left.s) c.loop-left.made) c.loop-left.busy (frame_at c.loop-left.s c.loop-left.frame.0) c.loop-left.left _ (omega (arith, c.loop-left-test.false)) c.loop-left.invariant.is)
