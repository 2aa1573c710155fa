-- The base at the end of the way, and the frame before it.
use Rattle.std.proofs.Common.{ap, subst, sym}
use Rattle.std.specs.Prelude.{unwrap_or}
use Rattle.mo_scope.specs.Outcome.{Gives}
use Rattle.mo_scope.specs.Worlds.{frames_of, table_in}
use Rattle.mo_instance.proofs.Checking.{base_is, before_exists, end_exists}
use Rattle.mo_instance.proofs.checks.through_passed.Goals as goal

pub base_passed-requires-clause-base : goal.base_passed-requires-clause-base
base_passed-requires-clause-base c = end_exists c.args.s.now c.args.through.now c.base_at_end-base.result c.requires.through.frames c.base_at_end-base.ensures

pub far_base_passed-requires-clause-frame : goal.far_base_passed-requires-clause-frame
far_base_passed-requires-clause-frame c = before_exists c.args.s.now c.args.frame c.args.through.now c.frame_before-outer.result c.requires.through.frames c.requires.frame c.frame_before-outer.ensures

pub far_base_passed-requires-clause-base : goal.far_base_passed-requires-clause-base
far_base_passed-requires-clause-base c = end_exists c.args.s.now c.args.through.now c.base_at_end-base.result c.requires.through.frames c.base_at_end-base.ensures

pub returns-then-is_nearest-clause-value : goal.returns-then-is_nearest-clause-value
returns-then-is_nearest-clause-value c =
    subst (Gives {T = Unit {0}} (λ _. tt) c.base_passed.result)
    (base_is (table_in c.args.s.now) (frames_of c.args.s.now) c.args.frame c.args.through.now c.args.frame c.base_at_end-base.result c.requires.through.some
    (sym (ap (λ o. unwrap_or o c.args.frame) (c.is_nearest.ensures c.if-is_nearest.true))) c.base_at_end-base.ensures)
    c.base_passed.ensures.value

pub returns-clause-value : goal.returns-clause-value
returns-clause-value c =
    subst (Gives {T = Unit {0}} (λ _. tt) c.far_base_passed.result)
    (base_is (table_in c.args.s.now) (frames_of c.args.s.now) c.args.frame c.args.through.now c.frame_before-outer.result c.base_at_end-base.result c.requires.through.some c.frame_before-outer.ensures c.base_at_end-base.ensures)
    c.far_base_passed.ensures.value
