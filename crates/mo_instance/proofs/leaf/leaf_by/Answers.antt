-- A leaf that is not left out.
use Rattle.std.proofs.Common.{Some, Ok, ap, sym, ◌∙◌}
use Rattle.mo_scope.specs.Instances.{Leaf}
use Rattle.mo_scope.specs.Worlds.{frame_at, frames_of, table_in}
use Rattle.mo_names.specs.Sights.{member_of}
use Rattle.mo_instance.specs.steps.Sights.{around_seen}
use Rattle.mo_instance.proofs.Choosing.{leaf_breaks, leaf_stands}
use Rattle.mo_instance.proofs.leaf.leaf_by.Goals as goal

pub returns-then-is_left_out-clause-value : goal.returns-then-is_left_out-clause-value
returns-then-is_left_out-clause-value c =
    rw c.stop.ensures
    (leaf_breaks (table_in c.args.s.now) (around_seen c.args.around.now) (member_of (frames_of c.args.s.now) c.args.member.now) (frame_at c.args.s.now c.args.frame.0) (frame_at c.args.s.now c.args.leaf.0)
    c.is_left_out.result c.kind_of_leaf-kind.result c.kind_of_leaf-kind.ensures c.is_left_out.ensures c.if-is_left_out.true)

pub returns-clause-value : goal.returns-clause-value
returns-clause-value c =
    leaf_stands (table_in c.args.s.now) (around_seen c.args.around.now) (member_of (frames_of c.args.s.now) c.args.member.now) (frame_at c.args.s.now c.args.frame.0) (frame_at c.args.s.now c.args.leaf.0)
    c.is_left_out.result c.kind_of_leaf-kind.result c.kind_of_leaf-kind.ensures c.is_left_out.ensures c.if-is_left_out.false
    ∙ ap (λ (leaf : Leaf). Ok (Some leaf)) (sym c.in_ok-made.ensures.is)
