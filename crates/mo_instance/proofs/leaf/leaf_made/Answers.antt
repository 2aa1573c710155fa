-- Its parts, each as it was found.
use Rattle.std.proofs.Common.{◌≡◌, [], map}
use Rattle.std.specs.Prelude.{option_map}
use Rattle.mo_scope.specs.Frames.{sources_of}
use Rattle.mo_scope.specs.Parts.{picked}
use Rattle.mo_scope.specs.Trees.{attribute_in, chosen_in}
use Rattle.mo_scope.specs.Worlds.{frame_at, frames_of, table_in}
use Rattle.mo_instance.specs.Attributes.{chosen_attributes}
use Rattle.mo_instance.specs.Elements.{leaf_made}
use Rattle.mo_instance.specs.steps.Sights.{around_seen}
use Rattle.mo_instance.proofs.Choosing.{leaf_is}
use Rattle.mo_instance.proofs.leaf.leaf_made.Goals as goal

pub returns-clause-is : goal.returns-clause-is
returns-clause-is c =
    let F = frames_of c.args.s.now in
    let T = table_in c.args.s.now in
    let attributes : map (attribute_in F) c.in_ok-parts.parts.0 ≡ chosen_attributes T (frame_at c.args.s.now c.args.leaf.0) = rw c.in_ok-parts.ensures.values.0 at c.chosen_attributes.ensures.are in
    let binding : option_map (chosen_in F) c.in_ok-parts.parts.1 ≡ picked T (sources_of (frame_at c.args.s.now c.args.frame.0)) [] = rw c.in_ok-parts.ensures.values.1 at c.binding_of.ensures.is in
    leaf_is F c.kind_of_leaf.result c.role_of.result c.in_ok-parts.parts.0 c.in_ok-parts.parts.1
    (leaf_made T (around_seen c.args.around.now) (frame_at c.args.s.now c.args.frame.0) (frame_at c.args.s.now c.args.leaf.0))
    c.kind_of_leaf.ensures c.role_of.ensures attributes binding

pub returns-clause-exists : goal.returns-clause-exists
returns-clause-exists c = record {
  attributes = rw c.in_ok-parts.ensures.values.0 at c.chosen_attributes.ensures.exist;
  binding = rw c.in_ok-parts.ensures.values.1 at c.binding_of.ensures.exists;
}

pub returns-clause-bound : goal.returns-clause-bound
returns-clause-bound c = rw c.in_ok-parts.ensures.values.1 at c.binding_of.ensures.is
