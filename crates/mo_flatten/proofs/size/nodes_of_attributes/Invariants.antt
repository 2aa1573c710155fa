-- The nodes of those before.
use Rattle.std.proofs.Common.{◌≡◌, ◌^◌, ◌-◌, min, sum_by, take}
use Rattle.mo_flat.specs.Nodes.{node_count}
use Rattle.mo_flatten.proofs.size.nodes_of_attributes.Given as goal

abbrev pub invariant-loop-attribute : goal.invariant-loop-attribute
invariant-loop-attribute l = l.all ≡ min (sum_by (λ attribute. node_count attribute.1) (take l.attribute-index l.attributes)) (2 ^ 64 - 1)
