-- Each call has one name less that may follow.
use Rattle.std.proofs.Common.{◌+◌, ◌*◌, ℕ, List}
use Rattle.std.specs.BTreeMap.{btree_map_len}
use Rattle.mo_scope.specs.Frames.{Frame}
use Rattle.mo_scope.specs.Worlds.{table_in}
use Rattle.mo_mods.proofs.Elements.{IsMadeOf}
use Rattle.mo_mods.proofs.merging.+merging.Given as goal

abbrev pub invariant-elements-loop-name : goal.invariant-elements-loop-name
invariant-elements-loop-name l = (frames : List Frame) (name : List ℕ) → IsMadeOf (table_in l.scopes) frames l.initial.left l.left l.made name

abbrev pub decreases-elements-loop-name : goal.decreases-elements-loop-name
decreases-elements-loop-name l = btree_map_len l.left

abbrev pub decreases-element : goal.decreases-element
decreases-element l = 2 * l.names + 0

abbrev pub decreases-elements : goal.decreases-elements
decreases-elements l = 2 * l.names + 1
