-- The values so far.
use Rattle.std.proofs.Common.{◌≡◌, map, take}
use Rattle.serde_json.specs.View.{view}
use Rattle.mo_json.specs.Values.{numbers_data}
use Rattle.mo_json.proofs.lists.blocks_value.Given as goal

abbrev pub invariant-loop-block : goal.invariant-loop-block
invariant-loop-block l = map view l.list.items ≡ map (λ block. numbers_data block.items) (take l.block-index l.blocks)
