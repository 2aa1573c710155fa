use Rattle.std.proofs.Common.{◌≡◌, ◌++◌, string_bytes, take, flat_map}
use Rattle.mo_report.specs.Lines.{block_line}
use Rattle.mo_report.proofs.square.write_blocks.Given as goal

abbrev pub invariant-loop-block : goal.invariant-loop-block
invariant-loop-block l = string_bytes l.out ≡ string_bytes l.initial.out ++ flat_map (λ block. block_line block.items) (take l.block-index l.blocks)
