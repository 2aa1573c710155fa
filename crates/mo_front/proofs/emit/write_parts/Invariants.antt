-- The texts so far.
use Rattle.std.proofs.Common.{◌≡◌, ◌++◌, string_bytes, take}
use Rattle.std.specs.Prelude.{flat_map}
use Rattle.mo_front.specs.Emitted.{part_text}
use Rattle.mo_front.proofs.emit.write_parts.Given as goal

abbrev pub invariant-loop-part : goal.invariant-loop-part
invariant-loop-part l = string_bytes l.out ≡ string_bytes l.initial.out ++ flat_map (part_text l.m l.r l.selected) (take l.part-index l.parts)
