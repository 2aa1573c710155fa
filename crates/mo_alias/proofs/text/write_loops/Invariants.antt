use Rattle.std.proofs.Common.{◌≡◌, ◌++◌, string_bytes, take}
use Rattle.std.specs.Prelude.{flat_map}
use Rattle.mo_alias.specs.Text.{loop_line}
use Rattle.mo_alias.proofs.text.write_loops.Given as goal

abbrev pub invariant-loop-equations : goal.invariant-loop-equations
invariant-loop-equations l = string_bytes l.out ≡ string_bytes l.initial.out ++ flat_map loop_line (take l.equations-index l.loops)
