use Rattle.std.proofs.Common.{◌≡◌, ◌++◌, string_bytes, take}
use Rattle.std.specs.Prelude.{flat_map}
use Rattle.mo_flat.specs.Text.{equation_line}
use Rattle.mo_symdiff.proofs.reduce_text.write_all.Given as goal

abbrev pub invariant-loop-of_equation : goal.invariant-loop-of_equation
invariant-loop-of_equation l = string_bytes l.out ≡ string_bytes l.initial.out ++ flat_map (flat_map (equation_line l.vars)) (take l.of_equation-index l.lines)
