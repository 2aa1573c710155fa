use Rattle.std.proofs.Common.{◌≡◌, ◌++◌, string_bytes, take}
use Rattle.std.specs.Prelude.{flat_map}
use Rattle.mo_flat.specs.Text.{equation_line}
use Rattle.mo_flat.proofs.model_text.write_equations.Given as goal

abbrev pub invariant-loop-q : goal.invariant-loop-q
invariant-loop-q l = string_bytes l.out ≡ string_bytes l.initial.out ++ flat_map (equation_line l.vars) (take l.q-index l.equations)
