use Rattle.std.proofs.Common.{◌≡◌, ◌++◌, string_bytes, take}
use Rattle.std.specs.Prelude.{flat_map}
use Rattle.mo_flat.specs.Text.{variable_line}
use Rattle.mo_flat.proofs.model_text.write_variables.Given as goal

abbrev pub invariant-loop-v : goal.invariant-loop-v
invariant-loop-v l = string_bytes l.out ≡ string_bytes l.initial.out ++ flat_map (variable_line l.vars) (take l.v-index l.vars)
