-- The lines of those before.
use Rattle.std.proofs.Common.{◌≡◌, take}
use Rattle.std.specs.Prelude.{flat_map}
use Rattle.mo_flat.specs.Text.{variable_line}
use Rattle.mo_text_size.specs.Bytes.{bytes}
use Rattle.mo_text_size.proofs.model.of_variables.Given as goal

abbrev pub invariant-loop-v : goal.invariant-loop-v
invariant-loop-v l = l.all ≡ bytes (flat_map (variable_line l.vars) (take l.v-index l.vars))
