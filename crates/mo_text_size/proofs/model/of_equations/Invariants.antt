-- The lines of those before.
use Rattle.std.proofs.Common.{◌≡◌, take}
use Rattle.std.specs.Prelude.{flat_map}
use Rattle.mo_flat.specs.Text.{equation_line}
use Rattle.mo_text_size.specs.Bytes.{bytes}
use Rattle.mo_text_size.proofs.model.of_equations.Given as goal

abbrev pub invariant-loop-q : goal.invariant-loop-q
invariant-loop-q l = l.all ≡ bytes (flat_map (equation_line l.vars) (take l.q-index l.equations))
