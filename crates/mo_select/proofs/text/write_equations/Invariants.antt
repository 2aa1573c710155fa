use Rattle.std.proofs.Common.{◌≡◌, ◌++◌, string_bytes}
use Rattle.mo_incidence.specs.Offsets.{by_place}
use Rattle.mo_select.specs.Text.{equations_at}
use Rattle.mo_select.proofs.text.write_equations.Given as goal

abbrev pub invariant-loop-at : goal.invariant-loop-at
invariant-loop-at l = string_bytes l.out ≡ string_bytes l.initial.out ++ equations_at (by_place l.c) l.stage l.at
