use Rattle.std.proofs.Common.{◌≡◌, ◌++◌, string_bytes, take}
use Rattle.std.specs.Prelude.{flat_map}
use Rattle.mo_alias.specs.Text.{gone_line}
use Rattle.mo_alias.proofs.text.write_all_gone.Given as goal

abbrev pub invariant-loop-g : goal.invariant-loop-g
invariant-loop-g l = string_bytes l.out ≡ string_bytes l.initial.out ++ flat_map (gone_line l.vars) (take l.g-index l.gone)
