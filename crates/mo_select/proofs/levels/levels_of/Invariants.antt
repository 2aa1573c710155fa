use Rattle.std.proofs.Common.{◌≡◌, ◌++◌, drop}
use Rattle.mo_select.specs.Levels.{levels_of}
use Rattle.mo_select.proofs.levels.levels_of.Given as goal

abbrev pub invariant-loop-v : goal.invariant-loop-v
invariant-loop-v l = l.levels.items ++ levels_of (drop l.v-index l.vars) ≡ levels_of l.vars
