use Rattle.std.proofs.Common.{◌≡◌, drop}
use Rattle.mo_select.specs.Levels.{level_in}
use Rattle.mo_select.proofs.levels.level_in.Given as goal

abbrev pub invariant-loop-attribute : goal.invariant-loop-attribute
invariant-loop-attribute l = level_in (drop l.attribute-index l.attributes) ≡ level_in l.attributes
