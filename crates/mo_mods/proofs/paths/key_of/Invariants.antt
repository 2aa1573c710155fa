-- What was written so far.
use Rattle.std.proofs.Common.{◌≡◌, map, take}
use Rattle.mo_scope.specs.Held.{path_key}
use Rattle.mo_mods.proofs.paths.key_of.Given as goal

abbrev pub invariant-loop-name : goal.invariant-loop-name
invariant-loop-name l = l.key ≡ path_key (map (λ name. name.now) (take l.name-index l.path))
