-- What was copied.
use Rattle.std.proofs.Common.{◌≡◌, map, take}
use Rattle.mo_scope.proofs.walk.path_copy.Given as goal

abbrev pub invariant-loop-name : goal.invariant-loop-name
invariant-loop-name l = map (λ name. name.now) l.path ≡ map (λ name. name.now) (take l.name-index l.names)
