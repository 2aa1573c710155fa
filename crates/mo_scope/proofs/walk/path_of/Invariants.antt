-- What was put into the path.
use Rattle.std.proofs.Common.{◌≡◌, map, take}
use Rattle.mo_scope.proofs.walk.path_of.Given as goal

abbrev pub invariant-loop-name : goal.invariant-loop-name
invariant-loop-name l = map (λ name. name.now) l.path ≡ take l.name-index l.names
