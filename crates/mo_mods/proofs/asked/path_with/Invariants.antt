-- The names so far stand behind the others.
use Rattle.std.proofs.Common.{◌≡◌, ◌++◌, map, take}
use Rattle.mo_mods.proofs.asked.path_with.Given as goal

abbrev pub invariant-loop-name : goal.invariant-loop-name
invariant-loop-name l = map (λ name. name.now) l.made ≡ map (λ name. name.now) l.path ++ take l.name-index l.names
