-- The names that were taken.
use Rattle.std.proofs.Common.{◌≡◌, map, take}
use Rattle.mo_names.proofs.importing.names_of.Given as goal

abbrev pub invariant-loop-name : goal.invariant-loop-name
invariant-loop-name l = map (λ name. name.now) l.made ≡ take l.name-index l.names
