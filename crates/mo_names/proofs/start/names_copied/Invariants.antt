-- The names that were copied.
use Rattle.std.proofs.Common.{◌≡◌, take}
use Rattle.mo_names.proofs.start.names_copied.Given as goal

abbrev pub invariant-loop-name : goal.invariant-loop-name
invariant-loop-name l = l.made ≡ take l.name-index l.names
