-- The table has the elements so far.
use Rattle.std.proofs.Common.{◌≡◌, map, take}
use Rattle.mo_redeclare.specs.steps.Sights.{entry_of}
use Rattle.mo_redeclare.proofs.known.all_elements.Given as goal

abbrev pub invariant-loop-inherited : goal.invariant-loop-inherited
invariant-loop-inherited l = l.made ≡ map entry_of (take l.inherited-index l.members)
