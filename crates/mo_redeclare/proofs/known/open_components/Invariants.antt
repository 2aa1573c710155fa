-- The table has the public components so far.
use Rattle.std.proofs.Common.{◌≡◌, map, take}
use Rattle.std.specs.Prelude.{filter}
use Rattle.mo_redeclare.specs.steps.Sights.{entry_of, is_open}
use Rattle.mo_redeclare.proofs.known.open_components.Given as goal

abbrev pub invariant-loop-inherited : goal.invariant-loop-inherited
invariant-loop-inherited l = l.made ≡ filter is_open (map entry_of (take l.inherited-index l.members))
