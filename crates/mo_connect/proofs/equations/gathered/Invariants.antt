use Rattle.std.proofs.Common.{◌≡◌, take}
use Rattle.std.specs.Prelude.{flat_map}
use Rattle.mo_connect.specs.Equations.{equations_of}
use Rattle.mo_connect.proofs.equations.gathered.Given as goal

abbrev pub invariant-loop-set : goal.invariant-loop-set
invariant-loop-set l = l.made ≡ flat_map equations_of (take l.set-index l.sets)
