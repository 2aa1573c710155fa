use Rattle.std.proofs.Common.{◌≡◌, ◌++◌, take, map}
use Rattle.mo_connect.specs.Equations.{equality_with}
use Rattle.mo_connect.proofs.equations.push_equalities.Given as goal

abbrev pub invariant-loop-member : goal.invariant-loop-member
invariant-loop-member l = l.made ≡ l.initial.made ++ map (equality_with l.place l.first) (take l.member-index l.more)
