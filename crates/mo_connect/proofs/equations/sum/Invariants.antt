use Rattle.std.proofs.Common.{◌≡◌, ◌∷◌, take, map}
use Rattle.mo_connect.specs.Equations.{term_of}
use Rattle.mo_connect.proofs.equations.sum.Given as goal

abbrev pub invariant-loop-member : goal.invariant-loop-member
invariant-loop-member l = l.terms ≡ term_of l.first ∷ map term_of (take l.member-index l.more)
