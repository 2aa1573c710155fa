-- What the answer of an assignment says.
use Rattle.std.specs.Prelude.{ℕ, List}
use Rattle.mo_incidence.specs.Counting.{count_below}
use Rattle.mo_incidence.specs.Signature.{Signature, equations}
use Rattle.mo_incidence.specs.Offsets.{by_place}
use Rattle.mo_match.specs.declared.work.Assigned.{Assigned}
use Rattle.mo_match.specs.declared.work.Assigned.TheVariants.{All, Missing}

-- how many equations are left out
abbrev pub left_out : Assigned → ℕ
left_out All = 0
left_out (Missing k) = k

-- how many equations have an unknown
abbrev pub covered : Signature → List ℕ → ℕ
covered g pairs = count_below (by_place pairs) (equations g)
