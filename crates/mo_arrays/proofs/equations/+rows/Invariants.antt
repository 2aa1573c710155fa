use Rattle.std.proofs.Common.{◌≡◌, ◌+◌, ◌*◌, ◌∷◌, [], ◌++◌, map, flat_map, length}
use Rattle.mo_typing.specs.Indices.{indices, numbers_to}
use Rattle.mo_arrays.specs.Equations.{equation}
use Rattle.mo_arrays.proofs.equations.+rows.Given as goal

abbrev pub invariant-equations_of_rows-loop-k : goal.invariant-equations_of_rows-loop-k
invariant-equations_of_rows-loop-k l = l.made ≡ flat_map (λ k. map (λ i. equation l.left l.right l.place ((l.begun ++ k ∷ []) ++ i)) (indices l.more)) (numbers_to l.k)

abbrev pub decreases-equations_below : goal.decreases-equations_below
decreases-equations_below l = 2 * length l.dims.now

abbrev pub decreases-equations_of_rows : goal.decreases-equations_of_rows
decreases-equations_of_rows l = 2 * length l.more.now + 1
