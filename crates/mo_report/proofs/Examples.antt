-- The index on small systems: the pendulum, a motion that is given, and nothing at all.
use Rattle.std.proofs.Common.{◌≡◌, ℕ, List, [], ◌∷◌, refl}
use Rattle.mo_incidence.specs.Signature.{Signature, equations}
use Rattle.mo_incidence.specs.Offsets.{by_place, by_number}
use Rattle.mo_report.specs.Right.{index_of}

square : List (List (ℕ × ℕ)) → ℕ → Signature
square rows n = record { unknowns = n; rows = rows }

pendulum_index : index_of (square ([] ∷ [] ∷ [] ∷ [] ∷ [] ∷ []) 5) (by_place (1 ∷ 1 ∷ 0 ∷ 0 ∷ 2 ∷ [])) (by_number (2 ∷ 2 ∷ 1 ∷ 1 ∷ 0 ∷ [])) ≡ 3
unfolding square equations
pendulum_index = refl

motion_index : index_of (square ([] ∷ [] ∷ []) 2) (by_place (0 ∷ 2 ∷ [])) (by_number (2 ∷ 0 ∷ [])) ≡ 3
unfolding square equations
motion_index = refl

derivative_index : index_of (square ([] ∷ []) 1) (by_place (0 ∷ [])) (by_number (1 ∷ [])) ≡ 0
unfolding square equations
derivative_index = refl

nothing_index : index_of (square [] 0) (by_place []) (by_number []) ≡ 0
unfolding square equations
nothing_index = refl
