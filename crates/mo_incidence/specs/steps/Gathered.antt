-- How a row is found: every place of an unknown gives an entry, and of the entries of one unknown the highest is kept.
use Rattle.std.specs.Prelude.{ℕ, zero, suc, ◌+◌, min, List, [], ◌∷◌, ◌++◌, if◌then◌else◌, flat_map, nat_eq, slice_index}
use Rattle.mo_flat.specs.declared.expr.FlatExpr.{FlatExpr, FlatExpr-F, fold-FlatExpr}
use Rattle.mo_flat.specs.declared.model.FlatVar.{FlatVar}
use Rattle.mo_flat.specs.Roles.{is_unknown_role}
use Rattle.std.specs.Prelude.{Some}

abbrev pub places_from : ℕ → List FlatVar → List ℕ
places_from n [] = []
places_from n (v ∷ vs) = if is_unknown_role (Some v.role) then (n + 1) ∷ places_from (n + 1) vs else 0 ∷ places_from n vs

-- by the number of each variable, its number among the unknowns, 0 where it is none
abbrev pub unknown_places : List FlatVar → List ℕ
unknown_places vars = 0 ∷ places_from 0 vars

abbrev pub found_at : ℕ → ℕ → List (ℕ × ℕ)
found_at zero order = []
found_at (suc j) order = (suc j, order) ∷ []

-- the entries of a node, by those of its parts and the number of derivatives around it, in 32 bits
abbrev pub found_node : List ℕ → FlatExpr-F (ℕ → List (ℕ × ℕ)) → ℕ → List (ℕ × ℕ)
found_node places (FlatExpr-F.Var variable order) around = found_at (slice_index places variable) (min (order + around) 4294967295)
found_node places (FlatExpr-F.Der inner) around = inner (min (around + 1) 4294967295)
found_node places (FlatExpr-F.Sum terms) around = flat_map (λ term. term.1 around) terms
found_node places (FlatExpr-F.Product factors) around = flat_map (λ factor. factor.1 around) factors
found_node places (FlatExpr-F.Power base exponent) around = base around ++ exponent around
found_node places (FlatExpr-F.Call function args) around = flat_map (λ arg. arg around) args
found_node places (FlatExpr-F.Relation op left right) around = left around ++ right around
found_node places (FlatExpr-F.Not inner) around = inner around
found_node places (FlatExpr-F.All parts) around = flat_map (λ part. part around) parts
found_node places (FlatExpr-F.Any parts) around = flat_map (λ part. part around) parts
found_node places (FlatExpr-F.If branches other) around = flat_map (λ branch. branch.1 around) branches ++ other around
found_node places _ around = []

abbrev pub found : List ℕ → FlatExpr → ℕ → List (ℕ × ℕ)
found places = fold-FlatExpr (ℕ → List (ℕ × ℕ)) (found_node places)

-- of neighbours with one unknown the last
abbrev pub last_of_each : List (ℕ × ℕ) → List (ℕ × ℕ)
last_of_each [] = []
last_of_each (x ∷ []) = x ∷ []
last_of_each (x ∷ y ∷ entries) = if nat_eq x.0 y.0 then last_of_each (y ∷ entries) else x ∷ last_of_each (y ∷ entries)
