-- How much text the derivatives of a square system's report can take.
use Rattle.std.specs.Prelude.{ℕ, ◌+◌, ◌*◌, List, [], ◌∷◌, Some, length, if◌then◌else◌}
use Rattle.mo_flat.specs.Roles.{is_unknown_role}
use Rattle.mo_flat.specs.declared.model.FlatVar.{FlatVar}

-- the names of the unknowns, in the order of their numbers
abbrev pub unknown_names : List FlatVar → List (List ℕ)
unknown_names [] = []
unknown_names (v ∷ vars) = if is_unknown_role (Some v.role) then v.name ∷ unknown_names vars else unknown_names vars

-- an unknown of highest order d whose name has n bytes
unfoldable pub weight : ℕ → ℕ → ℕ
weight d n = d * (5 * d + n)

-- the sum over the unknowns, each with its highest order
abbrev pub report_size : List (List ℕ) → List ℕ → ℕ
report_size [] ds = 0
report_size (name ∷ names) [] = 0
report_size (name ∷ names) (d ∷ ds) = weight d (length name) + report_size names ds

abbrev pub report_limit : ℕ
report_limit = 67108864
