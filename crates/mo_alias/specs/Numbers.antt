-- The numbers of unknowns: from 1, in the order of the variables.
use Rattle.std.specs.Prelude.{ℕ, ◌+◌, List, [], ◌∷◌, get_or, if◌then◌else◌}
use Rattle.std.specs.Prelude.{Some}
use Rattle.mo_flat.specs.declared.model.FlatVar.{FlatVar}
use Rattle.mo_flat.specs.Roles.{is_unknown_role, unknown_numbers}

-- where n unknowns stand before these variables
abbrev pub numbers_from : ℕ → List FlatVar → List ℕ
numbers_from n [] = []
numbers_from n (v ∷ vs) = if is_unknown_role (Some v.role) then (n + 1) ∷ numbers_from (n + 1) vs else 0 ∷ numbers_from n vs

-- by the number of each variable its number among the unknowns, 0 where it is none
abbrev pub numbers_among : List FlatVar → List ℕ
numbers_among vars = 0 ∷ numbers_from 0 vars

-- the number of a variable among the unknowns, 0 where it is none
abbrev pub number_among : List FlatVar → ℕ → ℕ
number_among vars variable = get_or (numbers_among vars) variable 0

-- the variable that an unknown is, by its number among the unknowns
abbrev pub variable_of : List FlatVar → ℕ → ℕ
variable_of vars unknown = get_or (0 ∷ unknown_numbers vars) unknown 0
