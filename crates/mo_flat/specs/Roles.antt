-- The variables of a flat model by number and role. A variable's number is its place in the list, from 1.
use Rattle.std.specs.Prelude.{ℕ, zero, suc, ◌+◌, Bool, true, false, List, [], ◌∷◌, Option, Some, None, if◌then◌else◌, slice_get}
use Rattle.std.specs.Option.{option_map}
use Rattle.mo_syntax.specs.declared.meaning.Role.{Role}
use Rattle.mo_syntax.specs.declared.meaning.Role.TheVariants.{Unknown, Given}
use Rattle.mo_flat.specs.declared.model.FlatVar.{FlatVar}

-- the variable of that number
abbrev pub variable_at : List FlatVar → ℕ → Option FlatVar
variable_at vars zero = None
variable_at vars (suc n) = slice_get vars n

-- what the variable of that number is in the equations
abbrev pub role_at : List FlatVar → ℕ → Option Role
role_at vars n = option_map (λ v. v.role) (variable_at vars n)

abbrev pub is_unknown_role : Option Role → Bool
is_unknown_role (Some Unknown) = true
is_unknown_role _ = false

abbrev pub is_given_role : Option Role → Bool
is_given_role (Some Given) = true
is_given_role _ = false

-- a variable that the equations determine
abbrev pub is_unknown : List FlatVar → ℕ → Bool
is_unknown vars n = is_unknown_role (role_at vars n)

-- a variable that comes from outside as a function of time
abbrev pub is_given : List FlatVar → ℕ → Bool
is_given vars n = is_given_role (role_at vars n)

abbrev pub unknowns_from : ℕ → List FlatVar → List ℕ
unknowns_from n [] = []
unknowns_from n (v ∷ vs) = if is_unknown_role (Some v.role) then n ∷ unknowns_from (n + 1) vs else unknowns_from (n + 1) vs

-- The variable numbers of the unknowns, ascending. Unknowns are themselves numbered from 1 in this order.
abbrev pub unknown_numbers : List FlatVar → List ℕ
unknown_numbers vars = unknowns_from 1 vars
