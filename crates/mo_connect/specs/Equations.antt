-- The equations of connection sets (Modelica Language Specification 3.5, section 9.2).
use Rattle.std.specs.Prelude.{ℕ, pos, Bool, List, [], ◌∷◌, map, if◌then◌else◌, All, IsTrue}
use Rattle.std.specs.Option.{option_map}
use Rattle.mo_syntax.specs.declared.place.Place.{Place}
use Rattle.mo_flat.specs.declared.connect.FaceSet.{FaceSet}
use Rattle.mo_flat.specs.declared.expr.FlatExpr.{FlatExpr}
use Rattle.mo_flat.specs.declared.expr.FlatExpr as flat
use Rattle.mo_flat.specs.declared.model.FlatEquation.{FlatEquation}
use Rattle.mo_flat.specs.declared.model.FlatVar.{FlatVar}
use Rattle.mo_flat.specs.Roles.{variable_at}
use Rattle.mo_flat.specs.Sound.{IsSoundEquation, flat_kind, is_numeric}

abbrev pub variable_of : ℕ × Bool → FlatExpr
variable_of member = flat.Var member.0 0

-- an outside member is subtracted
abbrev pub term_of : ℕ × Bool → Bool × FlatExpr
term_of member = (member.1, variable_of member)

abbrev pub equality_with : Place → ℕ × Bool → ℕ × Bool → FlatEquation
equality_with place first member = record { left = variable_of first; right = variable_of member; place = place }

-- each later member is equal to the first
abbrev pub potential_equations : Place → ℕ × Bool → List (ℕ × Bool) → List FlatEquation
potential_equations place first more = map (equality_with place first) more

-- one inside member alone stands without a sum
abbrev pub sum_of : ℕ × Bool → List (ℕ × Bool) → FlatExpr
sum_of first [] = if first.1 then flat.Sum (term_of first ∷ []) else variable_of first
sum_of first (second ∷ more) = flat.Sum (term_of first ∷ map term_of (second ∷ more))

abbrev pub flow_equation : Place → ℕ × Bool → List (ℕ × Bool) → FlatEquation
flow_equation place first more = record { left = sum_of first more; right = flat.Whole (pos 0); place = place }

abbrev pub equations_of : FaceSet → List FlatEquation
equations_of set = of_members set.members
  where
    of_members : List (ℕ × Bool) → List FlatEquation
    of_members [] = []
    of_members (first ∷ more) = if set.flow then flow_equation set.place first more ∷ [] else potential_equations set.place first more

-- the number is that of a variable whose values are numbers
abbrev pub IsNumericVariable : List FlatVar → ℕ → Type 0
IsNumericVariable vars n = IsTrue (is_numeric (option_map (λ v. flat_kind v.kind) (variable_at vars n)))

abbrev pub HasNumericMembers : List FlatVar → FaceSet → Type 0
HasNumericMembers vars set = All (λ member. IsNumericVariable vars member.0) set.members

-- the same of all sets
abbrev pub HaveNumericMembers : List FlatVar → List FaceSet → Type 0
HaveNumericMembers vars sets = All (HasNumericMembers vars) sets

abbrev pub AreSoundEquations : List FlatVar → List FlatEquation → Type 0
AreSoundEquations vars equations = All (IsSoundEquation vars) equations
