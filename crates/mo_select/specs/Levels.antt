-- How much an unknown is wanted as a state, by its attribute stateSelect (Modelica Language Specification 3.5, section 4.8.7.1): 0 for
-- never, 1 for avoid, 2 for default, 3 for prefer, 4 for always. It is 2 where the attribute is not given, or is none of these literals.
use Rattle.std.specs.Prelude.{ℕ, List, [], ◌∷◌, Some, codes, ◌==◌, if◌then◌else◌, unwrap_or}
use Rattle.mo_tables.specs.Words.{code_in}
use Rattle.mo_flat.specs.declared.expr.FlatExpr.{FlatExpr, FlatExpr-F, out-FlatExpr}
use Rattle.mo_flat.specs.declared.model.FlatModel.{FlatModel}
use Rattle.mo_flat.specs.declared.model.FlatVar.{FlatVar}
use Rattle.mo_flat.specs.Roles.{is_unknown_role}
use Rattle.mo_incidence.specs.Offsets.{by_number}

-- the literals as they are printed, by level
unfoldable pub level_words : List (List ℕ)
level_words =
    codes "StateSelect.never" ∷ codes "StateSelect.avoid" ∷ codes "StateSelect.default" ∷ codes "StateSelect.prefer" ∷
    codes "StateSelect.always" ∷ []

-- that of an attribute's value
abbrev pub level_at : FlatExpr-F FlatExpr → ℕ
level_at (FlatExpr-F.Literal text) = unwrap_or (code_in level_words text) 2
level_at _ = 2

-- that of a variable with these attributes; stateSelect has number 9
abbrev pub level_in : List (ℕ × FlatExpr) → ℕ
level_in [] = 2
level_in (attribute ∷ attributes) = if attribute.0 == 9 then level_at (out-FlatExpr attribute.1) else level_in attributes

-- those of the unknowns among the variables, in order
abbrev pub levels_of : List FlatVar → List ℕ
levels_of [] = []
levels_of (v ∷ vs) = if is_unknown_role (Some v.role) then level_in v.attributes ∷ levels_of vs else levels_of vs

-- that of each unknown of the model, by its number
abbrev pub level_of : FlatModel → ℕ → ℕ
level_of m = by_number (levels_of m.vars)
