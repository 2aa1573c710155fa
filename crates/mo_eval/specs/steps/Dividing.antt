-- Two operands: words of the contracts inside this crate alone.
use Rattle.std.specs.Prelude.{ℕ, List, [], ◌∷◌, Ok}
use Rattle.mo_syntax.specs.Outcome.{Outcome, breaks}
use Rattle.mo_syntax.specs.declared.place.Place.{Place}
use Rattle.mo_flat.specs.declared.array.ArrayExpr.{ArrayExpr}
use Rattle.mo_eval.specs.declared.virtuals.Virtual.{Virtual as VirtualAt}
use Rattle.mo_eval.specs.declared.virtuals.Virtual.TheVariants.{Division as division_at}
use Rattle.mo_syntax.specs.declared.rules.TheConstants.{WRONG_TYPE}

-- the variable of a call of two operands
abbrev pub variable_of : Place → (function : ℕ) → List ArrayExpr → Outcome VirtualAt
variable_of place function (a ∷ b ∷ []) = Ok (division_at place function a b)
variable_of place function operands = breaks WRONG_TYPE place
