-- The dimensions of components one after another: words of the contracts inside this crate alone.
use Rattle.std.specs.Prelude.{◌≡◌, ℕ, ◌++◌, List, Option, Result, Ok, Err, length, map}
use Rattle.mo_syntax.specs.Outcome.{Outcome, and_then}
use Rattle.mo_syntax.specs.declared.expr.Expr.{Expr}
use Rattle.mo_syntax.specs.declared.place.Stop.{Stop}
use Rattle.mo_syntax.specs.declared.place.Stop.TheVariants.{Broken as broken_by, NoMemory as no_memory}
use Rattle.mo_scope.specs.Frames.{Scope, Member}
use Rattle.mo_scope.specs.Parts.{Picked}
use Rattle.mo_scope.specs.Rows.{Table}
use Rattle.mo_scope.specs.Sizes.{Sizes}
use Rattle.mo_scope.specs.Worlds.{World, frames_of, table_in}
use Rattle.mo_names.specs.Sights.{member_of}
use Rattle.mo_typing.specs.Dims.{Dims}
use Rattle.mo_eval.specs.declared.dimensions.Measured.{Measured}
use Rattle.mo_eval.specs.Virtuals.{Ask}
use Rattle.mo_values.specs.Asked.{any_kind, for_value, layered}
use Rattle.mo_eval.specs.Resolving.{resolved_in}
use Rattle.mo_eval.specs.Components.{binding_dims, dims_behind, dims_from, each_dim, place_of}
use Rattle.mo_eval.specs.Values.{reading}

abbrev pub dims_of_binding : Table → Ask → ℕ → Picked → Outcome Dims
dims_of_binding table ask count binding =
    and_then (resolved_in table ask binding.scope for_value binding.value) (λ resolved.
    layered any_kind (dims_behind (place_of binding.value) binding.pending count) resolved.expression)

abbrev pub bound_in : World → Measured → Outcome Dims
bound_in world of = binding_dims (table_in world) (reading (table_in world) of.left) (member_of (frames_of world) of.member.now) of.count

-- further dimensions behind those that are made
abbrev pub dims_more : Table → Ask → Outcome Dims → Dims → List (Scope × Option Expr) → Outcome Dims
dims_more table ask bound made dims = and_then (dims_from table ask bound (length made) dims) (λ more. Ok (made ++ more))

abbrev pub dims_by_sizes : Table → Ask → Member → List Sizes → Outcome Dims
dims_by_sizes table ask member sizes = dims_from table ask (binding_dims table ask member (length (each_dim sizes))) 0 (each_dim sizes)

-- The answer goes on to what is left with its value; or breaks the rule that is told.
abbrev pub GoesOn : {T A : Type 0} → Result T Stop → Outcome A → (T → Outcome A) → Type 0
GoesOn (Ok value) told left = told ≡ left value
GoesOn (Err (broken_by broken)) told left = told ≡ Err broken
GoesOn (Err no_memory) told left = Unit {0}

-- dimensions that are written, with their scope
abbrev pub scoped : Scope → List (Option Expr) → List (Scope × Option Expr)
scoped scope subscripts = map (λ dim. (scope, dim)) subscripts
