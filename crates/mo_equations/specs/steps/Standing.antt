-- What stands for elements, what is asked of the variables of an expression, and what replaces a constant.
use Rattle.std.specs.Prelude.{◌≡◌, ℕ, ◌-◌, List, Option, Some, None, Ok, if◌then◌else◌, replicate, slice_get}
use Rattle.mo_flat.specs.declared.expr.FlatExpr.{FlatExpr}
use Rattle.mo_scope.specs.Rows.{Table}
use Rattle.mo_scope.specs.Instances.{Chosen}
use Rattle.mo_scope.specs.Places.{Every}
use Rattle.mo_scope.specs.Trees.{instances_in}
use Rattle.mo_scope.specs.Worlds.{World, table_in}
use Rattle.mo_names.specs.Sights.{IsMember}
use Rattle.mo_eval.specs.declared.virtuals.Virtual.{Virtual as VirtualAt}
use Rattle.mo_eval.specs.declared.virtuals.Virtual.TheVariants.{Component, Division as division_at}
use Rattle.mo_syntax.specs.Outcome.{Outcome, and_then, breaks}
use Rattle.mo_syntax.specs.declared.rules.TheConstants.{NO_VALUE}
use Rattle.mo_values.specs.Scalars.{Known, has_values}
use Rattle.mo_eval.specs.Virtuals.{Element}
use Rattle.mo_eval.specs.Components.{binding_of, place_of}
use Rattle.mo_values.specs.Asked.{fitted}
use Rattle.mo_eval.specs.Values.{value_of_element}
use Rattle.mo_equations.specs.declared.flat.Flat.{Flat}
use Rattle.mo_equations.specs.declared.leaves.Leaves.{Leaves}
use Rattle.mo_equations.specs.Leaves.{Tree, number_of}
use Rattle.mo_equations.specs.Replacing.{Replacing, flat_chosen, flat_variable}
use Rattle.mo_equations.specs.steps.Counting.{variables_in}
use Rattle.mo_equations.specs.steps.Flats.{IsFlat}

-- ---- elements

-- the tree of instances that is expanded
abbrev pub tree_in : World → Leaves → Tree
tree_in world leaves = record { classes = table_in world; instances = instances_in world leaves.instances.now }

-- what stands for elements where so many references are left
abbrev pub replacing_in : World → Leaves → ℕ → Replacing
replacing_in world leaves left = flat_variable (table_in world) (number_of (tree_in world leaves)) left

-- ---- constants

abbrev pub constant_known : Table → ℕ → Element → Outcome Known
constant_known table left element = if has_values element.kind then value_of_element table left element else Ok None

abbrev pub constant_expression : Table → ℕ → Replacing → Element → Outcome FlatExpr
constant_expression table left replace element = and_then (binding_of table element.member element.index) expression_of
  where
    expression_of : Option Chosen → Outcome FlatExpr
    expression_of None = breaks NO_VALUE element.place
    expression_of (Some binding) =
        flat_chosen table left replace element.kind (fitted (place_of binding.value) binding.pending) binding

-- ---- variables

abbrev pub IsVirtualThere : World → VirtualAt → Type 0
IsVirtualThere world (Component element) = IsMember world element.member
IsVirtualThere world (division_at place function left right) = Unit {0}

-- what a variable that was asked is replaced by
pub record IsReplaced (replace : ℕ → Outcome FlatExpr) (n : ℕ) (flat : Flat) : Type 0 where
  pub e : FlatExpr
  pub is : replace n ≡ Ok e
  pub flat_is : IsFlat flat e

-- all variables that were asked are replaced so
pub record AreReplaced (replace : ℕ → Outcome FlatExpr) (replaced : List (Option Flat)) : Type 0 where
  pub each : (n : ℕ) (flat : Flat) → slice_get replaced (n - 1) ≡ Some (Some flat) → IsReplaced replace n flat

abbrev pub IsAskedAt : List (Option Flat) → ℕ → Type 0
IsAskedAt replaced n = (flat : Flat) × (slice_get replaced (n - 1) ≡ Some (Some flat))

-- the variable at a place, from 0, was asked
abbrev pub IsPlaceAsked : List (Option Flat) → ℕ → Type 0
IsPlaceAsked replaced place = (flat : Flat) × (slice_get replaced place ≡ Some (Some flat))

-- no variable was asked
abbrev pub unasked : ℕ → List (Option Flat)
unasked count = replicate count None

-- all variables of an expression were asked
abbrev pub AreAsked : List (Option Flat) → FlatExpr → Type 0
AreAsked replaced e = Every (IsAskedAt replaced) (variables_in e)
