-- If-expressions branch by branch: words of the contracts inside this crate alone.
use Rattle.std.specs.Prelude.{Bool, true, false, List, [], ◌∷◌, Option, Some, None}
use Rattle.mo_syntax.specs.Outcome.{Outcome, and_then}
use Rattle.mo_syntax.specs.declared.expr.BranchOf.{BranchOf}
use Rattle.mo_flat.specs.declared.array.ArrayExpr.{ArrayExpr}
use Rattle.mo_syntax.specs.declared.rules.TheConstants.{WRONG_TYPE}
use Rattle.mo_values.specs.declared.context.Context.{Context}
use Rattle.mo_eval.specs.declared.choice.BranchMade.{BranchMade}
use Rattle.mo_eval.specs.declared.choice.BranchMade.TheVariants.{Dropped, Kept, Last}
use Rattle.mo_values.specs.declared.value.Scalar.TheVariants.{Truth}
use Rattle.mo_values.specs.Scalars.{Known}
use Rattle.mo_eval.specs.Virtuals.{Element, Making, make, make_then, make_from}
use Rattle.mo_eval.specs.Contexts.{Part, alone, place_of, truth_of}
use Rattle.mo_values.specs.Asked.{read_in}
use Rattle.mo_eval.specs.Resolving.{make_part}
use Rattle.mo_eval.specs.steps.Parts.{made_two}

-- a condition, decided or not
abbrev pub read_condition : (Element → Outcome Known) → Context → Part → Outcome Known
read_condition read context part = and_then (alone part (read_in context)) (truth_of read WRONG_TYPE (place_of part))

abbrev pub truth_in : Known → Option Bool
truth_in (Some (Truth b)) = Some b
truth_in known = None

-- what becomes of a branch by the value of its condition
abbrev pub branch_by : Context → BranchOf Part → Option Bool → Making BranchMade
branch_by context branch (Some true) = make_then (make_part context branch.value) (λ value. make (Last value))
branch_by context branch (Some false) = make Dropped
branch_by context branch None = make_then (made_two context branch.condition branch.value) (λ both. make (Kept both.0 both.1))

abbrev pub made_branch : (Element → Outcome Known) → Context → BranchOf Part → Making BranchMade
made_branch read context branch =
    make_then (make_from (read_condition read context branch.condition)) (λ known. branch_by context branch (truth_in known))

-- the branch that is left, and the value of the last one
abbrev pub kept_in : BranchMade → List (ArrayExpr × ArrayExpr)
kept_in Dropped = []
kept_in (Kept condition value) = (condition, value) ∷ []
kept_in (Last value) = []

abbrev pub last_in : BranchMade → Option ArrayExpr
last_in Dropped = None
last_in (Kept condition value) = None
last_in (Last value) = Some value
