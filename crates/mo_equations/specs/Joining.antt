-- The branches of an if-equation that no value decides (Modelica Language Specification 3.5, section 8.3.4).
use Rattle.std.specs.Prelude.{pos, Bool, true, false, List, [], ◌∷◌, map, length, Ok, if◌then◌else◌, nat_eq}
use Rattle.std.specs.List.{list_all}
use Rattle.mo_syntax.specs.Outcome.{Outcome, breaks}
use Rattle.mo_syntax.specs.declared.place.Place.{Place}
use Rattle.mo_flat.specs.declared.expr.FlatExpr.{FlatExpr}
use Rattle.mo_flat.specs.declared.expr.FlatExpr as flat
use Rattle.mo_flat.specs.declared.model.FlatEquation.{FlatEquation}
use Rattle.mo_equations.specs.Gathering.{Made, made_equations}
use Rattle.mo_syntax.specs.declared.rules.TheConstants.{BRANCH_COUNTS_DIFFER}

-- What is left of the branches of an if-equation: each with its condition, and the last one.
abbrev pub Choice : Type 0
Choice = List (FlatExpr × Made) × Made

abbrev pub difference : FlatEquation → FlatExpr
difference q = flat.Sum ((false, q.left) ∷ (true, q.right) ∷ [])

-- the branches of an if-expression, and its last value
abbrev pub Joined : Type 0
Joined = List (FlatExpr × FlatExpr) × FlatExpr

-- one more branch in front, equation by equation
abbrev pub with_branch : FlatExpr → List FlatEquation → List Joined → List Joined
with_branch condition [] joined = []
with_branch condition (q ∷ qs) [] = []
with_branch condition (q ∷ qs) (one ∷ joined) = ((condition, difference q) ∷ one.0, one.1) ∷ with_branch condition qs joined

abbrev pub joined_branches : List (FlatExpr × Made) → Made → List Joined
joined_branches [] other = map (λ q. ([], difference q)) other.equations
joined_branches (branch ∷ branches) other = with_branch branch.0 branch.1.equations (joined_branches branches other)

-- 0 is the difference of the sides of the branch that holds
abbrev pub joined_equation : Place → Joined → FlatEquation
joined_equation place joined = record { left = flat.Whole (pos 0); right = flat.If joined.0 joined.1; place = place }

abbrev pub have_equal_counts : List (FlatExpr × Made) → Made → Bool
have_equal_counts branches other = list_all (λ branch. nat_eq (length branch.1.equations) (length other.equations)) branches

-- Where only one branch is left, its equations stand. Else all branches have equally many scalar equations, or rule 35 is broken at the
-- if-equation, and the equations of one number are joined.
abbrev pub made_if : Place → Choice → Outcome Made
made_if place ([], other) = Ok other
made_if place (branch ∷ branches, other) =
    if have_equal_counts (branch ∷ branches) other then
    Ok (made_equations (map (joined_equation place) (joined_branches (branch ∷ branches) other)))
    else breaks BRANCH_COUNTS_DIFFER place
