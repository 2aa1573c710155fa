-- How much an expression weighs: the number of its nodes, or of the bytes of the texts in it. A derivative is weighed before it
-- is built, each call by the row of its function in the table of derivatives.
use Rattle.std.specs.Prelude.{ℕ, ℤ, pos, ◌≡◌, ◌+◌, ◌*◌, ◌-◌, ◌^◌, min, Bool, List, [], ◌∷◌, if◌then◌else◌, length, nat_eq, sum_by}
use Rattle.std.specs.List.{list_all, list_any}
use Rattle.std.specs.Ordering.{int_eq}
use Rattle.mo_tables.specs.declared.functions.TheConstants.{ABS, ACOS, ASIN, ATAN, ATAN2, COS, COSH, EXP, LOG, LOG10, MAX, MIN, SIN, SINH, SQRT, TAN, TANH}
use Rattle.mo_flat.specs.declared.expr.FlatExpr.{FlatExpr, FlatExpr-F, fold-FlatExpr}
use Rattle.mo_flat.specs.declared.model.FlatVar.{FlatVar}
use Rattle.mo_flat.specs.Text.{variable_name}
use Rattle.mo_symdiff.specs.declared.weights.Measure.{Measure}
use Rattle.mo_symdiff.specs.declared.weights.Measure.TheVariants.{Nodes, Literals, Names}
use Rattle.mo_symdiff.specs.declared.weights.Row.{Row}
use Rattle.mo_symdiff.specs.Derivative.{derived}
use Rattle.mo_symdiff.specs.Still.{is_still}

-- each node counts, or none
abbrev pub node_weight : Measure → ℕ
node_weight Nodes = 1
node_weight Literals = 0
node_weight Names = 0

-- the text of a literal, beside its node
abbrev pub literal_weight : Measure → List ℕ → ℕ
literal_weight Nodes text = 0
literal_weight Literals text = length text
literal_weight Names text = length text

-- a variable, by its number and its order, beside its node
abbrev pub variable_weight : List FlatVar → Measure → ℕ → ℕ → ℕ
variable_weight vars Nodes variable order = order
variable_weight vars Literals variable order = 0
variable_weight vars Names variable order = length (variable_name vars variable)

abbrev pub weigh_node : List FlatVar → Measure → FlatExpr-F ℕ → ℕ
weigh_node vars m (FlatExpr-F.Whole n) = node_weight m
weigh_node vars m (FlatExpr-F.Decimal text) = node_weight m + literal_weight m text
weigh_node vars m (FlatExpr-F.Str text) = node_weight m + literal_weight m text
weigh_node vars m (FlatExpr-F.Truth b) = node_weight m
weigh_node vars m (FlatExpr-F.Literal text) = node_weight m + literal_weight m text
weigh_node vars m FlatExpr-F.Time = node_weight m
weigh_node vars m (FlatExpr-F.Var variable order) = node_weight m + variable_weight vars m variable order
weigh_node vars m (FlatExpr-F.Der inner) = node_weight m + inner
weigh_node vars m (FlatExpr-F.Sum terms) = node_weight m + sum_by (λ term. term.1) terms
weigh_node vars m (FlatExpr-F.Product factors) = node_weight m + sum_by (λ factor. factor.1) factors
weigh_node vars m (FlatExpr-F.Power base exponent) = node_weight m + (base + exponent)
weigh_node vars m (FlatExpr-F.Call function args) = node_weight m + sum_by (λ arg. arg) args
weigh_node vars m (FlatExpr-F.Relation op left right) = node_weight m + (left + right)
weigh_node vars m (FlatExpr-F.Not inner) = node_weight m + inner
weigh_node vars m (FlatExpr-F.All parts) = node_weight m + sum_by (λ part. part) parts
weigh_node vars m (FlatExpr-F.Any parts) = node_weight m + sum_by (λ part. part) parts
weigh_node vars m (FlatExpr-F.If branches other) = node_weight m + (sum_by (λ branch. branch.0 + branch.1) branches + other)

unfoldable pub weigh : List FlatVar → Measure → FlatExpr → ℕ
weigh vars m = fold-FlatExpr ℕ (weigh_node vars m)

-- the greatest number of 64 bits stands for itself and for each greater one
abbrev pub capped : ℕ → ℕ
capped n = min n (2 ^ 64 - 1)

-- the nodes that a row of the table of derivatives brings, and how often it holds the arguments and their derivatives
abbrev pub row_weight : Row → (node arguments slopes : ℕ) → ℕ
row_weight row node arguments slopes = row.nodes * node + (row.arguments * arguments + row.slopes * slopes)

abbrev pub row_of : ℕ → ℕ → ℕ → Row
row_of nodes arguments slopes = record { nodes = nodes; arguments = arguments; slopes = slopes }

-- a power with an Integer literal as its exponent, whose argument is its base
abbrev pub literal_row : ℤ → Row
literal_row n = if int_eq n (pos 2) then row_of 2 1 1 else row_of 4 1 1

-- functions of one argument
abbrev pub call_row : ℕ → Row
call_row function =
    if nat_eq function SIN then row_of 2 1 1 else
    (if nat_eq function COS then row_of 3 1 1 else
    (if nat_eq function TAN then row_of 4 1 1 else
    (if nat_eq function ASIN then row_of 6 1 1 else
    (if nat_eq function ACOS then row_of 7 1 1 else
    (if nat_eq function ATAN then row_of 5 1 1 else
    (if nat_eq function SINH then row_of 2 1 1 else
    (if nat_eq function COSH then row_of 2 1 1 else
    (if nat_eq function TANH then row_of 4 1 1 else
    (if nat_eq function EXP then row_of 2 1 1 else
    (if nat_eq function LOG then row_of 1 1 1 else
    (if nat_eq function LOG10 then row_of 4 1 1 else
    (if nat_eq function SQRT then row_of 4 1 1 else
    (if nat_eq function ABS then row_of 4 1 2 else
    row_of 1 0 1)))))))))))))

-- functions of two arguments
abbrev pub call_row_of_two : ℕ → Row
call_row_of_two function =
    if nat_eq function ATAN2 then row_of 9 2 1 else
    (if nat_eq function MIN then row_of 2 1 1 else
    (if nat_eq function MAX then row_of 2 1 1 else
    row_of 1 0 1))

-- by the number of arguments
abbrev pub args_row : {A : Type 0} → ℕ → List A → Row
args_row function (u ∷ []) = call_row function
args_row function (a ∷ b ∷ []) = call_row_of_two function
args_row function args = row_of 1 0 1

-- how much an expression weighs and how much its derivative, and whether it is still
pub record IsSize (vars : List FlatVar) (m : Measure) (e : FlatExpr) (still : Bool) (whole slope : ℕ) : Type 0 where
  pub still_is : still ≡ is_still vars e
  pub whole_is : whole ≡ capped (weigh vars m e)
  pub slope_is : slope ≡ capped (weigh vars m (derived vars e))

-- the same of several expressions together
pub record AreSizes (vars : List FlatVar) (m : Measure) (es : List FlatExpr) (still : Bool) (whole slope : ℕ) : Type 0 where
  pub still_is : still ≡ list_all (is_still vars) es
  pub whole_is : whole ≡ capped (sum_by (weigh vars m) es)
  pub slope_is : slope ≡ capped (sum_by (λ e. weigh vars m (derived vars e)) es)

-- the same of the branches of an if-expression, whose conditions stay in its derivative
pub record AreBranchSizes (vars : List FlatVar) (m : Measure) (branches : List (FlatExpr × FlatExpr)) (still : Bool) (whole slope : ℕ) : Type 0 where
  pub still_is : still ≡ list_all (λ branch. is_still vars branch.1) branches
  pub whole_is : whole ≡ capped (sum_by (λ branch. weigh vars m branch.0 + weigh vars m branch.1) branches)
  pub slope_is : slope ≡ capped (sum_by (λ branch. weigh vars m branch.0 + weigh vars m (derived vars branch.1)) branches)

-- the same of terms or factors, where `terms` are those of the derivative: how much they weigh, how many they are, and whether one
-- is subtracted
pub record AreTermSizes (vars : List FlatVar) (m : Measure) (parts terms : List (Bool × FlatExpr)) (still minus : Bool) (whole slope moving : ℕ) : Type 0 where
  pub still_is : still ≡ list_all (λ part. is_still vars part.1) parts
  pub whole_is : whole ≡ capped (sum_by (λ part. weigh vars m part.1) parts)
  pub slope_is : slope ≡ capped (sum_by (λ term. weigh vars m term.1) terms)
  pub moving_is : moving ≡ capped (length terms)
  pub minus_is : minus ≡ list_any (λ term. term.0) terms
