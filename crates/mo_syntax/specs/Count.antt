-- How many expressions an expression is made of, itself included: subscripts, arguments and ranges count too.
-- One number for each form, read from the numbers of its parts.
use Rattle.std.specs.Prelude.{ℕ, ◌+◌, sum_by, Option, Some, None}
use Rattle.mo_syntax.specs.declared.expr.PartOf.{PartOf}
use Rattle.mo_syntax.specs.declared.expr.ReferenceOf.{ReferenceOf}
use Rattle.mo_syntax.specs.declared.expr.IndexOf.{IndexOf}
use Rattle.mo_syntax.specs.declared.expr.CalleeOf.{CalleeOf}
use Rattle.mo_syntax.specs.declared.expr.CalleeOf.TheVariants.{Named, Der, Initial, Pure}
use Rattle.mo_syntax.specs.declared.expr.Expr.{Expr, Expr-F, fold-Expr}
use Rattle.mo_syntax.specs.declared.expr.Node.{Node, Node-F, fold-Node}
use Rattle.mo_syntax.specs.declared.expr.Arg.{Arg, Arg-F, fold-Arg}
use Rattle.mo_syntax.specs.declared.expr.Args.{Args, Args-F, fold-Args}

abbrev pub in_option : Option ℕ → ℕ
in_option None = 0
in_option (Some n) = n

abbrev pub in_part : PartOf ℕ → ℕ
in_part part = sum_by in_option part.subs

abbrev pub in_reference : ReferenceOf ℕ → ℕ
in_reference reference = sum_by in_part reference.parts

abbrev pub in_callee : CalleeOf ℕ → ℕ
in_callee (Named reference) = in_reference reference
in_callee Der = 0
in_callee Initial = 0
in_callee Pure = 0

abbrev pub in_index : IndexOf ℕ → ℕ
in_index index = in_option index.range

abbrev pub in_node : Node-F ℕ ℕ ℕ ℕ → ℕ
in_node (Node-F.Whole i) = 0
in_node (Node-F.Decimal text) = 0
in_node (Node-F.Str text) = 0
in_node (Node-F.Truth b) = 0
in_node (Node-F.Ref reference) = in_reference reference
in_node (Node-F.Sum terms) = sum_by (λ t. t.value) terms
in_node (Node-F.Product factors) = sum_by (λ f. f.value) factors
in_node (Node-F.Power base dotted exponent) = base + exponent
in_node (Node-F.Relation op left right) = left + right
in_node (Node-F.Not operand) = operand
in_node (Node-F.All operands) = sum_by (λ n. n) operands
in_node (Node-F.Any operands) = sum_by (λ n. n) operands
in_node (Node-F.Range first step last) = first + in_option step + last
in_node (Node-F.If branches last) = sum_by (λ b. b.condition + b.value) branches + last
in_node (Node-F.Call callee arguments) = in_callee callee + arguments
in_node (Node-F.Tuple outputs) = sum_by in_option outputs
in_node (Node-F.Array elements) = sum_by (λ n. n) elements
in_node (Node-F.ArrayFor element iterators) = element + sum_by in_index iterators
in_node (Node-F.Matrix rows) = sum_by (λ row. sum_by (λ n. n) row) rows
in_node Node-F.EndMark = 0

abbrev pub in_arguments : Args-F ℕ ℕ ℕ ℕ → ℕ
in_arguments arguments = sum_by (λ n. n) arguments.plain + sum_by (λ n. n.1) arguments.named + sum_by in_index arguments.iters

abbrev pub in_argument : Arg-F ℕ ℕ ℕ ℕ → ℕ
in_argument (Arg-F.Value value) = value
in_argument (Arg-F.Partial function named) = in_reference function + sum_by (λ n. n.1) named

abbrev pub in_expr : Expr-F ℕ ℕ ℕ ℕ → ℕ
in_expr e = 1 + e.node

-- the number of an expression, and of each kind of part
abbrev pub count_of : Expr → ℕ
count_of = fold-Expr ℕ ℕ ℕ ℕ in_argument in_node in_arguments in_expr

abbrev pub count_in_node : Node → ℕ
count_in_node = fold-Node ℕ ℕ ℕ ℕ in_argument in_node in_arguments in_expr

abbrev pub count_in_argument : Arg → ℕ
count_in_argument = fold-Arg ℕ ℕ ℕ ℕ in_argument in_node in_arguments in_expr

abbrev pub count_in_arguments : Args → ℕ
count_in_arguments = fold-Args ℕ ℕ ℕ ℕ in_argument in_node in_arguments in_expr

-- the same of parts that hold expressions
abbrev pub count_in_option : Option Expr → ℕ
count_in_option None = 0
count_in_option (Some e) = count_of e

abbrev pub count_in_part : PartOf Expr → ℕ
count_in_part part = sum_by count_in_option part.subs

abbrev pub count_in_reference : ReferenceOf Expr → ℕ
count_in_reference reference = sum_by count_in_part reference.parts

abbrev pub count_in_callee : CalleeOf Expr → ℕ
count_in_callee (Named reference) = count_in_reference reference
count_in_callee Der = 0
count_in_callee Initial = 0
count_in_callee Pure = 0

abbrev pub count_in_index : IndexOf Expr → ℕ
count_in_index index = count_in_option index.range
