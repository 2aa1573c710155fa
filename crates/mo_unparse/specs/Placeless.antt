-- Expressions, equations and statements with no places: every place is set to `nowhere`. In a step of a fold the parts have been
-- set already, so that only the places of the step's own forms are left.
use Rattle.std.specs.Prelude.{ℕ, List, map, Option}
use Rattle.std.specs.Option.{option_map}
use Rattle.mo_syntax.specs.declared.expr.PartOf.{PartOf}
use Rattle.mo_syntax.specs.declared.expr.ReferenceOf.{ReferenceOf}
use Rattle.mo_syntax.specs.declared.expr.BranchOf.{BranchOf}
use Rattle.mo_syntax.specs.declared.expr.FactorOf.{FactorOf}
use Rattle.mo_syntax.specs.declared.expr.IndexOf.{IndexOf}
use Rattle.mo_syntax.specs.declared.expr.TermOf.{TermOf}
use Rattle.mo_syntax.specs.declared.expr.CalleeOf.{CalleeOf}
use Rattle.mo_syntax.specs.declared.expr.CalleeOf.TheVariants.{Named, Der, Initial, Pure}
use Rattle.mo_syntax.specs.declared.expr.Expr.{Expr, Expr-F, fold-Expr}
use Rattle.mo_syntax.specs.declared.expr.Node.{Node, Node-F, fold-Node}
use Rattle.mo_syntax.specs.declared.expr.Node.TheVariants.{Whole, Decimal, Str, Truth, Ref, Sum, Product, Power, Relation, Not, All, Any, Range, If, Call, Tuple, Array, ArrayFor, Matrix, EndMark}
use Rattle.mo_syntax.specs.declared.expr.Arg.{Arg, Arg-F, fold-Arg}
use Rattle.mo_syntax.specs.declared.expr.Arg.TheVariants.{Value, Partial}
use Rattle.mo_syntax.specs.declared.expr.Args.{Args, Args-F, fold-Args}
use Rattle.mo_syntax.specs.declared.equation.EquationOf.{EquationOf}
use Rattle.mo_syntax.specs.declared.equation.EquationKind.{EquationKind, EquationKind-F, fold-EquationKind}
use Rattle.mo_syntax.specs.declared.equation.EquationKind.TheVariants.{Equal, If as if_equation, For as for_equation, When as when_equation, Connect, Call as call_equation}
use Rattle.mo_syntax.specs.declared.equation.StatementOf.{StatementOf}
use Rattle.mo_syntax.specs.declared.equation.StatementKind.{StatementKind, StatementKind-F, fold-StatementKind}
use Rattle.mo_syntax.specs.declared.equation.StatementKind.TheVariants.{Assign, Call as call_statement, Outputs, Break, Return, If as if_statement, For as for_statement, While as while_statement, When as when_statement}
use Rattle.mo_pieces.specs.Pieces.{nowhere}

-- ---- a step of each kind

abbrev pub part_nowhere : PartOf Expr → PartOf Expr
part_nowhere part = record part { place = nowhere }

abbrev pub reference_nowhere : ReferenceOf Expr → ReferenceOf Expr
reference_nowhere reference = record { top = reference.top; parts = map part_nowhere reference.parts }

abbrev pub callee_nowhere : CalleeOf Expr → CalleeOf Expr
callee_nowhere (Named reference) = Named (reference_nowhere reference)
callee_nowhere Der = Der
callee_nowhere Initial = Initial
callee_nowhere Pure = Pure

abbrev pub node_nowhere : Node-F Arg Node Args Expr → Node
node_nowhere (Node-F.Whole i) = Whole i
node_nowhere (Node-F.Decimal text) = Decimal text
node_nowhere (Node-F.Str text) = Str text
node_nowhere (Node-F.Truth b) = Truth b
node_nowhere (Node-F.Ref reference) = Ref (reference_nowhere reference)
node_nowhere (Node-F.Sum terms) = Sum terms
node_nowhere (Node-F.Product factors) = Product factors
node_nowhere (Node-F.Power base dotted exponent) = Power base dotted exponent
node_nowhere (Node-F.Relation op left right) = Relation op left right
node_nowhere (Node-F.Not operand) = Not operand
node_nowhere (Node-F.All operands) = All operands
node_nowhere (Node-F.Any operands) = Any operands
node_nowhere (Node-F.Range first step last) = Range first step last
node_nowhere (Node-F.If branches last) = If branches last
node_nowhere (Node-F.Call callee args) = Call (callee_nowhere callee) args
node_nowhere (Node-F.Tuple outputs) = Tuple outputs
node_nowhere (Node-F.Array elements) = Array elements
node_nowhere (Node-F.ArrayFor element iterators) = ArrayFor element iterators
node_nowhere (Node-F.Matrix rows) = Matrix rows
node_nowhere Node-F.EndMark = EndMark

abbrev pub args_nowhere : Args-F Arg Node Args Expr → Args
args_nowhere args = Rattle.mo_syntax.specs.declared.expr.Args.roll-Args args

abbrev pub arg_nowhere : Arg-F Arg Node Args Expr → Arg
arg_nowhere (Arg-F.Value value) = Value value
arg_nowhere (Arg-F.Partial function named) = Partial (reference_nowhere function) named

abbrev pub expr_nowhere : Expr-F Arg Node Args Expr → Expr
expr_nowhere e = record { place = nowhere; node = e.node }

-- ---- expressions

unfoldable pub placeless_expr : Expr → Expr
placeless_expr = fold-Expr Arg Node Args Expr arg_nowhere node_nowhere args_nowhere expr_nowhere

unfoldable pub placeless_node : Node → Node
placeless_node = fold-Node Arg Node Args Expr arg_nowhere node_nowhere args_nowhere expr_nowhere

unfoldable pub placeless_arg : Arg → Arg
placeless_arg = fold-Arg Arg Node Args Expr arg_nowhere node_nowhere args_nowhere expr_nowhere

unfoldable pub placeless_args : Args → Args
placeless_args = fold-Args Arg Node Args Expr arg_nowhere node_nowhere args_nowhere expr_nowhere

abbrev pub placeless_option : Option Expr → Option Expr
placeless_option = option_map placeless_expr

abbrev pub placeless_options : List (Option Expr) → List (Option Expr)
placeless_options = map placeless_option

abbrev pub placeless_part : PartOf Expr → PartOf Expr
placeless_part part = record { name = part.name; place = nowhere; subs = placeless_options part.subs }

abbrev pub placeless_reference : ReferenceOf Expr → ReferenceOf Expr
placeless_reference reference = record { top = reference.top; parts = map placeless_part reference.parts }

abbrev pub placeless_callee : CalleeOf Expr → CalleeOf Expr
placeless_callee (Named reference) = Named (placeless_reference reference)
placeless_callee Der = Der
placeless_callee Initial = Initial
placeless_callee Pure = Pure

abbrev pub placeless_term : TermOf Expr → TermOf Expr
placeless_term term = record term { value = placeless_expr term.value }

abbrev pub placeless_factor : FactorOf Expr → FactorOf Expr
placeless_factor factor = record factor { value = placeless_expr factor.value }

abbrev pub placeless_branch : BranchOf Expr → BranchOf Expr
placeless_branch branch = record { condition = placeless_expr branch.condition; value = placeless_expr branch.value }

abbrev pub placeless_index : IndexOf Expr → IndexOf Expr
placeless_index index = record { name = index.name; range = placeless_option index.range }

abbrev pub placeless_indices : List (IndexOf Expr) → List (IndexOf Expr)
placeless_indices = map placeless_index

abbrev pub placeless_named : List ℕ × Arg → List ℕ × Arg
placeless_named named = (named.0, placeless_arg named.1)

-- ---- equations

abbrev pub equation_nowhere : {K : Type 0} → EquationOf K → EquationOf K
equation_nowhere equation = record equation { place = nowhere }

abbrev pub equations_nowhere : {K : Type 0} → List (EquationOf K) → List (EquationOf K)
equations_nowhere = map equation_nowhere

-- conditions with their equations
abbrev pub branches_nowhere : {K : Type 0} → List (Expr × List (EquationOf K)) → List (Expr × List (EquationOf K))
branches_nowhere = map (λ branch. (placeless_expr branch.0, equations_nowhere branch.1))

abbrev pub equation_kind_nowhere : EquationKind-F EquationKind → EquationKind
equation_kind_nowhere (EquationKind-F.Equal left right) = Equal (placeless_expr left) (placeless_expr right)
equation_kind_nowhere (EquationKind-F.If branches others) = if_equation (branches_nowhere branches) (equations_nowhere others)
equation_kind_nowhere (EquationKind-F.For indices equations) = for_equation (placeless_indices indices) (equations_nowhere equations)
equation_kind_nowhere (EquationKind-F.When branches) = when_equation (branches_nowhere branches)
equation_kind_nowhere (EquationKind-F.Connect one other) = Connect (placeless_reference one) (placeless_reference other)
equation_kind_nowhere (EquationKind-F.Call called args) = call_equation (placeless_reference called) (placeless_args args)

unfoldable pub placeless_equation_kind : EquationKind → EquationKind
placeless_equation_kind = fold-EquationKind EquationKind equation_kind_nowhere

abbrev pub placeless_equation : EquationOf EquationKind → EquationOf EquationKind
placeless_equation equation = record { place = nowhere; what = placeless_equation_kind equation.what }

abbrev pub placeless_equations : List (EquationOf EquationKind) → List (EquationOf EquationKind)
placeless_equations = map placeless_equation

abbrev pub placeless_equation_branch : Expr × List (EquationOf EquationKind) → Expr × List (EquationOf EquationKind)
placeless_equation_branch branch = (placeless_expr branch.0, placeless_equations branch.1)

-- ---- statements

abbrev pub statement_nowhere : {K : Type 0} → StatementOf K → StatementOf K
statement_nowhere statement = record statement { place = nowhere }

abbrev pub statements_nowhere : {K : Type 0} → List (StatementOf K) → List (StatementOf K)
statements_nowhere = map statement_nowhere

-- conditions with their statements
abbrev pub statement_branches_nowhere : {K : Type 0} → List (Expr × List (StatementOf K)) → List (Expr × List (StatementOf K))
statement_branches_nowhere = map (λ branch. (placeless_expr branch.0, statements_nowhere branch.1))

abbrev pub statement_kind_nowhere : StatementKind-F StatementKind → StatementKind
statement_kind_nowhere (StatementKind-F.Assign assigned value) = Assign (placeless_reference assigned) (placeless_expr value)
statement_kind_nowhere (StatementKind-F.Call called args) = call_statement (placeless_reference called) (placeless_args args)
statement_kind_nowhere (StatementKind-F.Outputs outputs called args) = Outputs (placeless_options outputs) (placeless_reference called) (placeless_args args)
statement_kind_nowhere StatementKind-F.Break = Break
statement_kind_nowhere StatementKind-F.Return = Return
statement_kind_nowhere (StatementKind-F.If branches others) = if_statement (statement_branches_nowhere branches) (statements_nowhere others)
statement_kind_nowhere (StatementKind-F.For indices statements) = for_statement (placeless_indices indices) (statements_nowhere statements)
statement_kind_nowhere (StatementKind-F.While condition statements) = while_statement (placeless_expr condition) (statements_nowhere statements)
statement_kind_nowhere (StatementKind-F.When branches) = when_statement (statement_branches_nowhere branches)

unfoldable pub placeless_statement_kind : StatementKind → StatementKind
placeless_statement_kind = fold-StatementKind StatementKind statement_kind_nowhere

abbrev pub placeless_statement : StatementOf StatementKind → StatementOf StatementKind
placeless_statement statement = record { place = nowhere; what = placeless_statement_kind statement.what }

abbrev pub placeless_statements : List (StatementOf StatementKind) → List (StatementOf StatementKind)
placeless_statements = map placeless_statement

abbrev pub placeless_statement_branch : Expr × List (StatementOf StatementKind) → Expr × List (StatementOf StatementKind)
placeless_statement_branch branch = (placeless_expr branch.0, placeless_statements branch.1)
