-- What an expression, an equation or a statement of each form is without its places.
use Rattle.std.proofs.Common.{◌≡◌, ℕ, ℤ, Bool, List, [], ◌∷◌, map, Option, Some, None, refl, ap, ◌∙◌}
use Rattle.mo_syntax.specs.declared.place.Place.{Place}
use Rattle.mo_syntax.specs.declared.expr.Arg.TheShapes as shapes
use Rattle.mo_syntax.specs.declared.expr.BranchOf.{BranchOf}
use Rattle.mo_syntax.specs.declared.expr.FactorOf.{FactorOf}
use Rattle.mo_syntax.specs.declared.expr.IndexOf.{IndexOf}
use Rattle.mo_syntax.specs.declared.expr.PartOf.{PartOf}
use Rattle.mo_syntax.specs.declared.expr.TermOf.{TermOf}
use Rattle.mo_syntax.specs.declared.expr.ReferenceOf.{ReferenceOf}
use Rattle.mo_syntax.specs.declared.expr.RelOp.{RelOp}
use Rattle.mo_syntax.specs.declared.expr.CalleeOf.{CalleeOf}
use Rattle.mo_syntax.specs.declared.expr.CalleeOf.TheVariants.{Named, Der, Initial, Pure}
use Rattle.mo_syntax.specs.declared.expr.Expr.{Expr, fold-Expr, fold_out-Expr}
use Rattle.mo_syntax.specs.declared.expr.Args.{Args, roll-Args, out-Args, fold_out-Args, out-roll-Args}
use Rattle.mo_syntax.specs.declared.expr.Arg.{Arg, fold_out-Arg}
use Rattle.mo_syntax.specs.declared.expr.Arg.TheVariants.{Value, Partial, outs-Value, outs-Partial}
use Rattle.mo_syntax.specs.declared.expr.Node.{Node, fold_out-Node}
use Rattle.mo_syntax.specs.declared.expr.Node.TheVariants.{Whole, Decimal, Str, Truth, Ref, Sum, Product, Power, Relation, Not, All, Any, Range, If, Call, Tuple, Array, ArrayFor, Matrix, EndMark, outs-Whole, outs-Decimal, outs-Str, outs-Truth, outs-Ref, outs-Sum, outs-Product, outs-Power, outs-Relation, outs-Not, outs-All, outs-Any, outs-Range, outs-If, outs-Call, outs-Tuple, outs-Array, outs-ArrayFor, outs-Matrix, outs-EndMark}
use Rattle.mo_syntax.specs.declared.equation.EquationOf.{EquationOf}
use Rattle.mo_syntax.specs.declared.equation.EquationKind.{EquationKind, fold_out-EquationKind}
use Rattle.mo_syntax.specs.declared.equation.EquationKind.TheVariants.{Equal, If as if_equation, For as for_equation, When as when_equation, Connect, Call as call_equation, outs-Equal, outs-If as outs-if_equation, outs-For as outs-for_equation, outs-When as outs-when_equation, outs-Connect, outs-Call as outs-call_equation}
use Rattle.mo_syntax.specs.declared.equation.StatementOf.{StatementOf}
use Rattle.mo_syntax.specs.declared.equation.StatementKind.{StatementKind, fold_out-StatementKind}
use Rattle.mo_syntax.specs.declared.equation.StatementKind.TheVariants.{Assign, Call as call_statement, Outputs, Break, Return, If as if_statement, For as for_statement, While as while_statement, When as when_statement, outs-Assign, outs-Call as outs-call_statement, outs-Outputs, outs-Break, outs-Return, outs-If as outs-if_statement, outs-For as outs-for_statement, outs-While as outs-while_statement, outs-When as outs-when_statement}
use Rattle.mo_grammar.specs.Trees.{expr_at, args_of}
use Rattle.mo_pieces.specs.Pieces.{nowhere}
use Rattle.mo_unparse.specs.Placeless.{node_nowhere, arg_nowhere, args_nowhere, expr_nowhere, part_nowhere, placeless_expr, placeless_node, placeless_arg, placeless_args, placeless_option, placeless_options, placeless_part, placeless_reference, placeless_callee, placeless_term, placeless_factor, placeless_branch, placeless_index, placeless_indices, placeless_named, equation_kind_nowhere, placeless_equation_kind, placeless_equations, placeless_equation_branch, statement_kind_nowhere, placeless_statement_kind, placeless_statements, placeless_statement_branch}

pub map_same : {A B : Type 0} (f g : A → B) → ((a : A) → f a ≡ g a) → (xs : List A) → map f xs ≡ map g xs
map_same f g same [] = refl
map_same f g same (x ∷ xs) = let one = same x in let others = map_same f g same xs in cc

pub map_twice : {A B C : Type 0} (h : A → B) (f : B → C) (g : A → C) → ((a : A) → f (h a) ≡ g a) → (xs : List A) → map f (map h xs) ≡ map g xs
map_twice h f g same [] = refl
map_twice h f g same (x ∷ xs) = let one = same x in let others = map_twice h f g same xs in cc

pub both_same : {A B C : Type 0} (f : A → B → C) (a a' : A) (b b' : B) → a ≡ a' → b ≡ b' → f a b ≡ f a' b'
both_same f a a' b b' p q = cc

pub at_place : (place : Place) (node : Node) → placeless_expr (expr_at place node) ≡ expr_at nowhere (placeless_node node)
unfolding placeless_expr placeless_node
at_place place node = rw (fold_out-Expr Arg Node Args Expr arg_nowhere node_nowhere args_nowhere expr_nowhere (expr_at place node))

option_same : (e : Option Expr) → shapes.former-Node-Tuple-0-at-1.map Expr Expr (fold-Expr Arg Node Args Expr arg_nowhere node_nowhere args_nowhere expr_nowhere) e ≡ placeless_option e
unfolding placeless_expr
option_same None = refl
option_same (Some e) = refl

part_same : (p : PartOf Expr) → part_nowhere (shapes.former-Arg-Partial-0-at-6.map Expr Expr (fold-Expr Arg Node Args Expr arg_nowhere node_nowhere args_nowhere expr_nowhere) p) ≡ placeless_part p
unfolding placeless_expr
part_same p = ap (λ subs. record { name = p.name; place = nowhere; subs = subs }) (map_same _ _ option_same p.subs)

reference_same : (r : ReferenceOf Expr) → map part_nowhere (map (shapes.former-Arg-Partial-0-at-6.map Expr Expr (fold-Expr Arg Node Args Expr arg_nowhere node_nowhere args_nowhere expr_nowhere)) r.parts) ≡ (placeless_reference r).parts
reference_same r = map_twice _ _ _ part_same r.parts

index_same : (i : IndexOf Expr) → shapes.former-Node-ArrayFor-1-at-3.map Expr Expr (fold-Expr Arg Node Args Expr arg_nowhere node_nowhere args_nowhere expr_nowhere) i ≡ placeless_index i
index_same i = ap (λ range. record { name = i.name; range = range }) (option_same i.range)

pub at_Whole : (i : ℤ) → placeless_node (Whole i) ≡ Whole i
unfolding placeless_node placeless_expr placeless_args
at_Whole i = rw (fold_out-Node Arg Node Args Expr arg_nowhere node_nowhere args_nowhere expr_nowhere (Whole i), outs-Whole i)

pub at_Decimal : (text : List ℕ) → placeless_node (Decimal text) ≡ Decimal text
unfolding placeless_node placeless_expr placeless_args
at_Decimal text = rw (fold_out-Node Arg Node Args Expr arg_nowhere node_nowhere args_nowhere expr_nowhere (Decimal text), outs-Decimal text)

pub at_Str : (text : List ℕ) → placeless_node (Str text) ≡ Str text
unfolding placeless_node placeless_expr placeless_args
at_Str text = rw (fold_out-Node Arg Node Args Expr arg_nowhere node_nowhere args_nowhere expr_nowhere (Str text), outs-Str text)

pub at_Truth : (b : Bool) → placeless_node (Truth b) ≡ Truth b
unfolding placeless_node placeless_expr placeless_args
at_Truth b = rw (fold_out-Node Arg Node Args Expr arg_nowhere node_nowhere args_nowhere expr_nowhere (Truth b), outs-Truth b)

pub at_Ref : (r : ReferenceOf Expr) → placeless_node (Ref r) ≡ Ref (placeless_reference r)
unfolding placeless_node placeless_expr placeless_args
at_Ref r = rw (fold_out-Node Arg Node Args Expr arg_nowhere node_nowhere args_nowhere expr_nowhere (Ref r), outs-Ref r) (ap (λ parts. Ref (record { top = r.top; parts = parts })) (reference_same r))

pub at_Sum : (terms : List (TermOf Expr)) → placeless_node (Sum terms) ≡ Sum (map placeless_term terms)
unfolding placeless_node placeless_expr placeless_args
at_Sum terms = rw (fold_out-Node Arg Node Args Expr arg_nowhere node_nowhere args_nowhere expr_nowhere (Sum terms), outs-Sum terms)

pub at_Product : (factors : List (FactorOf Expr)) → placeless_node (Product factors) ≡ Product (map placeless_factor factors)
unfolding placeless_node placeless_expr placeless_args
at_Product factors = rw (fold_out-Node Arg Node Args Expr arg_nowhere node_nowhere args_nowhere expr_nowhere (Product factors), outs-Product factors)

pub at_Power : (base : Expr) (dotted : Bool) (exponent : Expr) → placeless_node (Power base dotted exponent) ≡ Power (placeless_expr base) dotted (placeless_expr exponent)
unfolding placeless_node placeless_expr placeless_args
at_Power base dotted exponent = rw (fold_out-Node Arg Node Args Expr arg_nowhere node_nowhere args_nowhere expr_nowhere (Power base dotted exponent), outs-Power base dotted exponent)

pub at_Relation : (op : RelOp) (left : Expr) (right : Expr) → placeless_node (Relation op left right) ≡ Relation op (placeless_expr left) (placeless_expr right)
unfolding placeless_node placeless_expr placeless_args
at_Relation op left right = rw (fold_out-Node Arg Node Args Expr arg_nowhere node_nowhere args_nowhere expr_nowhere (Relation op left right), outs-Relation op left right)

pub at_Not : (operand : Expr) → placeless_node (Not operand) ≡ Not (placeless_expr operand)
unfolding placeless_node placeless_expr placeless_args
at_Not operand = rw (fold_out-Node Arg Node Args Expr arg_nowhere node_nowhere args_nowhere expr_nowhere (Not operand), outs-Not operand)

pub at_All : (operands : List Expr) → placeless_node (All operands) ≡ All (map placeless_expr operands)
unfolding placeless_node placeless_expr placeless_args
at_All operands = rw (fold_out-Node Arg Node Args Expr arg_nowhere node_nowhere args_nowhere expr_nowhere (All operands), outs-All operands)

pub at_Any : (operands : List Expr) → placeless_node (Any operands) ≡ Any (map placeless_expr operands)
unfolding placeless_node placeless_expr placeless_args
at_Any operands = rw (fold_out-Node Arg Node Args Expr arg_nowhere node_nowhere args_nowhere expr_nowhere (Any operands), outs-Any operands)

pub at_Range : (first : Expr) (step : Option Expr) (last : Expr) → placeless_node (Range first step last) ≡ Range (placeless_expr first) (placeless_option step) (placeless_expr last)
unfolding placeless_node placeless_expr placeless_args
at_Range first step last = rw (fold_out-Node Arg Node Args Expr arg_nowhere node_nowhere args_nowhere expr_nowhere (Range first step last), outs-Range first step last) (ap (λ step. Range (placeless_expr first) step (placeless_expr last)) (option_same step))

pub at_If : (branches : List (BranchOf Expr)) (last : Expr) → placeless_node (If branches last) ≡ If (map placeless_branch branches) (placeless_expr last)
unfolding placeless_node placeless_expr placeless_args
at_If branches last = rw (fold_out-Node Arg Node Args Expr arg_nowhere node_nowhere args_nowhere expr_nowhere (If branches last), outs-If branches last)

callee_same : (callee : CalleeOf Expr) (args : Args) → placeless_node (Call callee args) ≡ Call (placeless_callee callee) (placeless_args args)
unfolding placeless_node placeless_expr placeless_args
callee_same (Named r) args = rw (fold_out-Node Arg Node Args Expr arg_nowhere node_nowhere args_nowhere expr_nowhere (Call (Named r) args), outs-Call (Named r) args) (ap (λ parts. Call (Named (record { top = r.top; parts = parts })) (placeless_args args)) (reference_same r))
callee_same Der args = rw (fold_out-Node Arg Node Args Expr arg_nowhere node_nowhere args_nowhere expr_nowhere (Call Der args), outs-Call Der args)
callee_same Initial args = rw (fold_out-Node Arg Node Args Expr arg_nowhere node_nowhere args_nowhere expr_nowhere (Call Initial args), outs-Call Initial args)
callee_same Pure args = rw (fold_out-Node Arg Node Args Expr arg_nowhere node_nowhere args_nowhere expr_nowhere (Call Pure args), outs-Call Pure args)

pub at_Call : (callee : CalleeOf Expr) (args : Args) → placeless_node (Call callee args) ≡ Call (placeless_callee callee) (placeless_args args)
at_Call callee args = callee_same callee args

pub at_Tuple : (outputs : List (Option Expr)) → placeless_node (Tuple outputs) ≡ Tuple (placeless_options outputs)
unfolding placeless_node placeless_expr placeless_args
at_Tuple outputs = rw (fold_out-Node Arg Node Args Expr arg_nowhere node_nowhere args_nowhere expr_nowhere (Tuple outputs), outs-Tuple outputs) (ap Tuple (map_same _ _ option_same outputs))

pub at_Array : (elements : List Expr) → placeless_node (Array elements) ≡ Array (map placeless_expr elements)
unfolding placeless_node placeless_expr placeless_args
at_Array elements = rw (fold_out-Node Arg Node Args Expr arg_nowhere node_nowhere args_nowhere expr_nowhere (Array elements), outs-Array elements)

pub at_ArrayFor : (element : Expr) (iterators : List (IndexOf Expr)) → placeless_node (ArrayFor element iterators) ≡ ArrayFor (placeless_expr element) (placeless_indices iterators)
unfolding placeless_node placeless_expr placeless_args
at_ArrayFor element iterators = rw (fold_out-Node Arg Node Args Expr arg_nowhere node_nowhere args_nowhere expr_nowhere (ArrayFor element iterators), outs-ArrayFor element iterators) (ap (λ is. ArrayFor (placeless_expr element) is) (map_same _ _ index_same iterators))

pub at_Matrix : (rows : List (List Expr)) → placeless_node (Matrix rows) ≡ Matrix (map (map placeless_expr) rows)
unfolding placeless_node placeless_expr placeless_args
at_Matrix rows = rw (fold_out-Node Arg Node Args Expr arg_nowhere node_nowhere args_nowhere expr_nowhere (Matrix rows), outs-Matrix rows)

pub at_EndMark : placeless_node EndMark ≡ EndMark
unfolding placeless_node placeless_expr placeless_args
at_EndMark = rw (fold_out-Node Arg Node Args Expr arg_nowhere node_nowhere args_nowhere expr_nowhere EndMark, outs-EndMark)

pub at_Value : (value : Expr) → placeless_arg (Value value) ≡ Value (placeless_expr value)
unfolding placeless_arg placeless_expr
at_Value value = rw (fold_out-Arg Arg Node Args Expr arg_nowhere node_nowhere args_nowhere expr_nowhere (Value value), outs-Value value)

pub at_Partial : (function : ReferenceOf Expr) (named : List (List ℕ × Arg)) → placeless_arg (Partial function named) ≡ Partial (placeless_reference function) (map placeless_named named)
unfolding placeless_arg placeless_expr
at_Partial function named = rw (fold_out-Arg Arg Node Args Expr arg_nowhere node_nowhere args_nowhere expr_nowhere (Partial function named), outs-Partial function named) (ap (λ parts. Partial (record { top = function.top; parts = parts }) (map placeless_named named)) (reference_same function))

pub at_Args : (args : Args) → placeless_args args ≡ roll-Args (record { plain = map placeless_arg (out-Args args).plain; named = map placeless_named (out-Args args).named; iters = placeless_indices (out-Args args).iters })
unfolding placeless_arg placeless_expr placeless_args
at_Args args = rw (fold_out-Args Arg Node Args Expr arg_nowhere node_nowhere args_nowhere expr_nowhere args) (ap (λ is. roll-Args (record { plain = map placeless_arg (out-Args args).plain; named = map placeless_named (out-Args args).named; iters = is })) (map_same _ _ index_same (out-Args args).iters))

pub at_args_of : (plain : List Arg) (named : List (List ℕ × Arg)) (iters : List (IndexOf Expr)) → placeless_args (args_of plain named iters) ≡ args_of (map placeless_arg plain) (map placeless_named named) (placeless_indices iters)
at_args_of plain named iters =
    at_Args (args_of plain named iters)
    ∙ ap (λ args. args_of (map placeless_arg args.plain) (map placeless_named args.named) (placeless_indices args.iters)) (out-roll-Args (record { plain = plain; named = named; iters = iters }))

pub at_node : (place : Place) (node : Node) {other : Node} → placeless_node node ≡ other → placeless_expr (expr_at place node) ≡ expr_at nowhere other
at_node place node e = at_place place node ∙ ap (expr_at nowhere) e

-- ---- equations and statements

pub at_Equal : (left : Expr) (right : Expr) → placeless_equation_kind (Equal left right) ≡ Equal (placeless_expr left) (placeless_expr right)
unfolding placeless_equation_kind
at_Equal left right = rw (fold_out-EquationKind EquationKind equation_kind_nowhere (Equal left right), outs-Equal left right)

pub at_if_equation : (branches : List (Expr × List (EquationOf EquationKind))) (others : List (EquationOf EquationKind)) → placeless_equation_kind (if_equation branches others) ≡ if_equation (map placeless_equation_branch branches) (placeless_equations others)
unfolding placeless_equation_kind
at_if_equation branches others = rw (fold_out-EquationKind EquationKind equation_kind_nowhere (if_equation branches others), outs-if_equation branches others) (both_same if_equation _ _ _ _ (map_twice _ _ _ (λ b. ap (λ list. (placeless_expr b.0, list)) (map_twice _ _ _ (λ e. refl) b.1)) branches) (map_twice _ _ _ (λ e. refl) others))

pub at_for_equation : (indices : List (IndexOf Expr)) (equations : List (EquationOf EquationKind)) → placeless_equation_kind (for_equation indices equations) ≡ for_equation (placeless_indices indices) (placeless_equations equations)
unfolding placeless_equation_kind
at_for_equation indices equations = rw (fold_out-EquationKind EquationKind equation_kind_nowhere (for_equation indices equations), outs-for_equation indices equations) (ap (for_equation (placeless_indices indices)) (map_twice _ _ _ (λ e. refl) equations))

pub at_when_equation : (branches : List (Expr × List (EquationOf EquationKind))) → placeless_equation_kind (when_equation branches) ≡ when_equation (map placeless_equation_branch branches)
unfolding placeless_equation_kind
at_when_equation branches = rw (fold_out-EquationKind EquationKind equation_kind_nowhere (when_equation branches), outs-when_equation branches) (ap when_equation (map_twice _ _ _ (λ b. ap (λ list. (placeless_expr b.0, list)) (map_twice _ _ _ (λ e. refl) b.1)) branches))

pub at_Connect : (one : ReferenceOf Expr) (other : ReferenceOf Expr) → placeless_equation_kind (Connect one other) ≡ Connect (placeless_reference one) (placeless_reference other)
unfolding placeless_equation_kind
at_Connect one other = rw (fold_out-EquationKind EquationKind equation_kind_nowhere (Connect one other), outs-Connect one other)

pub at_call_equation : (called : ReferenceOf Expr) (args : Args) → placeless_equation_kind (call_equation called args) ≡ call_equation (placeless_reference called) (placeless_args args)
unfolding placeless_equation_kind
at_call_equation called args = rw (fold_out-EquationKind EquationKind equation_kind_nowhere (call_equation called args), outs-call_equation called args)

pub at_Assign : (assigned : ReferenceOf Expr) (value : Expr) → placeless_statement_kind (Assign assigned value) ≡ Assign (placeless_reference assigned) (placeless_expr value)
unfolding placeless_statement_kind
at_Assign assigned value = rw (fold_out-StatementKind StatementKind statement_kind_nowhere (Assign assigned value), outs-Assign assigned value)

pub at_call_statement : (called : ReferenceOf Expr) (args : Args) → placeless_statement_kind (call_statement called args) ≡ call_statement (placeless_reference called) (placeless_args args)
unfolding placeless_statement_kind
at_call_statement called args = rw (fold_out-StatementKind StatementKind statement_kind_nowhere (call_statement called args), outs-call_statement called args)

pub at_Outputs : (outputs : List (Option Expr)) (called : ReferenceOf Expr) (args : Args) → placeless_statement_kind (Outputs outputs called args) ≡ Outputs (placeless_options outputs) (placeless_reference called) (placeless_args args)
unfolding placeless_statement_kind
at_Outputs outputs called args = rw (fold_out-StatementKind StatementKind statement_kind_nowhere (Outputs outputs called args), outs-Outputs outputs called args)

pub at_Break : placeless_statement_kind Break ≡ Break
unfolding placeless_statement_kind
at_Break = rw (fold_out-StatementKind StatementKind statement_kind_nowhere Break, outs-Break)

pub at_Return : placeless_statement_kind Return ≡ Return
unfolding placeless_statement_kind
at_Return = rw (fold_out-StatementKind StatementKind statement_kind_nowhere Return, outs-Return)

pub at_if_statement : (branches : List (Expr × List (StatementOf StatementKind))) (others : List (StatementOf StatementKind)) → placeless_statement_kind (if_statement branches others) ≡ if_statement (map placeless_statement_branch branches) (placeless_statements others)
unfolding placeless_statement_kind
at_if_statement branches others = rw (fold_out-StatementKind StatementKind statement_kind_nowhere (if_statement branches others), outs-if_statement branches others) (both_same if_statement _ _ _ _ (map_twice _ _ _ (λ b. ap (λ list. (placeless_expr b.0, list)) (map_twice _ _ _ (λ e. refl) b.1)) branches) (map_twice _ _ _ (λ e. refl) others))

pub at_for_statement : (indices : List (IndexOf Expr)) (statements : List (StatementOf StatementKind)) → placeless_statement_kind (for_statement indices statements) ≡ for_statement (placeless_indices indices) (placeless_statements statements)
unfolding placeless_statement_kind
at_for_statement indices statements = rw (fold_out-StatementKind StatementKind statement_kind_nowhere (for_statement indices statements), outs-for_statement indices statements) (ap (for_statement (placeless_indices indices)) (map_twice _ _ _ (λ e. refl) statements))

pub at_while_statement : (condition : Expr) (statements : List (StatementOf StatementKind)) → placeless_statement_kind (while_statement condition statements) ≡ while_statement (placeless_expr condition) (placeless_statements statements)
unfolding placeless_statement_kind
at_while_statement condition statements = rw (fold_out-StatementKind StatementKind statement_kind_nowhere (while_statement condition statements), outs-while_statement condition statements) (ap (while_statement (placeless_expr condition)) (map_twice _ _ _ (λ e. refl) statements))

pub at_when_statement : (branches : List (Expr × List (StatementOf StatementKind))) → placeless_statement_kind (when_statement branches) ≡ when_statement (map placeless_statement_branch branches)
unfolding placeless_statement_kind
at_when_statement branches = rw (fold_out-StatementKind StatementKind statement_kind_nowhere (when_statement branches), outs-when_statement branches) (ap when_statement (map_twice _ _ _ (λ b. ap (λ list. (placeless_expr b.0, list)) (map_twice _ _ _ (λ e. refl) b.1)) branches))
