-- What an expression and an equation hold directly: names, expressions and equations. What they hold holds in its turn.
use Rattle.std.specs.Prelude.{List, [], ◌∷◌, ◌++◌, map, flat_map}
use Rattle.mo_syntax.specs.declared.equation.EquationKind.{EquationKind, EquationKind-F, out-EquationKind}
use Rattle.mo_syntax.specs.declared.equation.EquationOf.{EquationOf}
use Rattle.mo_syntax.specs.declared.expr.Arg.{Arg, Arg-F, out-Arg}
use Rattle.mo_syntax.specs.declared.expr.Args.{Args, out-Args}
use Rattle.mo_syntax.specs.declared.expr.CalleeOf.{CalleeOf}
use Rattle.mo_syntax.specs.declared.expr.CalleeOf.TheVariants.{Named}
use Rattle.mo_syntax.specs.declared.expr.Expr.{Expr, out-Expr}
use Rattle.mo_syntax.specs.declared.expr.IndexOf.{IndexOf}
use Rattle.mo_syntax.specs.declared.expr.Node.{Node, Node-F, out-Node}
use Rattle.mo_syntax.specs.declared.expr.ReferenceOf.{ReferenceOf}
use Rattle.mo_places.specs.Written.{At, Valued, Stated}
use Rattle.mo_places.specs.TreeWritten.{Places, in_subs, in_value, places_of_parts}

-- a name with the subscripts of its identifiers
abbrev pub in_name : ReferenceOf Expr → Places
in_name reference = places_of_parts reference.parts ++ flat_map (λ part. in_subs part.subs) reference.parts

abbrev pub in_ranges : List (IndexOf Expr) → Places
in_ranges indices = flat_map (λ index. in_value index.range) indices

-- an argument that is a function is refused before its parts are read
abbrev pub in_argument : Arg → Places
in_argument argument = by (out-Arg argument)
  where
    by : Arg-F Arg Node Args Expr → Places
    by (Arg-F.Value e) = Valued e ∷ []
    by (Arg-F.Partial function named) = []

abbrev pub in_arguments_of_call : Args → Places
in_arguments_of_call args =
    flat_map in_argument (out-Args args).plain ++ flat_map (λ named. in_argument named.1) (out-Args args).named ++ in_ranges (out-Args args).iters

abbrev pub in_callee : CalleeOf Expr → Places
in_callee (Named reference) = in_name reference
in_callee other = []

abbrev pub in_node : Node-F Arg Node Args Expr → Places
in_node (Node-F.Ref reference) = in_name reference
in_node (Node-F.Sum terms) = map (λ term. Valued term.value) terms
in_node (Node-F.Product factors) = map (λ factor. Valued factor.value) factors
in_node (Node-F.Power base dotted exponent) = Valued base ∷ Valued exponent ∷ []
in_node (Node-F.Relation op left right) = Valued left ∷ Valued right ∷ []
in_node (Node-F.Not inner) = Valued inner ∷ []
in_node (Node-F.All operands) = map Valued operands
in_node (Node-F.Any operands) = map Valued operands
in_node (Node-F.Range first step last) = Valued first ∷ in_value step ++ Valued last ∷ []
in_node (Node-F.If branches other) = flat_map (λ branch. Valued branch.condition ∷ Valued branch.value ∷ []) branches ++ Valued other ∷ []
in_node (Node-F.Call callee args) = in_callee callee ++ in_arguments_of_call args
in_node (Node-F.Tuple outputs) = flat_map in_value outputs
in_node (Node-F.Array elements) = map Valued elements
in_node (Node-F.ArrayFor element iterators) = Valued element ∷ in_ranges iterators
in_node (Node-F.Matrix rows) = flat_map (λ row. map Valued row) rows
in_node other = []

-- what an expression holds, its own place first
abbrev pub in_expression : Expr → Places
in_expression e = At (out-Expr e).place ∷ in_node (out-Node (out-Expr e).node)

abbrev pub in_kind : EquationKind-F EquationKind → Places
in_kind (EquationKind-F.Equal left right) = Valued left ∷ Valued right ∷ []
in_kind (EquationKind-F.If branches others) = flat_map (λ branch. Valued branch.0 ∷ map Stated branch.1) branches ++ map Stated others
in_kind (EquationKind-F.For indices equations) = in_ranges indices ++ map Stated equations
in_kind (EquationKind-F.When branches) = flat_map (λ branch. Valued branch.0 ∷ map Stated branch.1) branches
in_kind (EquationKind-F.Connect left right) = in_name left ++ in_name right
in_kind (EquationKind-F.Call called args) = in_name called ++ in_arguments_of_call args

abbrev pub in_equation : EquationOf EquationKind → Places
in_equation equation = At equation.place ∷ in_kind (out-EquationKind equation.what)
