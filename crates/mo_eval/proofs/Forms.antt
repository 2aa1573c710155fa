-- What resolving makes of each form of expression.
use Rattle.std.proofs.Common.{◌≡◌, ℕ, ℤ, Bool, ◌&&◌, List, [], ◌∷◌, map, Option, Some, None, refl, ap, sym, ◌∙◌}
use Rattle.std.specs.Prelude.{if◌then◌else◌}
use Rattle.std.specs.Option.{option_map}
use Rattle.mo_syntax.specs.Outcome.{breaks}
use Rattle.mo_syntax.specs.declared.expr.Arg.{Arg, Arg-F, para-roll-Arg}
use Rattle.mo_syntax.specs.declared.expr.Arg.TheVariants.{Value, Partial, rolls-Value, rolls-Partial}
use Rattle.mo_syntax.specs.declared.expr.Args.{Args, out-Args, roll-out-Args, para-roll-Args}
use Rattle.mo_syntax.specs.declared.expr.BranchOf.{BranchOf}
use Rattle.mo_syntax.specs.declared.expr.CalleeOf.{CalleeOf}
use Rattle.mo_syntax.specs.declared.expr.CalleeOf.TheVariants.{Named, Der, Initial, Pure}
use Rattle.mo_syntax.specs.declared.expr.Expr.{Expr, out-Expr, roll-Expr, roll-out-Expr, para-roll-Expr}
use Rattle.mo_syntax.specs.declared.expr.FactorOf.{FactorOf}
use Rattle.mo_syntax.specs.declared.expr.IndexOf.{IndexOf}
use Rattle.mo_syntax.specs.declared.expr.Node.{Node, Node-F, para-roll-Node}
use Rattle.mo_syntax.specs.declared.expr.Node.TheVariants.{Whole, Decimal, Str, Truth, Ref, Sum, Product, Power, Relation, Not, All, Any, Range, If, Call, Tuple, Array, ArrayFor, Matrix, EndMark}
use Rattle.mo_syntax.specs.declared.expr.Node.TheVariants.{rolls-Whole, rolls-Decimal, rolls-Str, rolls-Truth, rolls-Ref, rolls-Sum, rolls-Product, rolls-Power, rolls-Relation, rolls-Not, rolls-All, rolls-Any, rolls-Range, rolls-If, rolls-Call, rolls-Tuple, rolls-Array, rolls-ArrayFor, rolls-Matrix, rolls-EndMark}
use Rattle.mo_syntax.specs.declared.expr.ReferenceOf.{ReferenceOf}
use Rattle.mo_syntax.specs.declared.expr.RelOp.{RelOp}
use Rattle.mo_syntax.specs.declared.expr.TermOf.{TermOf}
use Rattle.mo_syntax.specs.declared.place.Place.{Place}
use Rattle.mo_flat.specs.declared.array.ArrayExpr.{ArrayExpr}
use Rattle.mo_scope.specs.Rows.{Table}
use Rattle.mo_scope.specs.Frames.{Scope}
use Rattle.mo_eval.specs.Virtuals.{Ask, Making, make_from}
use Rattle.mo_syntax.specs.declared.rules.TheConstants.{OUTSIDE_PROFILE}
use Rattle.mo_values.specs.declared.context.Context.{Context}
use Rattle.mo_eval.specs.Contexts.{Part}
use Rattle.mo_eval.specs.steps.Parts.{Former, made_below, made_arguments, made_argument, as_part, as_term, as_factor, as_branch, as_reference, as_callee}
use Rattle.mo_eval.specs.Resolving.{made, made_node, made_expr, argument_of, arguments_of, is_empty, all_arguments}

maps_alike : {A B : Type 0} (f g : A → B) → ((x : A) → f x ≡ g x) → (xs : List A) → map f xs ≡ map g xs
maps_alike f g same [] = refl
maps_alike f g same (x ∷ xs) = ap (λ y. y ∷ map f xs) (same x) ∙ ap (λ ys. g x ∷ ys) (maps_alike f g same xs)

options_alike : {A B : Type 0} (f g : Option A → B) → f None ≡ g None → ((x : A) → f (Some x) ≡ g (Some x)) → (o : Option A) → f o ≡ g o
options_alike f g none some None = none
options_alike f g none some (Some x) = some x

nothing_mapped : {A B C D T : Type 0} (f : A → B) (g : C → D) (xs : List A) (ys : List C) (t e : T) →
    (if is_empty (map f xs) && is_empty (map g ys) then t else e) ≡ (if is_empty xs && is_empty ys then t else e)
nothing_mapped f g [] [] t e = refl
nothing_mapped f g [] (y ∷ ys) t e = refl
nothing_mapped f g (x ∷ xs) ys t e = refl

module _ (table : Table) (ask : Ask) (scope : Scope) where
  pub at_expr : (place : Place) (node : Node) → made table ask scope (roll-Expr (record { place = place; node = node })) ≡ made_below table ask scope node place
  at_expr place node =
      para-roll-Expr (Option Part) Former (Option (List Part)) (Context → Making ArrayExpr) argument_of (made_node table ask scope) arguments_of made_expr (record { place = place; node = node })

  -- an expression is resolved as its node is
  pub made_expression : (e : Expr) → made table ask scope e ≡ made_below table ask scope (out-Expr e).node (out-Expr e).place
  made_expression e = ap (made table ask scope) (sym (roll-out-Expr e)) ∙ at_expr (out-Expr e).place (out-Expr e).node

  pub at_Whole : (n : ℤ) → made_below table ask scope (Whole n) ≡ made_node table ask scope (Node-F.Whole n)
  at_Whole n = ap (made_below table ask scope) (sym (rolls-Whole n))
      ∙ para-roll-Node (Option Part) Former (Option (List Part)) (Context → Making ArrayExpr) argument_of (made_node table ask scope) arguments_of made_expr (Node-F.Whole n)

  pub at_Decimal : (text : List ℕ) → made_below table ask scope (Decimal text) ≡ made_node table ask scope (Node-F.Decimal text)
  at_Decimal text = ap (made_below table ask scope) (sym (rolls-Decimal text))
      ∙ para-roll-Node (Option Part) Former (Option (List Part)) (Context → Making ArrayExpr) argument_of (made_node table ask scope) arguments_of made_expr (Node-F.Decimal text)

  pub at_Str : (text : List ℕ) → made_below table ask scope (Str text) ≡ made_node table ask scope (Node-F.Str text)
  at_Str text = ap (made_below table ask scope) (sym (rolls-Str text))
      ∙ para-roll-Node (Option Part) Former (Option (List Part)) (Context → Making ArrayExpr) argument_of (made_node table ask scope) arguments_of made_expr (Node-F.Str text)

  pub at_Truth : (b : Bool) → made_below table ask scope (Truth b) ≡ made_node table ask scope (Node-F.Truth b)
  at_Truth b = ap (made_below table ask scope) (sym (rolls-Truth b))
      ∙ para-roll-Node (Option Part) Former (Option (List Part)) (Context → Making ArrayExpr) argument_of (made_node table ask scope) arguments_of made_expr (Node-F.Truth b)

  pub at_Ref : (reference : ReferenceOf Expr) → made_below table ask scope (Ref reference) ≡ made_node table ask scope (Node-F.Ref (as_reference (as_part table ask scope) reference))
  at_Ref reference = ap (made_below table ask scope) (sym (rolls-Ref reference))
      ∙ para-roll-Node (Option Part) Former (Option (List Part)) (Context → Making ArrayExpr) argument_of (made_node table ask scope) arguments_of made_expr (Node-F.Ref reference)
      ∙ ap (λ parts. made_node table ask scope (Node-F.Ref (record { top = reference.top; parts = parts })))
      (maps_alike _ _ (λ identifier. ap (λ subs. record { name = identifier.name; place = identifier.place; subs = subs }) (maps_alike _ _ (options_alike _ _ refl (λ e. refl)) identifier.subs)) reference.parts)

  pub at_Sum : (terms : List (TermOf Expr)) → made_below table ask scope (Sum terms) ≡ made_node table ask scope (Node-F.Sum (map (as_term (as_part table ask scope)) terms))
  at_Sum terms = ap (made_below table ask scope) (sym (rolls-Sum terms))
      ∙ para-roll-Node (Option Part) Former (Option (List Part)) (Context → Making ArrayExpr) argument_of (made_node table ask scope) arguments_of made_expr (Node-F.Sum terms)

  pub at_Product : (factors : List (FactorOf Expr)) → made_below table ask scope (Product factors) ≡ made_node table ask scope (Node-F.Product (map (as_factor (as_part table ask scope)) factors))
  at_Product factors = ap (made_below table ask scope) (sym (rolls-Product factors))
      ∙ para-roll-Node (Option Part) Former (Option (List Part)) (Context → Making ArrayExpr) argument_of (made_node table ask scope) arguments_of made_expr (Node-F.Product factors)

  pub at_Power : (base : Expr) (dotted : Bool) (exponent : Expr) → made_below table ask scope (Power base dotted exponent) ≡ made_node table ask scope (Node-F.Power (as_part table ask scope base) dotted (as_part table ask scope exponent))
  at_Power base dotted exponent = ap (made_below table ask scope) (sym (rolls-Power base dotted exponent))
      ∙ para-roll-Node (Option Part) Former (Option (List Part)) (Context → Making ArrayExpr) argument_of (made_node table ask scope) arguments_of made_expr (Node-F.Power base dotted exponent)

  pub at_Relation : (op : RelOp) (left right : Expr) → made_below table ask scope (Relation op left right) ≡ made_node table ask scope (Node-F.Relation op (as_part table ask scope left) (as_part table ask scope right))
  at_Relation op left right = ap (made_below table ask scope) (sym (rolls-Relation op left right))
      ∙ para-roll-Node (Option Part) Former (Option (List Part)) (Context → Making ArrayExpr) argument_of (made_node table ask scope) arguments_of made_expr (Node-F.Relation op left right)

  pub at_Not : (inner : Expr) → made_below table ask scope (Not inner) ≡ made_node table ask scope (Node-F.Not (as_part table ask scope inner))
  at_Not inner = ap (made_below table ask scope) (sym (rolls-Not inner))
      ∙ para-roll-Node (Option Part) Former (Option (List Part)) (Context → Making ArrayExpr) argument_of (made_node table ask scope) arguments_of made_expr (Node-F.Not inner)

  pub at_All : (operands : List Expr) → made_below table ask scope (All operands) ≡ made_node table ask scope (Node-F.All (map (as_part table ask scope) operands))
  at_All operands = ap (made_below table ask scope) (sym (rolls-All operands))
      ∙ para-roll-Node (Option Part) Former (Option (List Part)) (Context → Making ArrayExpr) argument_of (made_node table ask scope) arguments_of made_expr (Node-F.All operands)

  pub at_Any : (operands : List Expr) → made_below table ask scope (Any operands) ≡ made_node table ask scope (Node-F.Any (map (as_part table ask scope) operands))
  at_Any operands = ap (made_below table ask scope) (sym (rolls-Any operands))
      ∙ para-roll-Node (Option Part) Former (Option (List Part)) (Context → Making ArrayExpr) argument_of (made_node table ask scope) arguments_of made_expr (Node-F.Any operands)

  pub at_Range : (first : Expr) (step : Option Expr) (last : Expr) → made_below table ask scope (Range first step last) ≡ made_node table ask scope (Node-F.Range (as_part table ask scope first) (option_map (as_part table ask scope) step) (as_part table ask scope last))
  at_Range first None last = ap (made_below table ask scope) (sym (rolls-Range first None last))
      ∙ para-roll-Node (Option Part) Former (Option (List Part)) (Context → Making ArrayExpr) argument_of (made_node table ask scope) arguments_of made_expr (Node-F.Range first None last)
  at_Range first (Some step) last = ap (made_below table ask scope) (sym (rolls-Range first (Some step) last))
      ∙ para-roll-Node (Option Part) Former (Option (List Part)) (Context → Making ArrayExpr) argument_of (made_node table ask scope) arguments_of made_expr (Node-F.Range first (Some step) last)

  pub at_If : (branches : List (BranchOf Expr)) (other : Expr) → made_below table ask scope (If branches other) ≡ made_node table ask scope (Node-F.If (map (as_branch (as_part table ask scope)) branches) (as_part table ask scope other))
  at_If branches other = ap (made_below table ask scope) (sym (rolls-If branches other))
      ∙ para-roll-Node (Option Part) Former (Option (List Part)) (Context → Making ArrayExpr) argument_of (made_node table ask scope) arguments_of made_expr (Node-F.If branches other)

  pub at_Call : (callee : CalleeOf Expr) (arguments : Args) → made_below table ask scope (Call callee arguments) ≡ made_node table ask scope (Node-F.Call (as_callee (as_part table ask scope) callee) (arguments, made_arguments table ask scope arguments))
  at_Call (Named reference) arguments = ap (made_below table ask scope) (sym (rolls-Call (Named reference) arguments))
      ∙ para-roll-Node (Option Part) Former (Option (List Part)) (Context → Making ArrayExpr) argument_of (made_node table ask scope) arguments_of made_expr (Node-F.Call (Named reference) arguments)
      ∙ ap (λ parts. made_node table ask scope (Node-F.Call (Named (record { top = reference.top; parts = parts })) (arguments, made_arguments table ask scope arguments)))
      (maps_alike _ _ (λ identifier. ap (λ subs. record { name = identifier.name; place = identifier.place; subs = subs }) (maps_alike _ _ (options_alike _ _ refl (λ e. refl)) identifier.subs)) reference.parts)
  at_Call Der arguments = ap (made_below table ask scope) (sym (rolls-Call Der arguments))
      ∙ para-roll-Node (Option Part) Former (Option (List Part)) (Context → Making ArrayExpr) argument_of (made_node table ask scope) arguments_of made_expr (Node-F.Call Der arguments)
  at_Call Initial arguments = ap (made_below table ask scope) (sym (rolls-Call Initial arguments))
      ∙ para-roll-Node (Option Part) Former (Option (List Part)) (Context → Making ArrayExpr) argument_of (made_node table ask scope) arguments_of made_expr (Node-F.Call Initial arguments)
  at_Call Pure arguments = ap (made_below table ask scope) (sym (rolls-Call Pure arguments))
      ∙ para-roll-Node (Option Part) Former (Option (List Part)) (Context → Making ArrayExpr) argument_of (made_node table ask scope) arguments_of made_expr (Node-F.Call Pure arguments)

  pub at_Array : (elements : List Expr) → made_below table ask scope (Array elements) ≡ made_node table ask scope (Node-F.Array (map (as_part table ask scope) elements))
  at_Array elements = ap (made_below table ask scope) (sym (rolls-Array elements))
      ∙ para-roll-Node (Option Part) Former (Option (List Part)) (Context → Making ArrayExpr) argument_of (made_node table ask scope) arguments_of made_expr (Node-F.Array elements)

  pub at_EndMark : made_below table ask scope EndMark ≡ made_node table ask scope Node-F.EndMark
  at_EndMark = ap (made_below table ask scope) (sym rolls-EndMark)
      ∙ para-roll-Node (Option Part) Former (Option (List Part)) (Context → Making ArrayExpr) argument_of (made_node table ask scope) arguments_of made_expr Node-F.EndMark

  pub at_Tuple : (outputs : List (Option Expr)) (place : Place) (context : Context) → made_below table ask scope (Tuple outputs) place context ≡ make_from (breaks OUTSIDE_PROFILE place)
  at_Tuple outputs place context = ap (λ node. made_below table ask scope node place context) (sym (rolls-Tuple outputs))
      ∙ ap (λ (f : Former). f place context) (para-roll-Node (Option Part) Former (Option (List Part)) (Context → Making ArrayExpr) argument_of (made_node table ask scope) arguments_of made_expr (Node-F.Tuple outputs))

  pub at_ArrayFor : (element : Expr) (iterators : List (IndexOf Expr)) (place : Place) (context : Context) → made_below table ask scope (ArrayFor element iterators) place context ≡ make_from (breaks OUTSIDE_PROFILE place)
  at_ArrayFor element iterators place context = ap (λ node. made_below table ask scope node place context) (sym (rolls-ArrayFor element iterators))
      ∙ ap (λ (f : Former). f place context) (para-roll-Node (Option Part) Former (Option (List Part)) (Context → Making ArrayExpr) argument_of (made_node table ask scope) arguments_of made_expr (Node-F.ArrayFor element iterators))

  pub at_Matrix : (rows : List (List Expr)) (place : Place) (context : Context) → made_below table ask scope (Matrix rows) place context ≡ make_from (breaks OUTSIDE_PROFILE place)
  at_Matrix rows place context = ap (λ node. made_below table ask scope node place context) (sym (rolls-Matrix rows))
      ∙ ap (λ (f : Former). f place context) (para-roll-Node (Option Part) Former (Option (List Part)) (Context → Making ArrayExpr) argument_of (made_node table ask scope) arguments_of made_expr (Node-F.Matrix rows))

  -- the arguments of a call, where none has a name and none is iterated
  pub at_Args : (arguments : Args) →
      made_arguments table ask scope arguments ≡ (if is_empty (out-Args arguments).named && is_empty (out-Args arguments).iters then all_arguments (map (λ a. (a, made_argument table ask scope a)) (out-Args arguments).plain) else None)
  at_Args arguments = ap (made_arguments table ask scope) (sym (roll-out-Args arguments))
      ∙ (para-roll-Args (Option Part) Former (Option (List Part)) (Context → Making ArrayExpr) argument_of (made_node table ask scope) arguments_of made_expr (out-Args arguments)
      ∙ nothing_mapped _ _ (out-Args arguments).named (out-Args arguments).iters (all_arguments (map (λ a. (a, made_argument table ask scope a)) (out-Args arguments).plain)) None)

  pub at_Value : (e : Expr) → made_argument table ask scope (Value e) ≡ Some (as_part table ask scope e)
  at_Value e = ap (made_argument table ask scope) (sym (rolls-Value e))
      ∙ para-roll-Arg (Option Part) Former (Option (List Part)) (Context → Making ArrayExpr) argument_of (made_node table ask scope) arguments_of made_expr (Arg-F.Value e)

  pub at_Partial : (function : ReferenceOf Expr) (named : List (List ℕ × Arg)) → made_argument table ask scope (Partial function named) ≡ None
  at_Partial function named = ap (made_argument table ask scope) (sym (rolls-Partial function named))
      ∙ para-roll-Arg (Option Part) Former (Option (List Part)) (Context → Making ArrayExpr) argument_of (made_node table ask scope) arguments_of made_expr (Arg-F.Partial function named)
