-- Expressions with their variables replaced, by their parts.
use Rattle.std.proofs.Common.{◌≡◌, ℕ, ℤ, Bool, List, Ok, ap, ◌∙◌}
use Rattle.mo_syntax.specs.Outcome.{Outcome, and_then}
use Rattle.mo_syntax.specs.declared.expr.RelOp.{RelOp}
use Rattle.mo_flat.specs.declared.expr.FlatExpr.{FlatExpr, FlatExpr-F, fold_out-FlatExpr, map-FlatExpr, out-FlatExpr}
use Rattle.mo_flat.specs.declared.expr.FlatExpr.TheVariants.{Whole, Decimal, Str, Truth, Literal, Time, Var, Der, Sum, Product, Power, Call, Relation, Not, All, Any, If, outs-Whole, outs-Decimal, outs-Str, outs-Truth, outs-Literal, outs-Time, outs-Var, outs-Der, outs-Sum, outs-Product, outs-Power, outs-Call, outs-Relation, outs-Not, outs-All, outs-Any, outs-If}
use Rattle.mo_typing.specs.Outcome.{each}
use Rattle.mo_equations.specs.Replacing.{branch_of, marked, replaced_node, with_variables}
use Rattle.mo_equations.specs.steps.Filling.{branch_with, signed_with}
use Rattle.mo_equations.proofs.Eaching.{each_mapped}

module _ (variable : ℕ → Outcome FlatExpr) where
  at_node : (e : FlatExpr) (node : FlatExpr-F FlatExpr) → out-FlatExpr e ≡ node → with_variables variable e ≡ replaced_node variable (map-FlatExpr FlatExpr (Outcome FlatExpr) (with_variables variable) node)
  at_node e node h = fold_out-FlatExpr (Outcome FlatExpr) (replaced_node variable) e ∙ ap (λ n. replaced_node variable (map-FlatExpr FlatExpr (Outcome FlatExpr) (with_variables variable) n)) h

  pub at_Whole : (n : ℤ) → with_variables variable (Whole n) ≡ Ok (Whole n)
  at_Whole n = at_node (Whole n) (FlatExpr-F.Whole n) (outs-Whole n)

  pub at_Decimal : (text : List ℕ) → with_variables variable (Decimal text) ≡ Ok (Decimal text)
  at_Decimal text = at_node (Decimal text) (FlatExpr-F.Decimal text) (outs-Decimal text)

  pub at_Str : (text : List ℕ) → with_variables variable (Str text) ≡ Ok (Str text)
  at_Str text = at_node (Str text) (FlatExpr-F.Str text) (outs-Str text)

  pub at_Truth : (b : Bool) → with_variables variable (Truth b) ≡ Ok (Truth b)
  at_Truth b = at_node (Truth b) (FlatExpr-F.Truth b) (outs-Truth b)

  pub at_Literal : (text : List ℕ) → with_variables variable (Literal text) ≡ Ok (Literal text)
  at_Literal text = at_node (Literal text) (FlatExpr-F.Literal text) (outs-Literal text)

  pub at_Time : with_variables variable Time ≡ Ok Time
  at_Time = at_node Time FlatExpr-F.Time outs-Time

  pub at_Var : (n order : ℕ) → with_variables variable (Var n order) ≡ variable n
  at_Var n order = at_node (Var n order) (FlatExpr-F.Var n order) (outs-Var n order)

  pub at_Der : (inner : FlatExpr) → with_variables variable (Der inner) ≡ and_then (with_variables variable inner) (λ e. Ok (Der e))
  at_Der inner = at_node (Der inner) (FlatExpr-F.Der inner) (outs-Der inner)

  pub at_Not : (inner : FlatExpr) → with_variables variable (Not inner) ≡ and_then (with_variables variable inner) (λ e. Ok (Not e))
  at_Not inner = at_node (Not inner) (FlatExpr-F.Not inner) (outs-Not inner)

  pub at_Power : (a b : FlatExpr) → with_variables variable (Power a b) ≡ and_then (with_variables variable a) (λ a. and_then (with_variables variable b) (λ b. Ok (Power a b)))
  at_Power a b = at_node (Power a b) (FlatExpr-F.Power a b) (outs-Power a b)

  pub at_Relation : (op : RelOp) (a b : FlatExpr) → with_variables variable (Relation op a b) ≡ and_then (with_variables variable a) (λ a. and_then (with_variables variable b) (λ b. Ok (Relation op a b)))
  at_Relation op a b = at_node (Relation op a b) (FlatExpr-F.Relation op a b) (outs-Relation op a b)

  pub at_Sum : (ts : List (Bool × FlatExpr)) → with_variables variable (Sum ts) ≡ and_then (each (signed_with variable) ts) (λ terms. Ok (Sum terms))
  at_Sum ts = at_node (Sum ts) (FlatExpr-F.Sum ts) (outs-Sum ts)
      ∙ ap (λ (o : Outcome (List (Bool × FlatExpr))). and_then o (λ terms. Ok (Sum terms))) (each_mapped marked (λ t. (t.0, with_variables variable t.1)) ts)

  pub at_Product : (ts : List (Bool × FlatExpr)) → with_variables variable (Product ts) ≡ and_then (each (signed_with variable) ts) (λ factors. Ok (Product factors))
  at_Product ts = at_node (Product ts) (FlatExpr-F.Product ts) (outs-Product ts)
      ∙ ap (λ (o : Outcome (List (Bool × FlatExpr))). and_then o (λ factors. Ok (Product factors))) (each_mapped marked (λ t. (t.0, with_variables variable t.1)) ts)

  pub at_All : (parts : List FlatExpr) → with_variables variable (All parts) ≡ and_then (each (with_variables variable) parts) (λ es. Ok (All es))
  at_All parts = at_node (All parts) (FlatExpr-F.All parts) (outs-All parts)
      ∙ ap (λ (o : Outcome (List FlatExpr)). and_then o (λ es. Ok (All es))) (each_mapped (λ part. part) (with_variables variable) parts)

  pub at_Any : (parts : List FlatExpr) → with_variables variable (Any parts) ≡ and_then (each (with_variables variable) parts) (λ es. Ok (Any es))
  at_Any parts = at_node (Any parts) (FlatExpr-F.Any parts) (outs-Any parts)
      ∙ ap (λ (o : Outcome (List FlatExpr)). and_then o (λ es. Ok (Any es))) (each_mapped (λ part. part) (with_variables variable) parts)

  pub at_Call : (function : ℕ) (args : List FlatExpr) → with_variables variable (Call function args) ≡ and_then (each (with_variables variable) args) (λ es. Ok (Call function es))
  at_Call function args = at_node (Call function args) (FlatExpr-F.Call function args) (outs-Call function args)
      ∙ ap (λ (o : Outcome (List FlatExpr)). and_then o (λ es. Ok (Call function es))) (each_mapped (λ part. part) (with_variables variable) args)

  pub at_If : (branches : List (FlatExpr × FlatExpr)) (other : FlatExpr) → with_variables variable (If branches other)
      ≡ and_then (each (branch_with variable) branches) (λ branches. and_then (with_variables variable other) (λ other. Ok (If branches other)))
  at_If branches other = at_node (If branches other) (FlatExpr-F.If branches other) (outs-If branches other)
      ∙ ap (λ (o : Outcome (List (FlatExpr × FlatExpr))). and_then o (λ branches. and_then (with_variables variable other) (λ other. Ok (If branches other))))
      (each_mapped branch_of (λ b. (with_variables variable b.0, with_variables variable b.1)) branches)
