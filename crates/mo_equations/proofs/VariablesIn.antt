-- The variables of an expression by its parts.
use Rattle.std.proofs.Common.{◌≡◌, ℕ, Bool, List, ◌++◌, flat_map, ap, ◌∙◌}
use Rattle.std.proofs.lemmas.List.Folds.{flat_map-map}
use Rattle.mo_syntax.specs.declared.expr.RelOp.{RelOp}
use Rattle.mo_flat.specs.declared.expr.FlatExpr.{FlatExpr, FlatExpr-F, fold_out-FlatExpr, map-FlatExpr, out-FlatExpr}
use Rattle.mo_flat.specs.declared.expr.FlatExpr.TheVariants.{Sum, Product, Power, Call, Relation, All, Any, If, outs-Sum, outs-Product, outs-Power, outs-Call, outs-Relation, outs-All, outs-Any, outs-If}
use Rattle.mo_equations.specs.steps.Counting.{variables_in, variables_node}

pub variables_at : (e : FlatExpr) (node : FlatExpr-F FlatExpr) → out-FlatExpr e ≡ node → variables_in e ≡ variables_node (map-FlatExpr FlatExpr (List ℕ) variables_in node)
variables_at e node h = fold_out-FlatExpr (List ℕ) variables_node e ∙ ap (λ n. variables_node (map-FlatExpr FlatExpr (List ℕ) variables_in n)) h

pub at_Sum : (ts : List (Bool × FlatExpr)) → variables_in (Sum ts) ≡ flat_map (λ t. variables_in t.1) ts
at_Sum ts = variables_at (Sum ts) (FlatExpr-F.Sum ts) (outs-Sum ts) ∙ flat_map-map (λ t. t.1) (λ t. (t.0, variables_in t.1)) ts

pub at_Product : (ts : List (Bool × FlatExpr)) → variables_in (Product ts) ≡ flat_map (λ t. variables_in t.1) ts
at_Product ts = variables_at (Product ts) (FlatExpr-F.Product ts) (outs-Product ts) ∙ flat_map-map (λ t. t.1) (λ t. (t.0, variables_in t.1)) ts

pub at_Power : (a b : FlatExpr) → variables_in (Power a b) ≡ variables_in a ++ variables_in b
at_Power a b = variables_at (Power a b) (FlatExpr-F.Power a b) (outs-Power a b)

pub at_Call : (f : ℕ) (args : List FlatExpr) → variables_in (Call f args) ≡ flat_map variables_in args
at_Call f args = variables_at (Call f args) (FlatExpr-F.Call f args) (outs-Call f args) ∙ flat_map-map (λ n. n) variables_in args

pub at_Relation : (op : RelOp) (a b : FlatExpr) → variables_in (Relation op a b) ≡ variables_in a ++ variables_in b
at_Relation op a b = variables_at (Relation op a b) (FlatExpr-F.Relation op a b) (outs-Relation op a b)

pub at_All : (parts : List FlatExpr) → variables_in (All parts) ≡ flat_map variables_in parts
at_All parts = variables_at (All parts) (FlatExpr-F.All parts) (outs-All parts) ∙ flat_map-map (λ n. n) variables_in parts

pub at_Any : (parts : List FlatExpr) → variables_in (Any parts) ≡ flat_map variables_in parts
at_Any parts = variables_at (Any parts) (FlatExpr-F.Any parts) (outs-Any parts) ∙ flat_map-map (λ n. n) variables_in parts

pub at_If : (branches : List (FlatExpr × FlatExpr)) (other : FlatExpr) → variables_in (If branches other) ≡ flat_map (λ b. variables_in b.0 ++ variables_in b.1) branches ++ variables_in other
at_If branches other = variables_at (If branches other) (FlatExpr-F.If branches other) (outs-If branches other)
    ∙ ap (λ ns. ns ++ variables_in other) (flat_map-map (λ b. b.0 ++ b.1) (λ b. (variables_in b.0, variables_in b.1)) branches)
