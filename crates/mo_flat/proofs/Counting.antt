-- The number of nodes of an expression by its parts.
use Rattle.std.proofs.Common.{◌≡◌, ℕ, ◌+◌, Bool, List, [], ◌∷◌, map, refl, ap, ◌∙◌, sym}
use Rattle.std.proofs.lemmas.List.Sums.{sum_by-cons}
use Rattle.std.specs.Prelude.{sum_by}
use Rattle.mo_flat.specs.declared.expr.FlatExpr.{FlatExpr, FlatExpr-F, fold_out-FlatExpr, map-FlatExpr, out-FlatExpr}
use Rattle.mo_flat.specs.declared.expr.FlatExpr.TheVariants.{Sum, Product, Call, All, Any, If, outs-Sum, outs-Product, outs-Call, outs-All, outs-Any, outs-If}
use Rattle.mo_flat.specs.Nodes.{node_count, count_node}

mapped : {A B : Type 0} (f : B → ℕ) (h : A → B) (xs : List A) → sum_by f (map h xs) ≡ sum_by (λ x. f (h x)) xs
mapped f h [] = refl
mapped f h (x ∷ xs) = sum_by-cons f (h x) (map h xs) ∙ ap (λ n. f (h x) + n) (mapped f h xs) ∙ sym (sum_by-cons (λ y. f (h y)) x xs)

count_at : (e : FlatExpr) (node : FlatExpr-F FlatExpr) → out-FlatExpr e ≡ node → node_count e ≡ count_node (map-FlatExpr FlatExpr ℕ node_count node)
count_at e node h = fold_out-FlatExpr ℕ count_node e ∙ ap (λ n. count_node (map-FlatExpr FlatExpr ℕ node_count n)) h

pub at_Sum : (ts : List (Bool × FlatExpr)) → node_count (Sum ts) ≡ 1 + sum_by (λ t. node_count t.1) ts
at_Sum ts = count_at (Sum ts) (FlatExpr-F.Sum ts) (outs-Sum ts) ∙ ap (λ n. 1 + n) (mapped (λ t. t.1) (λ t. (t.0, node_count t.1)) ts)

pub at_Product : (ts : List (Bool × FlatExpr)) → node_count (Product ts) ≡ 1 + sum_by (λ t. node_count t.1) ts
at_Product ts = count_at (Product ts) (FlatExpr-F.Product ts) (outs-Product ts) ∙ ap (λ n. 1 + n) (mapped (λ t. t.1) (λ t. (t.0, node_count t.1)) ts)

pub at_Call : (f : ℕ) (args : List FlatExpr) → node_count (Call f args) ≡ 1 + sum_by node_count args
at_Call f args = count_at (Call f args) (FlatExpr-F.Call f args) (outs-Call f args) ∙ ap (λ n. 1 + n) (mapped (λ n. n) node_count args)

pub at_All : (parts : List FlatExpr) → node_count (All parts) ≡ 1 + sum_by node_count parts
at_All parts = count_at (All parts) (FlatExpr-F.All parts) (outs-All parts) ∙ ap (λ n. 1 + n) (mapped (λ n. n) node_count parts)

pub at_Any : (parts : List FlatExpr) → node_count (Any parts) ≡ 1 + sum_by node_count parts
at_Any parts = count_at (Any parts) (FlatExpr-F.Any parts) (outs-Any parts) ∙ ap (λ n. 1 + n) (mapped (λ n. n) node_count parts)

pub at_If : (branches : List (FlatExpr × FlatExpr)) (other : FlatExpr) → node_count (If branches other) ≡ 1 + (sum_by (λ b. node_count b.0 + node_count b.1) branches + node_count other)
at_If branches other = count_at (If branches other) (FlatExpr-F.If branches other) (outs-If branches other) ∙ ap (λ n. 1 + (n + node_count other)) (mapped (λ b. b.0 + b.1) (λ b. (node_count b.0, node_count b.1)) branches)
