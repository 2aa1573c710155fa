-- The weight of an expression by its parts.
use Rattle.std.proofs.Common.{◌≡◌, ℕ, ◌+◌, Bool, List, [], ◌∷◌, map, refl, ap, ◌∙◌, sym}
use Rattle.std.proofs.lemmas.List.Sums.{sum_by-cons}
use Rattle.std.specs.Prelude.{sum_by}
use Rattle.mo_flat.specs.declared.expr.FlatExpr.{FlatExpr, FlatExpr-F, fold_out-FlatExpr, map-FlatExpr, out-FlatExpr}
use Rattle.mo_flat.specs.declared.expr.FlatExpr.TheVariants.{Sum, Product, Call, All, Any, If, outs-Sum, outs-Product, outs-Call, outs-All, outs-Any, outs-If}
use Rattle.mo_equations.specs.steps.Counting.{weight, weight_node}

mapped : {A B : Type 0} (f : B → ℕ) (h : A → B) (xs : List A) → sum_by f (map h xs) ≡ sum_by (λ x. f (h x)) xs
mapped f h [] = refl
mapped f h (x ∷ xs) = sum_by-cons f (h x) (map h xs) ∙ ap (λ n. f (h x) + n) (mapped f h xs) ∙ sym (sum_by-cons (λ y. f (h y)) x xs)

module _ (variable : ℕ → ℕ) where
  pub weight_of : (e : FlatExpr) (node : FlatExpr-F FlatExpr) → out-FlatExpr e ≡ node → weight variable e ≡ weight_node variable (map-FlatExpr FlatExpr ℕ (weight variable) node)
  weight_of e node h = fold_out-FlatExpr ℕ (weight_node variable) e ∙ ap (λ n. weight_node variable (map-FlatExpr FlatExpr ℕ (weight variable) n)) h

  pub at_Sum : (ts : List (Bool × FlatExpr)) → weight variable (Sum ts) ≡ 1 + sum_by (λ t. weight variable t.1) ts
  at_Sum ts = weight_of (Sum ts) (FlatExpr-F.Sum ts) (outs-Sum ts) ∙ ap (λ n. 1 + n) (mapped (λ t. t.1) (λ t. (t.0, weight variable t.1)) ts)

  pub at_Product : (ts : List (Bool × FlatExpr)) → weight variable (Product ts) ≡ 1 + sum_by (λ t. weight variable t.1) ts
  at_Product ts = weight_of (Product ts) (FlatExpr-F.Product ts) (outs-Product ts) ∙ ap (λ n. 1 + n) (mapped (λ t. t.1) (λ t. (t.0, weight variable t.1)) ts)

  pub at_Call : (f : ℕ) (args : List FlatExpr) → weight variable (Call f args) ≡ 1 + sum_by (weight variable) args
  at_Call f args = weight_of (Call f args) (FlatExpr-F.Call f args) (outs-Call f args) ∙ ap (λ n. 1 + n) (mapped (λ n. n) (weight variable) args)

  pub at_All : (parts : List FlatExpr) → weight variable (All parts) ≡ 1 + sum_by (weight variable) parts
  at_All parts = weight_of (All parts) (FlatExpr-F.All parts) (outs-All parts) ∙ ap (λ n. 1 + n) (mapped (λ n. n) (weight variable) parts)

  pub at_Any : (parts : List FlatExpr) → weight variable (Any parts) ≡ 1 + sum_by (weight variable) parts
  at_Any parts = weight_of (Any parts) (FlatExpr-F.Any parts) (outs-Any parts) ∙ ap (λ n. 1 + n) (mapped (λ n. n) (weight variable) parts)

  pub at_If : (branches : List (FlatExpr × FlatExpr)) (other : FlatExpr) → weight variable (If branches other) ≡ 1 + (sum_by (λ b. weight variable b.0 + weight variable b.1) branches + weight variable other)
  at_If branches other = weight_of (If branches other) (FlatExpr-F.If branches other) (outs-If branches other)
      ∙ ap (λ n. 1 + (n + weight variable other)) (mapped (λ b. b.0 + b.1) (λ b. (weight variable b.0, weight variable b.1)) branches)
