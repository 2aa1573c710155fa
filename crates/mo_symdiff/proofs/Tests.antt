-- Tests of expressions by their parts.
use Rattle.std.proofs.Common.{◌≡◌, ℕ, Bool, List, [], ◌∷◌, map, refl, ap, ◌∙◌}
use Rattle.std.specs.Prelude.{◌&&◌, ◌||◌}
use Rattle.std.specs.List.{list_all, list_any}
use Rattle.std.proofs.lemmas.List.Folds.{list_all-map}
use Rattle.mo_flat.specs.declared.expr.FlatExpr.{FlatExpr, FlatExpr-F, fold_out-FlatExpr, map-FlatExpr, out-FlatExpr}
use Rattle.mo_flat.specs.declared.expr.FlatExpr.TheVariants.{Sum, Product, Call, All, Any, If, outs-Sum, outs-Product, outs-Call, outs-All, outs-Any, outs-If}
use Rattle.mo_flat.specs.declared.model.FlatVar.{FlatVar}
use Rattle.mo_symdiff.specs.Still.{is_still, still_node, has_given, given_node}

list_any_map : {A B : Type 0} (f : B → Bool) (h : A → B) (xs : List A) → list_any f (map h xs) ≡ list_any (λ x. f (h x)) xs
list_any_map f h [] = refl
list_any_map f h (x ∷ xs) = ap (λ b. f (h x) || b) (list_any_map f h xs)

-- a test by the fold of its node
tested : (node_test : FlatExpr-F Bool → Bool) (test : FlatExpr → Bool) → ((e : FlatExpr) → test e ≡ node_test (map-FlatExpr FlatExpr Bool test (out-FlatExpr e))) →
    (e : FlatExpr) (node : FlatExpr-F FlatExpr) → out-FlatExpr e ≡ node → test e ≡ node_test (map-FlatExpr FlatExpr Bool test node)
tested node_test test folds e node h = folds e ∙ ap (λ n. node_test (map-FlatExpr FlatExpr Bool test n)) h

pub still_at : (vars : List FlatVar) (e : FlatExpr) (node : FlatExpr-F FlatExpr) → out-FlatExpr e ≡ node → is_still vars e ≡ still_node vars (map-FlatExpr FlatExpr Bool (is_still vars) node)
still_at vars = tested (still_node vars) (is_still vars) (fold_out-FlatExpr Bool (still_node vars))

pub given_at : (vars : List FlatVar) (e : FlatExpr) (node : FlatExpr-F FlatExpr) → out-FlatExpr e ≡ node → has_given vars e ≡ given_node vars (map-FlatExpr FlatExpr Bool (has_given vars) node)
given_at vars = tested (given_node vars) (has_given vars) (fold_out-FlatExpr Bool (given_node vars))

pub still_Sum : (vars : List FlatVar) (ts : List (Bool × FlatExpr)) → is_still vars (Sum ts) ≡ list_all (λ t. is_still vars t.1) ts
still_Sum vars ts = still_at vars (Sum ts) (FlatExpr-F.Sum ts) (outs-Sum ts) ∙ list_all-map (λ t. t.1) (λ t. (t.0, is_still vars t.1)) ts

pub still_Product : (vars : List FlatVar) (ts : List (Bool × FlatExpr)) → is_still vars (Product ts) ≡ list_all (λ t. is_still vars t.1) ts
still_Product vars ts = still_at vars (Product ts) (FlatExpr-F.Product ts) (outs-Product ts) ∙ list_all-map (λ t. t.1) (λ t. (t.0, is_still vars t.1)) ts

pub still_Call : (vars : List FlatVar) (f : ℕ) (es : List FlatExpr) → is_still vars (Call f es) ≡ list_all (is_still vars) es
still_Call vars f es = still_at vars (Call f es) (FlatExpr-F.Call f es) (outs-Call f es) ∙ list_all-map (λ b. b) (is_still vars) es

pub still_All : (vars : List FlatVar) (es : List FlatExpr) → is_still vars (All es) ≡ list_all (is_still vars) es
still_All vars es = still_at vars (All es) (FlatExpr-F.All es) (outs-All es) ∙ list_all-map (λ b. b) (is_still vars) es

pub still_Any : (vars : List FlatVar) (es : List FlatExpr) → is_still vars (Any es) ≡ list_all (is_still vars) es
still_Any vars es = still_at vars (Any es) (FlatExpr-F.Any es) (outs-Any es) ∙ list_all-map (λ b. b) (is_still vars) es

pub still_If : (vars : List FlatVar) (bs : List (FlatExpr × FlatExpr)) (o : FlatExpr) → is_still vars (If bs o) ≡ (list_all (λ b. is_still vars b.1) bs && is_still vars o)
still_If vars bs o = still_at vars (If bs o) (FlatExpr-F.If bs o) (outs-If bs o) ∙ ap (λ b. b && is_still vars o) (list_all-map (λ b. b.1) (λ b. (is_still vars b.0, is_still vars b.1)) bs)

pub given_Sum : (vars : List FlatVar) (ts : List (Bool × FlatExpr)) → has_given vars (Sum ts) ≡ list_any (λ t. has_given vars t.1) ts
given_Sum vars ts = given_at vars (Sum ts) (FlatExpr-F.Sum ts) (outs-Sum ts) ∙ list_any_map (λ t. t.1) (λ t. (t.0, has_given vars t.1)) ts

pub given_Product : (vars : List FlatVar) (ts : List (Bool × FlatExpr)) → has_given vars (Product ts) ≡ list_any (λ t. has_given vars t.1) ts
given_Product vars ts = given_at vars (Product ts) (FlatExpr-F.Product ts) (outs-Product ts) ∙ list_any_map (λ t. t.1) (λ t. (t.0, has_given vars t.1)) ts

pub given_Call : (vars : List FlatVar) (f : ℕ) (es : List FlatExpr) → has_given vars (Call f es) ≡ list_any (has_given vars) es
given_Call vars f es = given_at vars (Call f es) (FlatExpr-F.Call f es) (outs-Call f es) ∙ list_any_map (λ b. b) (has_given vars) es

pub given_All : (vars : List FlatVar) (es : List FlatExpr) → has_given vars (All es) ≡ list_any (has_given vars) es
given_All vars es = given_at vars (All es) (FlatExpr-F.All es) (outs-All es) ∙ list_any_map (λ b. b) (has_given vars) es

pub given_Any : (vars : List FlatVar) (es : List FlatExpr) → has_given vars (Any es) ≡ list_any (has_given vars) es
given_Any vars es = given_at vars (Any es) (FlatExpr-F.Any es) (outs-Any es) ∙ list_any_map (λ b. b) (has_given vars) es

pub given_If : (vars : List FlatVar) (bs : List (FlatExpr × FlatExpr)) (o : FlatExpr) → has_given vars (If bs o) ≡ (list_any (λ b. has_given vars b.1) bs || has_given vars o)
given_If vars bs o = given_at vars (If bs o) (FlatExpr-F.If bs o) (outs-If bs o) ∙ ap (λ b. b || has_given vars o) (list_any_map (λ b. b.1) (λ b. (has_given vars b.0, has_given vars b.1)) bs)
