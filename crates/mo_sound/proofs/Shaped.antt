-- Whether an expression is well shaped, by its parts.
use Rattle.std.proofs.Common.{◌≡◌, ℕ, Bool, ◌&&◌, List, [], ◌∷◌, length, map, refl, ap, ◌∙◌, suc}
use Rattle.std.specs.List.{list_all}
use Rattle.std.proofs.lemmas.List.Folds.{list_all-map}
use Rattle.mo_syntax.specs.declared.expr.RelOp.{RelOp}
use Rattle.mo_flat.specs.declared.expr.FlatExpr.{FlatExpr, FlatExpr-F, fold_out-FlatExpr, map-FlatExpr, out-FlatExpr}
use Rattle.mo_flat.specs.declared.expr.FlatExpr.TheVariants.{Sum, Product, Power, Call, Relation, All, Any, If, outs-Sum, outs-Product, outs-Power, outs-Call, outs-Relation, outs-All, outs-Any, outs-If}
use Rattle.mo_flat.specs.declared.model.FlatVar.{FlatVar}
use Rattle.mo_flat.specs.Sound.{begins_multiplied, is_nonempty, is_shaped, shape_node, takes}

length_mapped : {A B : Type 0} (h : A → B) (xs : List A) → length (map h xs) ≡ length xs
length_mapped h [] = refl
length_mapped h (x ∷ xs) = ap suc (length_mapped h xs)

nonempty_mapped : {A B : Type 0} (h : A → B) (xs : List A) → is_nonempty (map h xs) ≡ is_nonempty xs
nonempty_mapped h [] = refl
nonempty_mapped h (x ∷ xs) = refl

multiplied_mapped : {A B : Type 0} (h : A → B) (xs : List (Bool × A)) → begins_multiplied (map (λ x. (x.0, h x.1)) xs) ≡ begins_multiplied xs
multiplied_mapped h [] = refl
multiplied_mapped h (x ∷ xs) = refl

both : (a b c d : Bool) → a ≡ b → c ≡ d → (a && c) ≡ (b && d)
both a b c d p q = rw (p, q) refl

module _ (vars : List FlatVar) where
  shaped_of : (e : FlatExpr) (node : FlatExpr-F FlatExpr) → out-FlatExpr e ≡ node → is_shaped vars e ≡ shape_node vars (map-FlatExpr FlatExpr Bool (is_shaped vars) node)
  shaped_of e node h = fold_out-FlatExpr Bool (shape_node vars) e ∙ ap (λ n. shape_node vars (map-FlatExpr FlatExpr Bool (is_shaped vars) n)) h

  pub at_Sum : (ts : List (Bool × FlatExpr)) → is_shaped vars (Sum ts) ≡ (is_nonempty ts && list_all (λ t. is_shaped vars t.1) ts)
  at_Sum ts = shaped_of (Sum ts) (FlatExpr-F.Sum ts) (outs-Sum ts)
      ∙ both _ _ _ _ (nonempty_mapped (λ (t : Bool × FlatExpr). (t.0, is_shaped vars t.1)) ts) (list_all-map (λ (t : Bool × Bool). t.1) (λ (t : Bool × FlatExpr). (t.0, is_shaped vars t.1)) ts)

  pub at_Product : (ts : List (Bool × FlatExpr)) → is_shaped vars (Product ts) ≡ (begins_multiplied ts && list_all (λ t. is_shaped vars t.1) ts)
  at_Product ts = shaped_of (Product ts) (FlatExpr-F.Product ts) (outs-Product ts)
      ∙ both _ _ _ _ (multiplied_mapped (is_shaped vars) ts) (list_all-map (λ (t : Bool × Bool). t.1) (λ (t : Bool × FlatExpr). (t.0, is_shaped vars t.1)) ts)

  pub at_Power : (a b : FlatExpr) → is_shaped vars (Power a b) ≡ (is_shaped vars a && is_shaped vars b)
  at_Power a b = shaped_of (Power a b) (FlatExpr-F.Power a b) (outs-Power a b)

  pub at_Call : (f : ℕ) (args : List FlatExpr) → is_shaped vars (Call f args) ≡ (takes f (length args) && list_all (is_shaped vars) args)
  at_Call f args = shaped_of (Call f args) (FlatExpr-F.Call f args) (outs-Call f args)
      ∙ both _ _ _ _ (ap (takes f) (length_mapped (is_shaped vars) args)) (list_all-map (λ (b : Bool). b) (is_shaped vars) args)

  pub at_Relation : (op : RelOp) (a b : FlatExpr) → is_shaped vars (Relation op a b) ≡ (is_shaped vars a && is_shaped vars b)
  at_Relation op a b = shaped_of (Relation op a b) (FlatExpr-F.Relation op a b) (outs-Relation op a b)

  pub at_All : (parts : List FlatExpr) → is_shaped vars (All parts) ≡ (is_nonempty parts && list_all (is_shaped vars) parts)
  at_All parts = shaped_of (All parts) (FlatExpr-F.All parts) (outs-All parts) ∙ both _ _ _ _ (nonempty_mapped (is_shaped vars) parts) (list_all-map (λ (b : Bool). b) (is_shaped vars) parts)

  pub at_Any : (parts : List FlatExpr) → is_shaped vars (Any parts) ≡ (is_nonempty parts && list_all (is_shaped vars) parts)
  at_Any parts = shaped_of (Any parts) (FlatExpr-F.Any parts) (outs-Any parts) ∙ both _ _ _ _ (nonempty_mapped (is_shaped vars) parts) (list_all-map (λ (b : Bool). b) (is_shaped vars) parts)

  pub at_If : (branches : List (FlatExpr × FlatExpr)) (other : FlatExpr) →
      is_shaped vars (If branches other) ≡ (is_nonempty branches && list_all (λ b. is_shaped vars b.0 && is_shaped vars b.1) branches && is_shaped vars other)
  at_If branches other = shaped_of (If branches other) (FlatExpr-F.If branches other) (outs-If branches other)
      ∙ three _ _ _ _ (is_shaped vars other) (nonempty_mapped (λ (b : FlatExpr × FlatExpr). (is_shaped vars b.0, is_shaped vars b.1)) branches)
      (list_all-map (λ (b : Bool × Bool). b.0 && b.1) (λ (b : FlatExpr × FlatExpr). (is_shaped vars b.0, is_shaped vars b.1)) branches)
    where
      three : (a b c d e : Bool) → a ≡ b → c ≡ d → (a && c && e) ≡ (b && d && e)
      three a b c d e p q = rw (p, q) refl
