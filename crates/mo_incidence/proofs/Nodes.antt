-- The tests and entries of an expression by its parts.
use Rattle.std.proofs.Common.{◌≡◌, ℕ, Bool, false, List, ◌++◌, ap, ◌∙◌}
use Rattle.std.specs.Prelude.{◌&&◌, flat_map}
use Rattle.std.specs.List.{list_all}
use Rattle.std.proofs.lemmas.List.Folds.{list_all-map, flat_map-map}
use Rattle.mo_syntax.specs.declared.expr.RelOp.{RelOp}
use Rattle.mo_flat.specs.declared.expr.FlatExpr.{FlatExpr, FlatExpr-F, fold_out-FlatExpr, map-FlatExpr, out-FlatExpr}
use Rattle.mo_flat.specs.declared.expr.FlatExpr.TheVariants.{Sum, Product, Power, Call, Relation, All, Any, If, outs-Sum, outs-Product, outs-Power, outs-Call, outs-Relation, outs-All, outs-Any, outs-If}
use Rattle.mo_flat.specs.declared.model.FlatVar.{FlatVar}
use Rattle.mo_symdiff.specs.Orders.{apart_in, apart_node}
use Rattle.mo_incidence.specs.steps.Gathered.{found, found_node}

apart_at : (vars : List FlatVar) (e : FlatExpr) (node : FlatExpr-F FlatExpr) (around : Bool) → out-FlatExpr e ≡ node → apart_in vars e around ≡ apart_node vars (map-FlatExpr FlatExpr (Bool → Bool) (apart_in vars) node) around
apart_at vars e node around h = ap (λ f. f around) (fold_out-FlatExpr (Bool → Bool) (apart_node vars) e) ∙ ap (λ n. apart_node vars (map-FlatExpr FlatExpr (Bool → Bool) (apart_in vars) n) around) h

found_where : (places : List ℕ) (e : FlatExpr) (node : FlatExpr-F FlatExpr) (around : ℕ) → out-FlatExpr e ≡ node → found places e around ≡ found_node places (map-FlatExpr FlatExpr (ℕ → List (ℕ × ℕ)) (found places) node) around
found_where places e node around h = ap (λ f. f around) (fold_out-FlatExpr (ℕ → List (ℕ × ℕ)) (found_node places) e) ∙ ap (λ n. found_node places (map-FlatExpr FlatExpr (ℕ → List (ℕ × ℕ)) (found places) n) around) h

pub apart_Sum : (vars : List FlatVar) (ts : List (Bool × FlatExpr)) (around : Bool) → apart_in vars (Sum ts) around ≡ list_all (λ t. apart_in vars t.1 around) ts
apart_Sum vars ts around = apart_at vars (Sum ts) (FlatExpr-F.Sum ts) around (outs-Sum ts) ∙ list_all-map (λ t. t.1 around) (λ t. (t.0, apart_in vars t.1)) ts

pub found_Sum : (places : List ℕ) (ts : List (Bool × FlatExpr)) (around : ℕ) → found places (Sum ts) around ≡ flat_map (λ t. found places t.1 around) ts
found_Sum places ts around = found_where places (Sum ts) (FlatExpr-F.Sum ts) around (outs-Sum ts) ∙ flat_map-map (λ t. t.1 around) (λ t. (t.0, found places t.1)) ts

pub apart_Product : (vars : List FlatVar) (ts : List (Bool × FlatExpr)) (around : Bool) → apart_in vars (Product ts) around ≡ list_all (λ t. apart_in vars t.1 around) ts
apart_Product vars ts around = apart_at vars (Product ts) (FlatExpr-F.Product ts) around (outs-Product ts) ∙ list_all-map (λ t. t.1 around) (λ t. (t.0, apart_in vars t.1)) ts

pub found_Product : (places : List ℕ) (ts : List (Bool × FlatExpr)) (around : ℕ) → found places (Product ts) around ≡ flat_map (λ t. found places t.1 around) ts
found_Product places ts around = found_where places (Product ts) (FlatExpr-F.Product ts) around (outs-Product ts) ∙ flat_map-map (λ t. t.1 around) (λ t. (t.0, found places t.1)) ts

pub apart_Call : (vars : List FlatVar) (f : ℕ) (es : List FlatExpr) (around : Bool) → apart_in vars (Call f es) around ≡ list_all (λ e. apart_in vars e around) es
apart_Call vars f es around = apart_at vars (Call f es) (FlatExpr-F.Call f es) around (outs-Call f es) ∙ list_all-map (λ t. t around) (apart_in vars) es

pub found_Call : (places : List ℕ) (f : ℕ) (es : List FlatExpr) (around : ℕ) → found places (Call f es) around ≡ flat_map (λ e. found places e around) es
found_Call places f es around = found_where places (Call f es) (FlatExpr-F.Call f es) around (outs-Call f es) ∙ flat_map-map (λ t. t around) (found places) es

pub apart_All : (vars : List FlatVar) (es : List FlatExpr) (around : Bool) → apart_in vars (All es) around ≡ list_all (λ e. apart_in vars e around) es
apart_All vars es around = apart_at vars (All es) (FlatExpr-F.All es) around (outs-All es) ∙ list_all-map (λ t. t around) (apart_in vars) es

pub found_All : (places : List ℕ) (es : List FlatExpr) (around : ℕ) → found places (All es) around ≡ flat_map (λ e. found places e around) es
found_All places es around = found_where places (All es) (FlatExpr-F.All es) around (outs-All es) ∙ flat_map-map (λ t. t around) (found places) es

pub apart_Any : (vars : List FlatVar) (es : List FlatExpr) (around : Bool) → apart_in vars (Any es) around ≡ list_all (λ e. apart_in vars e around) es
apart_Any vars es around = apart_at vars (Any es) (FlatExpr-F.Any es) around (outs-Any es) ∙ list_all-map (λ t. t around) (apart_in vars) es

pub found_Any : (places : List ℕ) (es : List FlatExpr) (around : ℕ) → found places (Any es) around ≡ flat_map (λ e. found places e around) es
found_Any places es around = found_where places (Any es) (FlatExpr-F.Any es) around (outs-Any es) ∙ flat_map-map (λ t. t around) (found places) es

pub apart_If : (vars : List FlatVar) (bs : List (FlatExpr × FlatExpr)) (o : FlatExpr) (around : Bool) → apart_in vars (If bs o) around ≡ (list_all (λ b. apart_in vars b.0 false && apart_in vars b.1 around) bs && apart_in vars o around)
apart_If vars bs o around = apart_at vars (If bs o) (FlatExpr-F.If bs o) around (outs-If bs o)
    ∙ ap (λ b. b && apart_in vars o around) (list_all-map (λ b. b.0 false && b.1 around) (λ b. (apart_in vars b.0, apart_in vars b.1)) bs)

pub found_If : (places : List ℕ) (bs : List (FlatExpr × FlatExpr)) (o : FlatExpr) (around : ℕ) → found places (If bs o) around ≡ flat_map (λ b. found places b.1 around) bs ++ found places o around
found_If places bs o around = found_where places (If bs o) (FlatExpr-F.If bs o) around (outs-If bs o)
    ∙ ap (λ l. l ++ found places o around) (flat_map-map (λ b. b.1 around) (λ b. (found places b.0, found places b.1)) bs)

pub found_Power : (places : List ℕ) (a b : FlatExpr) (around : ℕ) → found places (Power a b) around ≡ found places a around ++ found places b around
found_Power places a b around = found_where places (Power a b) (FlatExpr-F.Power a b) around (outs-Power a b)

pub found_Relation : (places : List ℕ) (op : RelOp) (a b : FlatExpr) (around : ℕ) → found places (Relation op a b) around ≡ found places a around ++ found places b around
found_Relation places op a b around = found_where places (Relation op a b) (FlatExpr-F.Relation op a b) around (outs-Relation op a b)
