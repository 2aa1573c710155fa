-- Whether derivatives can be carried out, by the parts of an expression.
use Rattle.std.proofs.Common.{◌≡◌, ℕ, ℤ, Bool, true, List, ap, ◌∙◌, sym}
use Rattle.std.specs.Prelude.{◌&&◌, not}
use Rattle.std.specs.List.{list_all}
use Rattle.std.proofs.lemmas.List.Folds.{list_all-map}
use Rattle.mo_syntax.specs.declared.expr.RelOp.{RelOp}
use Rattle.mo_flat.specs.declared.expr.FlatExpr.{FlatExpr, FlatExpr-F, map-FlatExpr, para-roll-FlatExpr, roll-FlatExpr}
use Rattle.mo_flat.specs.declared.expr.FlatExpr.TheVariants.{Whole, Decimal, Str, Truth, Literal, Time, Var, Der, Sum, Product, Power, Call, Relation, Not, All, Any, If}
use Rattle.mo_flat.specs.declared.expr.FlatExpr.TheVariants.{rolls-Whole, rolls-Decimal, rolls-Str, rolls-Truth, rolls-Literal, rolls-Time, rolls-Var, rolls-Der, rolls-Sum, rolls-Product, rolls-Power, rolls-Call, rolls-Relation, rolls-Not, rolls-All, rolls-Any, rolls-If}
use Rattle.mo_flat.specs.declared.model.FlatVar.{FlatVar}
use Rattle.mo_symdiff.specs.Carried.{carries, carries_node}
use Rattle.mo_symdiff.specs.Still.{has_given}

-- by the node
pub carries_at : (vars : List FlatVar) (e : FlatExpr) (node : FlatExpr-F FlatExpr) → roll-FlatExpr node ≡ e →
    carries vars e ≡ carries_node vars (map-FlatExpr FlatExpr (FlatExpr × Bool) (λ y. (y, carries vars y)) node)
carries_at vars e node h = ap (carries vars) (sym h) ∙ para-roll-FlatExpr Bool (carries_node vars) node

pub carries_Der : (vars : List FlatVar) (a : FlatExpr) → carries vars (Der a) ≡ (carries vars a && not (has_given vars a))
carries_Der vars a = carries_at vars (Der a) (FlatExpr-F.Der a) (rolls-Der a)

pub carries_Sum : (vars : List FlatVar) (ts : List (Bool × FlatExpr)) → carries vars (Sum ts) ≡ list_all (λ t. carries vars t.1) ts
carries_Sum vars ts = carries_at vars (Sum ts) (FlatExpr-F.Sum ts) (rolls-Sum ts) ∙ list_all-map (λ t. t.1.1) (λ t. (t.0, (t.1, carries vars t.1))) ts

pub carries_Product : (vars : List FlatVar) (ts : List (Bool × FlatExpr)) → carries vars (Product ts) ≡ list_all (λ t. carries vars t.1) ts
carries_Product vars ts = carries_at vars (Product ts) (FlatExpr-F.Product ts) (rolls-Product ts) ∙ list_all-map (λ t. t.1.1) (λ t. (t.0, (t.1, carries vars t.1))) ts

pub carries_Power : (vars : List FlatVar) (a b : FlatExpr) → carries vars (Power a b) ≡ (carries vars a && carries vars b)
carries_Power vars a b = carries_at vars (Power a b) (FlatExpr-F.Power a b) (rolls-Power a b)

pub carries_Call : (vars : List FlatVar) (f : ℕ) (es : List FlatExpr) → carries vars (Call f es) ≡ list_all (carries vars) es
carries_Call vars f es = carries_at vars (Call f es) (FlatExpr-F.Call f es) (rolls-Call f es) ∙ list_all-map (λ p. p.1) (λ e. (e, carries vars e)) es

pub carries_Relation : (vars : List FlatVar) (op : RelOp) (a b : FlatExpr) → carries vars (Relation op a b) ≡ (carries vars a && carries vars b)
carries_Relation vars op a b = carries_at vars (Relation op a b) (FlatExpr-F.Relation op a b) (rolls-Relation op a b)

pub carries_Not : (vars : List FlatVar) (a : FlatExpr) → carries vars (Not a) ≡ carries vars a
carries_Not vars a = carries_at vars (Not a) (FlatExpr-F.Not a) (rolls-Not a)

pub carries_All : (vars : List FlatVar) (es : List FlatExpr) → carries vars (All es) ≡ list_all (carries vars) es
carries_All vars es = carries_at vars (All es) (FlatExpr-F.All es) (rolls-All es) ∙ list_all-map (λ p. p.1) (λ e. (e, carries vars e)) es

pub carries_Any : (vars : List FlatVar) (es : List FlatExpr) → carries vars (Any es) ≡ list_all (carries vars) es
carries_Any vars es = carries_at vars (Any es) (FlatExpr-F.Any es) (rolls-Any es) ∙ list_all-map (λ p. p.1) (λ e. (e, carries vars e)) es

pub carries_If : (vars : List FlatVar) (bs : List (FlatExpr × FlatExpr)) (o : FlatExpr) → carries vars (If bs o) ≡ (list_all (λ b. carries vars b.0 && carries vars b.1) bs && carries vars o)
carries_If vars bs o = carries_at vars (If bs o) (FlatExpr-F.If bs o) (rolls-If bs o)
    ∙ ap (λ b. b && carries vars o) (list_all-map (λ b. b.0.1 && b.1.1) (λ b. ((b.0, carries vars b.0), (b.1, carries vars b.1))) bs)

pub carries_Whole : (vars : List FlatVar) (n : ℤ) → true ≡ carries vars (Whole n)
carries_Whole vars n = sym (carries_at vars (Whole n) (FlatExpr-F.Whole n) (rolls-Whole n))

pub carries_Decimal : (vars : List FlatVar) (s : List ℕ) → true ≡ carries vars (Decimal s)
carries_Decimal vars s = sym (carries_at vars (Decimal s) (FlatExpr-F.Decimal s) (rolls-Decimal s))

pub carries_Str : (vars : List FlatVar) (s : List ℕ) → true ≡ carries vars (Str s)
carries_Str vars s = sym (carries_at vars (Str s) (FlatExpr-F.Str s) (rolls-Str s))

pub carries_Truth : (vars : List FlatVar) (b : Bool) → true ≡ carries vars (Truth b)
carries_Truth vars b = sym (carries_at vars (Truth b) (FlatExpr-F.Truth b) (rolls-Truth b))

pub carries_Literal : (vars : List FlatVar) (s : List ℕ) → true ≡ carries vars (Literal s)
carries_Literal vars s = sym (carries_at vars (Literal s) (FlatExpr-F.Literal s) (rolls-Literal s))

pub carries_Time : (vars : List FlatVar) → true ≡ carries vars Time
carries_Time vars = sym (carries_at vars Time FlatExpr-F.Time rolls-Time)

pub carries_Var : (vars : List FlatVar) (v k : ℕ) → true ≡ carries vars (Var v k)
carries_Var vars v k = sym (carries_at vars (Var v k) (FlatExpr-F.Var v k) (rolls-Var v k))
