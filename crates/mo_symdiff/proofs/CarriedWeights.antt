-- The weights of expressions with their derivatives carried out, by their parts.
use Rattle.std.proofs.Common.{◌≡◌, ℕ, ℤ, ◌+◌, ◌<◌, Bool, List, map, length, take, get_or, ap, ◌∙◌, arith}
use Rattle.std.specs.Prelude.{sum_by}
use Rattle.std.proofs.lemmas.List.Sums.{sum_by_more}
use Rattle.mo_syntax.specs.declared.expr.RelOp.{RelOp}
use Rattle.mo_flat.specs.declared.expr.FlatExpr.{FlatExpr, FlatExpr-F, fold_out-FlatExpr, fold-roll-FlatExpr, map-FlatExpr, out-FlatExpr, roll-FlatExpr}
use Rattle.mo_flat.specs.declared.expr.FlatExpr.TheVariants.{Whole, Decimal, Str, Truth, Literal, Time, Var, Der, Sum, Product, Power, Call, Relation, Not, All, Any, If}
use Rattle.mo_flat.specs.declared.expr.FlatExpr.TheVariants.{outs-Whole, outs-Decimal, outs-Str, outs-Truth, outs-Literal, outs-Time, outs-Var, outs-Der, outs-Sum, outs-Product, outs-Power, outs-Call, outs-Relation, outs-Not, outs-All, outs-Any, outs-If}
use Rattle.mo_flat.specs.declared.model.FlatVar.{FlatVar}
use Rattle.mo_symdiff.specs.declared.weights.Measure.{Measure}
use Rattle.mo_symdiff.specs.Carried.{carried, carry_node}
use Rattle.mo_symdiff.specs.Derivative.{derived}
use Rattle.mo_symdiff.specs.Weights.{literal_weight, node_weight, variable_weight, weigh, weigh_node}
use Rattle.mo_symdiff.proofs.Weighing.{mapped}

module _ (vars : List FlatVar) (m : Measure) where
  abbrev heavy : FlatExpr → ℕ
  heavy e = weigh vars m (carried vars e)

  carried_at : (e : FlatExpr) (node : FlatExpr-F FlatExpr) → out-FlatExpr e ≡ node → carried vars e ≡ carry_node vars (map-FlatExpr FlatExpr FlatExpr (carried vars) node)
  carried_at e node h = fold_out-FlatExpr FlatExpr (carry_node vars) e ∙ ap (λ n. carry_node vars (map-FlatExpr FlatExpr FlatExpr (carried vars) n)) h

  rolled : (node : FlatExpr-F FlatExpr) → weigh vars m (roll-FlatExpr node) ≡ weigh_node vars m (map-FlatExpr FlatExpr ℕ (weigh vars m) node)
  unfolding weigh
  rolled node = fold-roll-FlatExpr ℕ (weigh_node vars m) node

  pub carried_Whole : (n : ℤ) → heavy (Whole n) ≡ node_weight m
  carried_Whole n = ap (weigh vars m) (carried_at (Whole n) (FlatExpr-F.Whole n) (outs-Whole n)) ∙ rolled (FlatExpr-F.Whole n)

  pub carried_Decimal : (s : List ℕ) → heavy (Decimal s) ≡ node_weight m + literal_weight m s
  carried_Decimal s = ap (weigh vars m) (carried_at (Decimal s) (FlatExpr-F.Decimal s) (outs-Decimal s)) ∙ rolled (FlatExpr-F.Decimal s)

  pub carried_Str : (s : List ℕ) → heavy (Str s) ≡ node_weight m + literal_weight m s
  carried_Str s = ap (weigh vars m) (carried_at (Str s) (FlatExpr-F.Str s) (outs-Str s)) ∙ rolled (FlatExpr-F.Str s)

  pub carried_Truth : (b : Bool) → heavy (Truth b) ≡ node_weight m
  carried_Truth b = ap (weigh vars m) (carried_at (Truth b) (FlatExpr-F.Truth b) (outs-Truth b)) ∙ rolled (FlatExpr-F.Truth b)

  pub carried_Literal : (s : List ℕ) → heavy (Literal s) ≡ node_weight m + literal_weight m s
  carried_Literal s = ap (weigh vars m) (carried_at (Literal s) (FlatExpr-F.Literal s) (outs-Literal s)) ∙ rolled (FlatExpr-F.Literal s)

  pub carried_Time : heavy Time ≡ node_weight m
  carried_Time = ap (weigh vars m) (carried_at Time FlatExpr-F.Time outs-Time) ∙ rolled FlatExpr-F.Time

  pub carried_Var : (v k : ℕ) → heavy (Var v k) ≡ node_weight m + variable_weight vars m v k
  carried_Var v k = ap (weigh vars m) (carried_at (Var v k) (FlatExpr-F.Var v k) (outs-Var v k)) ∙ rolled (FlatExpr-F.Var v k)

  pub carried_Der : (a : FlatExpr) → carried vars (Der a) ≡ derived vars (carried vars a)
  carried_Der a = carried_at (Der a) (FlatExpr-F.Der a) (outs-Der a)

  pub carried_Not : (a : FlatExpr) → heavy (Not a) ≡ node_weight m + heavy a
  carried_Not a = ap (weigh vars m) (carried_at (Not a) (FlatExpr-F.Not a) (outs-Not a)) ∙ rolled (FlatExpr-F.Not (carried vars a))

  pub carried_Power : (a b : FlatExpr) → heavy (Power a b) ≡ node_weight m + (heavy a + heavy b)
  carried_Power a b = ap (weigh vars m) (carried_at (Power a b) (FlatExpr-F.Power a b) (outs-Power a b)) ∙ rolled (FlatExpr-F.Power (carried vars a) (carried vars b))

  pub carried_Relation : (op : RelOp) (a b : FlatExpr) → heavy (Relation op a b) ≡ node_weight m + (heavy a + heavy b)
  carried_Relation op a b = ap (weigh vars m) (carried_at (Relation op a b) (FlatExpr-F.Relation op a b) (outs-Relation op a b)) ∙ rolled (FlatExpr-F.Relation op (carried vars a) (carried vars b))

  signed_sum : (ts : List (Bool × FlatExpr)) → sum_by {X = Bool × ℕ} (λ t. t.1) (map (λ (t : Bool × FlatExpr). (t.0, weigh vars m t.1)) (map (λ t. (t.0, carried vars t.1)) ts)) ≡ sum_by (λ t. heavy t.1) ts
  signed_sum ts = mapped {B = Bool × ℕ} (λ t. t.1) (λ (t : Bool × FlatExpr). (t.0, weigh vars m t.1)) (map (λ t. (t.0, carried vars t.1)) ts) ∙ mapped {B = Bool × FlatExpr} (λ t. weigh vars m t.1) (λ t. (t.0, carried vars t.1)) ts

  pub carried_Sum : (ts : List (Bool × FlatExpr)) → heavy (Sum ts) ≡ node_weight m + sum_by (λ t. heavy t.1) ts
  carried_Sum ts = ap (weigh vars m) (carried_at (Sum ts) (FlatExpr-F.Sum ts) (outs-Sum ts)) ∙ rolled (FlatExpr-F.Sum (map (λ t. (t.0, carried vars t.1)) ts)) ∙ ap (λ n. node_weight m + n) (signed_sum ts)

  pub carried_Product : (ts : List (Bool × FlatExpr)) → heavy (Product ts) ≡ node_weight m + sum_by (λ t. heavy t.1) ts
  carried_Product ts = ap (weigh vars m) (carried_at (Product ts) (FlatExpr-F.Product ts) (outs-Product ts)) ∙ rolled (FlatExpr-F.Product (map (λ t. (t.0, carried vars t.1)) ts)) ∙ ap (λ n. node_weight m + n) (signed_sum ts)

  list_sum : (es : List FlatExpr) → sum_by (λ n. n) (map (weigh vars m) (map (carried vars) es)) ≡ sum_by heavy es
  list_sum es = mapped (λ n. n) (weigh vars m) (map (carried vars) es) ∙ mapped (weigh vars m) (carried vars) es

  pub carried_Call : (f : ℕ) (args : List FlatExpr) → heavy (Call f args) ≡ node_weight m + sum_by heavy args
  carried_Call f args = ap (weigh vars m) (carried_at (Call f args) (FlatExpr-F.Call f args) (outs-Call f args)) ∙ rolled (FlatExpr-F.Call f (map (carried vars) args)) ∙ ap (λ n. node_weight m + n) (list_sum args)

  pub carried_All : (es : List FlatExpr) → heavy (All es) ≡ node_weight m + sum_by heavy es
  carried_All es = ap (weigh vars m) (carried_at (All es) (FlatExpr-F.All es) (outs-All es)) ∙ rolled (FlatExpr-F.All (map (carried vars) es)) ∙ ap (λ n. node_weight m + n) (list_sum es)

  pub carried_Any : (es : List FlatExpr) → heavy (Any es) ≡ node_weight m + sum_by heavy es
  carried_Any es = ap (weigh vars m) (carried_at (Any es) (FlatExpr-F.Any es) (outs-Any es)) ∙ rolled (FlatExpr-F.Any (map (carried vars) es)) ∙ ap (λ n. node_weight m + n) (list_sum es)

  branch_sum : (bs : List (FlatExpr × FlatExpr)) → sum_by {X = ℕ × ℕ} (λ b. b.0 + b.1) (map (λ (b : FlatExpr × FlatExpr). (weigh vars m b.0, weigh vars m b.1)) (map (λ b. (carried vars b.0, carried vars b.1)) bs)) ≡ sum_by (λ b. heavy b.0 + heavy b.1) bs
  branch_sum bs = mapped {B = ℕ × ℕ} (λ b. b.0 + b.1) (λ (b : FlatExpr × FlatExpr). (weigh vars m b.0, weigh vars m b.1)) (map (λ b. (carried vars b.0, carried vars b.1)) bs) ∙ mapped {B = FlatExpr × FlatExpr} (λ b. weigh vars m b.0 + weigh vars m b.1) (λ b. (carried vars b.0, carried vars b.1)) bs

  pub carried_If : (bs : List (FlatExpr × FlatExpr)) (o : FlatExpr) → heavy (If bs o) ≡ (node_weight m + sum_by (λ b. heavy b.0 + heavy b.1) bs) + heavy o
  carried_If bs o =
      let e : heavy (If bs o) ≡ node_weight m + (sum_by (λ b. heavy b.0 + heavy b.1) bs + heavy o) =
      ap (weigh vars m) (carried_at (If bs o) (FlatExpr-F.If bs o) (outs-If bs o)) ∙ rolled (FlatExpr-F.If (map (λ b. (carried vars b.0, carried vars b.1)) bs) (carried vars o)) ∙ ap (λ n. node_weight m + (n + heavy o)) (branch_sum bs) in
      omega (arith, e)

-- one more part, behind what was there
pub one_more : {A : Type 0} (f : A → ℕ) (n : ℕ) (xs : List A) (i : ℕ) (x : A) → i < length xs → x ≡ get_or xs i x → (n + sum_by f (take i xs)) + f x ≡ n + sum_by f (take (i + 1) xs)
one_more f n xs i x l is = let e = sum_by_more f xs i x l in let d = ap f is in omega (arith, e, d)
