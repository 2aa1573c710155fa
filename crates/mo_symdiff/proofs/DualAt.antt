-- Values of expressions by their parts.
use Rattle.std.proofs.Common.{◌≡◌, ℕ, ℤ, pos, neg_ℤ, ◌+ℤ◌, ◌-ℤ◌, ◌*ℤ◌, Bool, true, false, List, [], ◌∷◌, map, refl, ap, ◌∙◌}
use Rattle.std.proofs.Math.IntN.{+ℤ_idr}
use Rattle.std.specs.Prelude.{if◌then◌else◌}
use Rattle.mo_syntax.specs.declared.expr.RelOp.{RelOp}
use Rattle.mo_flat.specs.declared.expr.FlatExpr.{FlatExpr, FlatExpr-F, fold_out-FlatExpr, map-FlatExpr, out-FlatExpr}
use Rattle.mo_flat.specs.declared.expr.FlatExpr.TheVariants.{Whole, Var, Der, Sum, Product, Power, Call, Relation, If, outs-Whole, outs-Var, outs-Der, outs-Sum, outs-Product, outs-Power, outs-Call, outs-Relation, outs-If}
use Rattle.mo_symdiff.specs.Derivative.{times, over, squared, plus, minus, negated, applied, chosen}
use Rattle.mo_symdiff.specs.Dual.{Interpretation, call_value, compares, first_chosen, product_from, signed_sum, truth, value_in, value_node}
use Rattle.mo_symdiff.proofs.DualRing.{one_times}

pub at_node : (I : Interpretation) (e : FlatExpr) (node : FlatExpr-F FlatExpr) → out-FlatExpr e ≡ node → value_in I e ≡ value_node I (map-FlatExpr FlatExpr ℤ (value_in I) node)
at_node I e node h = fold_out-FlatExpr ℤ (value_node I) e ∙ ap (λ n. value_node I (map-FlatExpr FlatExpr ℤ (value_in I) n)) h

-- terms and factors with their values
abbrev pub signed_values : Interpretation → List (Bool × FlatExpr) → List (Bool × ℤ)
signed_values I = map (λ t. (t.0, value_in I t.1))

pub at_Whole : (I : Interpretation) (n : ℤ) → value_in I (Whole n) ≡ n
at_Whole I n = at_node I (Whole n) (FlatExpr-F.Whole n) (outs-Whole n)

pub at_Var : (I : Interpretation) (v k : ℕ) → value_in I (Var v k) ≡ I.variable v k
at_Var I v k = at_node I (Var v k) (FlatExpr-F.Var v k) (outs-Var v k)

pub at_Der : (I : Interpretation) (a : FlatExpr) → value_in I (Der a) ≡ pos 0
at_Der I a = at_node I (Der a) (FlatExpr-F.Der a) (outs-Der a)

pub at_Sum : (I : Interpretation) (ts : List (Bool × FlatExpr)) → value_in I (Sum ts) ≡ signed_sum (signed_values I ts)
at_Sum I ts = at_node I (Sum ts) (FlatExpr-F.Sum ts) (outs-Sum ts)

pub at_Product : (I : Interpretation) (ts : List (Bool × FlatExpr)) → value_in I (Product ts) ≡ product_from I (pos 1) (signed_values I ts)
at_Product I ts = at_node I (Product ts) (FlatExpr-F.Product ts) (outs-Product ts)

pub at_Power : (I : Interpretation) (a b : FlatExpr) → value_in I (Power a b) ≡ I.power (value_in I a) (value_in I b)
at_Power I a b = at_node I (Power a b) (FlatExpr-F.Power a b) (outs-Power a b)

pub at_Call : (I : Interpretation) (f : ℕ) (args : List FlatExpr) → value_in I (Call f args) ≡ call_value I f (map (value_in I) args)
at_Call I f args = at_node I (Call f args) (FlatExpr-F.Call f args) (outs-Call f args)

pub at_Relation : (I : Interpretation) (op : RelOp) (a b : FlatExpr) → value_in I (Relation op a b) ≡ truth (compares op (value_in I a) (value_in I b))
at_Relation I op a b = at_node I (Relation op a b) (FlatExpr-F.Relation op a b) (outs-Relation op a b)

pub at_If : (I : Interpretation) (bs : List (FlatExpr × FlatExpr)) (o : FlatExpr) → value_in I (If bs o) ≡ first_chosen (map (λ b. (value_in I b.0, value_in I b.1)) bs) (value_in I o)
at_If I bs o = at_node I (If bs o) (FlatExpr-F.If bs o) (outs-If bs o)

-- the forms of the table of derivatives
pub at_times_two : (I : Interpretation) (a b : FlatExpr) → value_in I (times (a ∷ b ∷ [])) ≡ value_in I a *ℤ value_in I b
at_times_two I a b = at_Product I ((false, a) ∷ (false, b) ∷ []) ∙ ap (λ x. x *ℤ value_in I b) (one_times (value_in I a))

pub at_times_three : (I : Interpretation) (a b c : FlatExpr) → value_in I (times (a ∷ b ∷ c ∷ [])) ≡ value_in I a *ℤ value_in I b *ℤ value_in I c
at_times_three I a b c = at_Product I ((false, a) ∷ (false, b) ∷ (false, c) ∷ []) ∙ ap (λ x. x *ℤ value_in I b *ℤ value_in I c) (one_times (value_in I a))

pub at_over : (I : Interpretation) (a b : FlatExpr) → value_in I (over a b) ≡ value_in I a *ℤ I.reciprocal (value_in I b)
at_over I a b = at_Product I ((false, a) ∷ (true, b) ∷ []) ∙ ap (λ x. x *ℤ I.reciprocal (value_in I b)) (one_times (value_in I a))

pub at_squared : (I : Interpretation) (a : FlatExpr) → value_in I (squared a) ≡ I.power (value_in I a) (pos 2)
at_squared I a = at_Power I a (Whole (pos 2)) ∙ ap (I.power (value_in I a)) (at_Whole I (pos 2))

pub at_plus : (I : Interpretation) (a b : FlatExpr) → value_in I (plus a b) ≡ value_in I a +ℤ value_in I b
at_plus I a b = at_Sum I ((false, a) ∷ (false, b) ∷ []) ∙ ap (λ x. value_in I a +ℤ x) (+ℤ_idr (value_in I b))

pub at_minus : (I : Interpretation) (a b : FlatExpr) → value_in I (minus a b) ≡ value_in I a -ℤ value_in I b
at_minus I a b = at_Sum I ((false, a) ∷ (true, b) ∷ []) ∙ ap (λ x. value_in I a +ℤ x) (+ℤ_idr (neg_ℤ (value_in I b)))

pub at_negated : (I : Interpretation) (a : FlatExpr) → value_in I (negated a) ≡ neg_ℤ (value_in I a)
at_negated I a = at_Sum I ((true, a) ∷ []) ∙ +ℤ_idr (neg_ℤ (value_in I a))

pub at_applied : (I : Interpretation) (f : ℕ) (a : FlatExpr) → value_in I (applied f a) ≡ call_value I f (value_in I a ∷ [])
at_applied I f a = at_Call I f (a ∷ [])

choice : (t : Bool) (u w : ℤ) → first_chosen ((truth t, u) ∷ []) w ≡ (if t then u else w)
choice true u w = refl
choice false u w = refl

pub at_chosen : (I : Interpretation) (op : RelOp) (a b u w : FlatExpr) → value_in I (chosen op a b u w) ≡ (if compares op (value_in I a) (value_in I b) then value_in I u else value_in I w)
at_chosen I op a b u w =
    at_If I ((Relation op a b, u) ∷ []) w ∙ ap (λ c. first_chosen ((c, value_in I u) ∷ []) (value_in I w)) (at_Relation I op a b)
    ∙ choice (compares op (value_in I a) (value_in I b)) (value_in I u) (value_in I w)
