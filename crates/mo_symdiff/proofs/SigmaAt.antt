-- Gathered numbers of an expression by its parts.
use Rattle.std.proofs.Common.{◌≡◌, ℕ, ℤ, pos, Bool, true, false, List, [], ◌∷◌, ◌++◌, map, refl, ap, ◌∙◌, arith}
use Rattle.std.specs.Prelude.{max}
use Rattle.mo_syntax.specs.declared.expr.RelOp.{RelOp}
use Rattle.mo_flat.specs.declared.expr.FlatExpr.{FlatExpr, FlatExpr-F, fold_out-FlatExpr, fold-roll-FlatExpr, map-FlatExpr, out-FlatExpr, roll-FlatExpr}
use Rattle.mo_flat.specs.declared.expr.FlatExpr.TheVariants.{Whole, Var, Der, Sum, Product, Power, Call, Relation, Not, All, Any, If, outs-Whole, outs-Var, outs-Der, outs-Sum, outs-Product, outs-Power, outs-Call, outs-Relation, outs-Not, outs-All, outs-Any, outs-If}
use Rattle.mo_symdiff.specs.Derivative.{times, over, squared, plus, minus, negated, applied, chosen}
use Rattle.mo_symdiff.proofs.SigmaGather.{gathered, gather_node, greatest_by}

pub greatest_map : {X Y : Type 0} (f : Y → ℕ) (h : X → Y) (xs : List X) → greatest_by f (map h xs) ≡ greatest_by (λ x. f (h x)) xs
greatest_map f h [] = refl
greatest_map f h (x ∷ xs) = ap (λ n. max (f (h x)) n) (greatest_map f h xs)

pub greatest_append : {X : Type 0} (f : X → ℕ) (xs ys : List X) → greatest_by f (xs ++ ys) ≡ max (greatest_by f xs) (greatest_by f ys)
greatest_append f [] ys = omega arith
greatest_append f (x ∷ xs) ys = let e = greatest_append f xs ys in omega arith

pub at_node : (var : ℕ → ℕ → ℕ) (der : ℕ → ℕ) (e : FlatExpr) (node : FlatExpr-F FlatExpr) → out-FlatExpr e ≡ node → gathered var der e ≡ gather_node var der (map-FlatExpr FlatExpr ℕ (gathered var der) node)
unfolding gathered
at_node var der e node h = fold_out-FlatExpr ℕ (gather_node var der) e ∙ ap (λ n. gather_node var der (map-FlatExpr FlatExpr ℕ (gathered var der) n)) h

pub at_roll : (var : ℕ → ℕ → ℕ) (der : ℕ → ℕ) (x : FlatExpr-F FlatExpr) → gathered var der (roll-FlatExpr x) ≡ gather_node var der (map-FlatExpr FlatExpr ℕ (gathered var der) x)
unfolding gathered
at_roll var der x = fold-roll-FlatExpr ℕ (gather_node var der) x

pub at_Whole : (var : ℕ → ℕ → ℕ) (der : ℕ → ℕ) (n : ℤ) → gathered var der (Whole n) ≡ 0
at_Whole var der n = at_node var der (Whole n) (FlatExpr-F.Whole n) (outs-Whole n)

pub at_Var : (var : ℕ → ℕ → ℕ) (der : ℕ → ℕ) (v k : ℕ) → gathered var der (Var v k) ≡ var v k
at_Var var der v k = at_node var der (Var v k) (FlatExpr-F.Var v k) (outs-Var v k)

pub at_Der : (var : ℕ → ℕ → ℕ) (der : ℕ → ℕ) (a : FlatExpr) → gathered var der (Der a) ≡ der (gathered var der a)
at_Der var der a = at_node var der (Der a) (FlatExpr-F.Der a) (outs-Der a)

pub at_Sum : (var : ℕ → ℕ → ℕ) (der : ℕ → ℕ) (ts : List (Bool × FlatExpr)) → gathered var der (Sum ts) ≡ greatest_by (λ t. gathered var der t.1) ts
at_Sum var der ts = at_node var der (Sum ts) (FlatExpr-F.Sum ts) (outs-Sum ts) ∙ greatest_map (λ t. t.1) (λ t. (t.0, gathered var der t.1)) ts

pub at_Product : (var : ℕ → ℕ → ℕ) (der : ℕ → ℕ) (ts : List (Bool × FlatExpr)) → gathered var der (Product ts) ≡ greatest_by (λ t. gathered var der t.1) ts
at_Product var der ts = at_node var der (Product ts) (FlatExpr-F.Product ts) (outs-Product ts) ∙ greatest_map (λ t. t.1) (λ t. (t.0, gathered var der t.1)) ts

pub at_Power : (var : ℕ → ℕ → ℕ) (der : ℕ → ℕ) (a b : FlatExpr) → gathered var der (Power a b) ≡ max (gathered var der a) (gathered var der b)
at_Power var der a b = at_node var der (Power a b) (FlatExpr-F.Power a b) (outs-Power a b)

pub at_Call : (var : ℕ → ℕ → ℕ) (der : ℕ → ℕ) (f : ℕ) (args : List FlatExpr) → gathered var der (Call f args) ≡ greatest_by (gathered var der) args
at_Call var der f args = at_node var der (Call f args) (FlatExpr-F.Call f args) (outs-Call f args) ∙ greatest_map (λ a. a) (gathered var der) args

pub at_Relation : (var : ℕ → ℕ → ℕ) (der : ℕ → ℕ) (op : RelOp) (a b : FlatExpr) → gathered var der (Relation op a b) ≡ max (gathered var der a) (gathered var der b)
at_Relation var der op a b = at_node var der (Relation op a b) (FlatExpr-F.Relation op a b) (outs-Relation op a b)

pub at_Not : (var : ℕ → ℕ → ℕ) (der : ℕ → ℕ) (a : FlatExpr) → gathered var der (Not a) ≡ gathered var der a
at_Not var der a = at_node var der (Not a) (FlatExpr-F.Not a) (outs-Not a)

pub at_All : (var : ℕ → ℕ → ℕ) (der : ℕ → ℕ) (ps : List FlatExpr) → gathered var der (All ps) ≡ greatest_by (gathered var der) ps
at_All var der ps = at_node var der (All ps) (FlatExpr-F.All ps) (outs-All ps) ∙ greatest_map (λ a. a) (gathered var der) ps

pub at_Any : (var : ℕ → ℕ → ℕ) (der : ℕ → ℕ) (ps : List FlatExpr) → gathered var der (Any ps) ≡ greatest_by (gathered var der) ps
at_Any var der ps = at_node var der (Any ps) (FlatExpr-F.Any ps) (outs-Any ps) ∙ greatest_map (λ a. a) (gathered var der) ps

pub at_If : (var : ℕ → ℕ → ℕ) (der : ℕ → ℕ) (bs : List (FlatExpr × FlatExpr)) (o : FlatExpr) → gathered var der (If bs o) ≡ max (greatest_by (λ b. gathered var der b.1) bs) (gathered var der o)
at_If var der bs o = at_node var der (If bs o) (FlatExpr-F.If bs o) (outs-If bs o) ∙ ap (λ n. max n (gathered var der o)) (greatest_map (λ b. b.1) (λ b. (gathered var der b.0, gathered var der b.1)) bs)

-- the forms of the table of derivatives
pub at_times_two : (var : ℕ → ℕ → ℕ) (der : ℕ → ℕ) (a b : FlatExpr) → gathered var der (times (a ∷ b ∷ [])) ≡ max (gathered var der a) (gathered var der b)
at_times_two var der a b = let e = at_Product var der ((false, a) ∷ (false, b) ∷ []) in omega arith

pub at_times_three : (var : ℕ → ℕ → ℕ) (der : ℕ → ℕ) (a b c : FlatExpr) → gathered var der (times (a ∷ b ∷ c ∷ [])) ≡ max (gathered var der a) (max (gathered var der b) (gathered var der c))
at_times_three var der a b c = let e = at_Product var der ((false, a) ∷ (false, b) ∷ (false, c) ∷ []) in omega arith

pub at_over : (var : ℕ → ℕ → ℕ) (der : ℕ → ℕ) (a b : FlatExpr) → gathered var der (over a b) ≡ max (gathered var der a) (gathered var der b)
at_over var der a b = let e = at_Product var der ((false, a) ∷ (true, b) ∷ []) in omega arith

pub at_squared : (var : ℕ → ℕ → ℕ) (der : ℕ → ℕ) (a : FlatExpr) → gathered var der (squared a) ≡ gathered var der a
at_squared var der a = let e = at_Power var der a (Whole (pos 2)) in let two = at_Whole var der (pos 2) in omega arith

pub at_plus : (var : ℕ → ℕ → ℕ) (der : ℕ → ℕ) (a b : FlatExpr) → gathered var der (plus a b) ≡ max (gathered var der a) (gathered var der b)
at_plus var der a b = let e = at_Sum var der ((false, a) ∷ (false, b) ∷ []) in omega arith

pub at_minus : (var : ℕ → ℕ → ℕ) (der : ℕ → ℕ) (a b : FlatExpr) → gathered var der (minus a b) ≡ max (gathered var der a) (gathered var der b)
at_minus var der a b = let e = at_Sum var der ((false, a) ∷ (true, b) ∷ []) in omega arith

pub at_negated : (var : ℕ → ℕ → ℕ) (der : ℕ → ℕ) (a : FlatExpr) → gathered var der (negated a) ≡ gathered var der a
at_negated var der a = let e = at_Sum var der ((true, a) ∷ []) in omega arith

pub at_applied : (var : ℕ → ℕ → ℕ) (der : ℕ → ℕ) (f : ℕ) (a : FlatExpr) → gathered var der (applied f a) ≡ gathered var der a
at_applied var der f a = let e = at_Call var der f (a ∷ []) in omega arith

pub at_chosen : (var : ℕ → ℕ → ℕ) (der : ℕ → ℕ) (op : RelOp) (a b u w : FlatExpr) → gathered var der (chosen op a b u w) ≡ max (gathered var der u) (gathered var der w)
at_chosen var der op a b u w = let e = at_If var der ((Relation op a b, u) ∷ []) w in omega arith
