-- The laws of orders: the derivative raises the order of each unknown by one, and each derivative that is carried out does.
use Rattle.std.proofs.Common.{◌≡◌, ℕ, ◌+◌, ◌<◌, ◌≤◌, Bool, true, false, List, [], ◌∷◌, Option, Some, None, map, refl, ap, ◌∙◌, sym, arith}
use Rattle.std.proofs.lemmas.Bool.Decides.{nat_tests}
use Rattle.std.specs.Prelude.{max, nat_eq, nat_lt, if◌then◌else◌, ◌&&◌, IsTrue}
use Rattle.std.specs.List.{list_all}
use Rattle.std.specs.Option.{option_map}
use Rattle.mo_flat.specs.declared.expr.FlatExpr.{FlatExpr, FlatExpr-F, map-FlatExpr}
use Rattle.mo_flat.specs.declared.model.FlatVar.{FlatVar}
use Rattle.mo_flat.specs.Roles.{is_unknown}
use Rattle.mo_flat.specs.Sound.{orders_fit, orders_node}
use Rattle.mo_symdiff.specs.Carried.{carried}
use Rattle.mo_symdiff.specs.Derivative.{derived}
use Rattle.mo_symdiff.specs.Orders.{raised_order}
use Rattle.mo_symdiff.specs.Sigma.{sigma}
use Rattle.mo_symdiff.proofs.SigmaCarried.{carried_gathers, carried_low, counted}
use Rattle.mo_symdiff.proofs.SigmaDerived.{derived_gathers, low}
use Rattle.mo_symdiff.proofs.SigmaGather.{Related, folds_related, gathered, gathered_related, gather_node, greatest_by}
use Rattle.mo_symdiff.proofs.SigmaOrders.{add, highest_gathered, order_raise, order_var, raise, raised_gathered, rank, rank_injective, top}

-- orders that fit leave room below the limit
abbrev Fits : ℕ → (ℕ → Bool) → ℕ → Type 0
Fits limit f n = (around : ℕ) → f around ≡ true → 0 < n → n + around ≤ limit

both_true : (a b : Bool) → (a && b) ≡ true → (a ≡ true) × (b ≡ true)
both_true true true h = (refl, refl)
both_true true false h = absurd cc
both_true false b h = absurd cc

both_fit : (limit : ℕ) (f g : ℕ → Bool) (m n : ℕ) → Fits limit f m → Fits limit g n → Fits limit (λ around. f around && g around) (max m n)
both_fit limit f g m n h k around t p =
    let parts = both_true (f around) (g around) t in
    let first : 0 < m → m + around ≤ limit = h around parts.0 in let second : 0 < n → n + around ≤ limit = k around parts.1 in
    grind (arith, first, second)

parts_fit : {T X Y : Type 0} (limit : ℕ) (f : X → ℕ → Bool) (g : Y → ℕ) (p : T → X) (q : T → Y) → ((t : T) → Fits limit (f (p t)) (g (q t))) → (ts : List T) →
    Fits limit (λ around. list_all (λ x. f x around) (map p ts)) (greatest_by g (map q ts))
parts_fit limit f g p q each [] = λ around t h. absurd (omega arith)
parts_fit limit f g p q each (t ∷ ts) = both_fit limit (f (p t)) (λ around. list_all (λ x. f x around) (map p ts)) (g (q t)) (greatest_by g (map q ts)) (each t) (parts_fit limit f g p q each ts)

second_fits : (limit : ℕ) (f g : ℕ → Bool) (n : ℕ) → Fits limit g n → Fits limit (λ around. f around && g around) n
second_fits limit f g n h around t = h around (both_true (f around) (g around) t).1

var_fits : (limit k : ℕ) (b : Bool) → Fits limit (λ around. nat_lt (k + around) limit) (if b then k + 1 else 0)
var_fits limit k true around t h = let below : k + around < limit = grind (arith, nat_tests) in omega arith
var_fits limit k false around t h = absurd (omega arith)

none_fits : (limit : ℕ) (f : ℕ → Bool) → Fits limit f 0
none_fits limit f around t h = absurd (omega arith)

der_fits : (limit : ℕ) (f : ℕ → Bool) (n : ℕ) → Fits limit f n → Fits limit (λ around. f (around + 1)) (add n)
der_fits limit f n h around t p = let e = h (around + 1) t (omega arith) in omega arith

node_fits : (v limit : ℕ) (n : FlatExpr-F (Related (ℕ → Bool) ℕ (Fits limit))) →
    Fits limit (orders_node limit (map-FlatExpr (Related (ℕ → Bool) ℕ (Fits limit)) (ℕ → Bool) (λ r. r.0) n)) (gather_node (order_var v) add (map-FlatExpr (Related (ℕ → Bool) ℕ (Fits limit)) ℕ (λ r. r.1) n))
node_fits v limit (FlatExpr-F.Whole n) = none_fits limit (λ around. true)
node_fits v limit (FlatExpr-F.Decimal t) = none_fits limit (λ around. true)
node_fits v limit (FlatExpr-F.Str t) = none_fits limit (λ around. true)
node_fits v limit (FlatExpr-F.Truth b) = none_fits limit (λ around. true)
node_fits v limit (FlatExpr-F.Literal t) = none_fits limit (λ around. true)
node_fits v limit FlatExpr-F.Time = none_fits limit (λ around. true)
node_fits v limit (FlatExpr-F.Var w k) = var_fits limit k (nat_eq w v)
node_fits v limit (FlatExpr-F.Der a) = der_fits limit a.0 a.1 a.2
node_fits v limit (FlatExpr-F.Sum ts) = parts_fit limit (λ t. t.1) (λ t. t.1) (λ t. (t.0, t.1.0)) (λ t. (t.0, t.1.1)) (λ t. t.1.2) ts
node_fits v limit (FlatExpr-F.Product ts) = parts_fit limit (λ t. t.1) (λ t. t.1) (λ t. (t.0, t.1.0)) (λ t. (t.0, t.1.1)) (λ t. t.1.2) ts
node_fits v limit (FlatExpr-F.Power a b) = both_fit limit a.0 b.0 a.1 b.1 a.2 b.2
node_fits v limit (FlatExpr-F.Call f args) = parts_fit limit (λ t. t) (λ t. t) (λ t. t.0) (λ t. t.1) (λ t. t.2) args
node_fits v limit (FlatExpr-F.Relation op a b) = both_fit limit a.0 b.0 a.1 b.1 a.2 b.2
node_fits v limit (FlatExpr-F.Not a) = a.2
node_fits v limit (FlatExpr-F.All ps) = parts_fit limit (λ t. t) (λ t. t) (λ t. t.0) (λ t. t.1) (λ t. t.2) ps
node_fits v limit (FlatExpr-F.Any ps) = parts_fit limit (λ t. t) (λ t. t) (λ t. t.0) (λ t. t.1) (λ t. t.2) ps
node_fits v limit (FlatExpr-F.If bs o) = both_fit limit (λ around. list_all (λ b. b.0 around && b.1 around) (map (λ b. (b.0.0, b.1.0)) bs)) o.0 (greatest_by {X = ℕ × ℕ} (λ b. b.1) (map (λ b. (b.0.1, b.1.1)) bs)) o.1
    (parts_fit limit (λ b around. b.0 around && b.1 around) (λ b. b.1) (λ b. (b.0.0, b.1.0)) (λ b. (b.0.1, b.1.1)) (λ b. second_fits limit b.0.0 b.1.0 b.1.1 b.1.2) bs) o.2

-- an order with the derivatives around it is below the limit
pub gathered_fits : (v limit : ℕ) (e : FlatExpr) → IsTrue (orders_fit limit e) → gathered (order_var v) add e ≤ limit
unfolding gathered
gathered_fits v limit e h =
    let below : 0 < gathered (order_var v) add e → gathered (order_var v) add e + 0 ≤ limit =
    folds_related (ℕ → Bool) ℕ (orders_node limit) (gather_node (order_var v) add) (Fits limit) (node_fits v limit) e 0 h in
    grind (arith, below)

low_below : (v : ℕ) (e : FlatExpr) → low (order_var v) e ≤ gathered (order_var v) add e
low_below v = gathered_related (λ a b. a ≤ b) (order_var v) (order_var v) (λ n. n) add (omega arith) (λ a b c d h k. omega arith) (λ w k. omega arith) (λ a b h. omega arith)

raise_is_add : (v : ℕ) (e : FlatExpr) → gathered (order_var v) add e ≤ top → gathered (order_var v) raise e ≡ gathered (order_var v) add e
raise_is_add v = gathered_related (λ a b. b ≤ top → a ≡ b) (order_var v) (order_var v) raise add (λ h. refl)
    (λ a b c d h k l. let e = h (omega arith) in let f = k (omega arith) in omega arith) (λ w k h. refl) (λ a b h l. let e = h (omega arith) in omega arith)

abbrev Fit : FlatExpr → Type 0
Fit e = IsTrue (orders_fit 4294967295 e)

sigma_gathered : (vars : List FlatVar) (e : FlatExpr) (v : ℕ) → is_unknown vars v ≡ true → gathered (order_var v) add e ≤ 4294967295 → rank (sigma vars e v) ≡ gathered (order_var v) raise e
sigma_gathered vars e v u fits = let below = low_below v e in highest_gathered v (carried vars e) ∙ carried_low (order_raise vars v u) e (omega arith)

-- where the order of this unknown fits
pub sigma_raised_by : (vars : List FlatVar) (e : FlatExpr) (v : ℕ) → is_unknown vars v ≡ true → gathered (order_var v) add e ≤ 4294967295 → sigma vars e v ≡ raised_order v e
sigma_raised_by vars e v u fits =
    rank_injective (sigma vars e v) (raised_order v e) (sigma_gathered vars e v u fits ∙ raise_is_add v e (omega arith) ∙ sym (raised_gathered v e))

pub sigma_raised : (vars : List FlatVar) (e : FlatExpr) (v : ℕ) → is_unknown vars v ≡ true → Fit e → sigma vars e v ≡ raised_order v e
sigma_raised vars e v u h = sigma_raised_by vars e v u (gathered_fits v 4294967295 e h)

one_more : (o : Option ℕ) (n : ℕ) → rank o ≡ n → n ≤ 4294967295 → rank (option_map (λ order. order + 1) o) ≡ raise n
one_more None n h l = omega arith
one_more (Some k) n h l = omega arith

pub sigma_derived : (vars : List FlatVar) (e : FlatExpr) (v : ℕ) → is_unknown vars v ≡ true → Fit e → sigma vars (derived vars (carried vars e)) v ≡ option_map (λ order. order + 1) (sigma vars e v)
sigma_derived vars e v u h =
    let r = order_raise vars v u in
    let fits = gathered_fits v 4294967295 e h in let below = low_below v e in let same = raise_is_add v e (omega arith) in
    let here : low (order_var v) e ≤ top = omega arith in
    let out = carried_low r e here in
    let carried_here : low (order_var v) (carried vars e) ≤ top = omega arith in
    let slope = derived_gathers r (carried vars e) carried_here in
    let slope_here : low (order_var v) (derived vars (carried vars e)) ≤ top = omega arith in
    rank_injective (sigma vars (derived vars (carried vars e)) v) (option_map (λ order. order + 1) (sigma vars e v))
    (highest_gathered v (carried vars (derived vars (carried vars e)))
    ∙ carried_low r (derived vars (carried vars e)) slope_here
    ∙ derived_gathers (counted r) (carried vars e) carried_here
    ∙ ap raise (carried_gathers (counted r) e here)
    ∙ sym (one_more (sigma vars e v) (gathered (order_var v) raise e) (sigma_gathered vars e v u fits) (omega arith)))
