-- Given variables: a derivative keeps them, so those under a derivative are seen without carrying it out.
use Rattle.std.proofs.Common.{◌≡◌, ◌≤◌, Bool, true, false, List, [], ◌∷◌, map, refl, ap, ◌∙◌, sym, subst, arith}
use Rattle.std.specs.Prelude.{min, ◌&&◌, ◌||◌, not}
use Rattle.std.specs.List.{list_all, list_any}
use Rattle.mo_flat.specs.declared.expr.FlatExpr.{FlatExpr, FlatExpr-F, fold-FlatExpr, fold-roll-FlatExpr, para-roll-FlatExpr, ind-FlatExpr, map-FlatExpr, roll-FlatExpr}
use Rattle.mo_flat.specs.declared.model.FlatVar.{FlatVar}
use Rattle.mo_flat.specs.Roles.{is_given}
use Rattle.mo_symdiff.specs.Carried.{carried, carries, carries_node}
use Rattle.mo_symdiff.specs.Derivative.{derived}
use Rattle.mo_symdiff.specs.Orders.{apart_node, is_apart}
use Rattle.mo_symdiff.specs.Still.{given_node, has_given}
use Rattle.mo_symdiff.proofs.SigmaCarried.{carried_low}
use Rattle.mo_symdiff.proofs.SigmaDerived.{derived_gathers}
use Rattle.mo_symdiff.proofs.SigmaGather.{gathered, gathered_related, mapped}
use Rattle.mo_symdiff.proofs.SigmaOrders.{given_gathered, given_low, given_raise, given_var, number_injective}

once : (vars : List FlatVar) (e : FlatExpr) → (gathered (given_var vars) (λ n. n) e ≤ 1) × (gathered (given_var vars) (λ n. min n 1) e ≡ gathered (given_var vars) (λ n. n) e)
once vars e = (
  given_low vars e,
  gathered_related (λ a b. b ≤ 1 → a ≡ b) (given_var vars) (given_var vars) (λ n. min n 1) (λ n. n) (λ h. refl)
      (λ a b c d h k l. let e = h (omega arith) in let f = k (omega arith) in omega arith) (λ w k h. refl) (λ a b h l. let e = h l in omega arith) e (given_low vars e),
)

pub derived_given : (vars : List FlatVar) (e : FlatExpr) → has_given vars (derived vars e) ≡ has_given vars e
derived_given vars e =
    let low = given_low vars e in
    let least : min (gathered (given_var vars) (λ n. n) e) 1 ≡ gathered (given_var vars) (λ n. n) e = omega arith in
    number_injective (has_given vars (derived vars e)) (has_given vars e)
    (given_gathered vars (derived vars e) ∙ derived_gathers (given_raise vars) e low ∙ least ∙ sym (given_gathered vars e))

pub carried_given : (vars : List FlatVar) (e : FlatExpr) → has_given vars (carried vars e) ≡ has_given vars e
carried_given vars e = number_injective (has_given vars (carried vars e)) (has_given vars e)
    (given_gathered vars (carried vars e) ∙ carried_low (given_raise vars) e (given_low vars e) ∙ (once vars e).1 ∙ sym (given_gathered vars e))

-- what stands apart, by whether a derivative is around it
abbrev Apart : List FlatVar → FlatExpr → Type 0
Apart vars e = (around : Bool) → fold-FlatExpr (Bool → Bool) (apart_node vars) e around ≡ (carries vars e && not (around && has_given vars e))

abbrev Told : List FlatVar → Type 0
Told vars = (e : FlatExpr) × Apart vars e

abbrev apart_of : (vars : List FlatVar) → Told vars → Bool → Bool
apart_of vars t = fold-FlatExpr (Bool → Bool) (apart_node vars) t.0

none : (around : Bool) → true ≡ (true && not (around && false))
none true = refl
none false = refl

var : (around g : Bool) → not (around && g) ≡ (true && not (around && g))
var true true = refl
var true false = refl
var false g = refl

der : (c g around : Bool) → (c && not (true && g)) ≡ ((c && not g) && not (around && g))
der true true true = refl
der true true false = refl
der true false true = refl
der true false false = refl
der false true true = refl
der false true false = refl
der false false true = refl
der false false false = refl

joined : (c d a g h : Bool) → ((c && not (a && g)) && (d && not (a && h))) ≡ ((c && d) && not (a && (g || h)))
joined true true true true true = refl
joined true true true true false = refl
joined true true true false true = refl
joined true true true false false = refl
joined true true false true true = refl
joined true true false true false = refl
joined true true false false true = refl
joined true true false false false = refl
joined true false true true true = refl
joined true false true true false = refl
joined true false true false true = refl
joined true false true false false = refl
joined true false false true true = refl
joined true false false true false = refl
joined true false false false true = refl
joined true false false false false = refl
joined false true true true true = refl
joined false true true true false = refl
joined false true true false true = refl
joined false true true false false = refl
joined false true false true true = refl
joined false true false true false = refl
joined false true false false true = refl
joined false true false false false = refl
joined false false true true true = refl
joined false false true true false = refl
joined false false true false true = refl
joined false false true false false = refl
joined false false false true true = refl
joined false false false true false = refl
joined false false false false true = refl
joined false false false false false = refl

branch : (c d a g h : Bool) → ((c && not (false && g)) && (d && not (a && h))) ≡ ((c && d) && not (a && h))
branch true true true true true = refl
branch true true true true false = refl
branch true true true false true = refl
branch true true true false false = refl
branch true true false true true = refl
branch true true false true false = refl
branch true true false false true = refl
branch true true false false false = refl
branch true false true true true = refl
branch true false true true false = refl
branch true false true false true = refl
branch true false true false false = refl
branch true false false true true = refl
branch true false false true false = refl
branch true false false false true = refl
branch true false false false false = refl
branch false true true true true = refl
branch false true true true false = refl
branch false true true false true = refl
branch false true true false false = refl
branch false true false true true = refl
branch false true false true false = refl
branch false true false false true = refl
branch false true false false false = refl
branch false false true true true = refl
branch false false true true false = refl
branch false false true false true = refl
branch false false true false false = refl
branch false false false true true = refl
branch false false false true false = refl
branch false false false false true = refl
branch false false false false false = refl

both : (p q c d a g h : Bool) → p ≡ (c && not (a && g)) → q ≡ (d && not (a && h)) → (p && q) ≡ ((c && d) && not (a && (g || h)))
both p q c d a g h e f = ap (λ b. b && q) e ∙ ap (λ b. (c && not (a && g)) && b) f ∙ joined c d a g h

parts : {T X Y Z : Type 0} (a : Bool) (f : X → Bool) (p : T → X) (c : Y → Bool) (q : T → Y) (g : Z → Bool) (r : T → Z) →
    ((t : T) → f (p t) ≡ (c (q t) && not (a && g (r t)))) → (ts : List T) → list_all f (map p ts) ≡ (list_all c (map q ts) && not (a && list_any g (map r ts)))
parts a f p c q g r each [] = none a
parts a f p c q g r each (t ∷ ts) = both _ _ _ _ a (g (r t)) (list_any g (map r ts)) (each t) (parts a f p c q g r each ts)

-- a derivative may be carried out where no given variable stands in what is differentiated
carries_under : (vars : List FlatVar) (a : FlatExpr) (c : Bool) → carries_node vars (FlatExpr-F.Der (a, c)) ≡ (c && not (has_given vars a))
carries_under vars a c = let same = carried_given vars a in cc

apart_row : (vars : List FlatVar) (y : FlatExpr-F (Told vars)) (around : Bool) →
    apart_node vars (map-FlatExpr (Told vars) (Bool → Bool) (apart_of vars) y) around
    ≡ (carries_node vars (map-FlatExpr (Told vars) (FlatExpr × Bool) (λ t. (t.0, carries vars t.0)) y) && not (around && given_node vars (map-FlatExpr (Told vars) Bool (λ t. has_given vars t.0) y)))
apart_row vars (FlatExpr-F.Whole n) around = none around
apart_row vars (FlatExpr-F.Decimal t) around = none around
apart_row vars (FlatExpr-F.Str t) around = none around
apart_row vars (FlatExpr-F.Truth b) around = none around
apart_row vars (FlatExpr-F.Literal t) around = none around
apart_row vars FlatExpr-F.Time around = none around
apart_row vars (FlatExpr-F.Var w k) around = var around (is_given vars w)
apart_row vars (FlatExpr-F.Der a) around =
    a.1 true ∙ der (carries vars a.0) (has_given vars a.0) around ∙ ap (λ b. b && not (around && has_given vars a.0)) (sym (carries_under vars a.0 (carries vars a.0)))
apart_row vars (FlatExpr-F.Sum ts) around = parts around (λ (t : Bool × (Bool → Bool)). t.1 around) (λ t. (t.0, apart_of vars t.1)) (λ (t : Bool × (FlatExpr × Bool)). t.1.1) (λ t. (t.0, (t.1.0, carries vars t.1.0))) (λ (t : Bool × Bool). t.1) (λ t. (t.0, has_given vars t.1.0)) (λ t. t.1.1 around) ts
apart_row vars (FlatExpr-F.Product ts) around = parts around (λ (t : Bool × (Bool → Bool)). t.1 around) (λ t. (t.0, apart_of vars t.1)) (λ (t : Bool × (FlatExpr × Bool)). t.1.1) (λ t. (t.0, (t.1.0, carries vars t.1.0))) (λ (t : Bool × Bool). t.1) (λ t. (t.0, has_given vars t.1.0)) (λ t. t.1.1 around) ts
apart_row vars (FlatExpr-F.Power a b) around = both _ _ (carries vars a.0) (carries vars b.0) around (has_given vars a.0) (has_given vars b.0) (a.1 around) (b.1 around)
apart_row vars (FlatExpr-F.Call f args) around = parts around (λ (t : Bool → Bool). t around) (λ t. apart_of vars t) (λ (t : FlatExpr × Bool). t.1) (λ t. (t.0, carries vars t.0)) (λ (t : Bool). t) (λ t. has_given vars t.0) (λ t. t.1 around) args
apart_row vars (FlatExpr-F.Relation op a b) around = both _ _ (carries vars a.0) (carries vars b.0) around (has_given vars a.0) (has_given vars b.0) (a.1 around) (b.1 around)
apart_row vars (FlatExpr-F.Not a) around = a.1 around
apart_row vars (FlatExpr-F.All ps) around = parts around (λ (t : Bool → Bool). t around) (λ t. apart_of vars t) (λ (t : FlatExpr × Bool). t.1) (λ t. (t.0, carries vars t.0)) (λ (t : Bool). t) (λ t. has_given vars t.0) (λ t. t.1 around) ps
apart_row vars (FlatExpr-F.Any ps) around = parts around (λ (t : Bool → Bool). t around) (λ t. apart_of vars t) (λ (t : FlatExpr × Bool). t.1) (λ t. (t.0, carries vars t.0)) (λ (t : Bool). t) (λ t. has_given vars t.0) (λ t. t.1 around) ps
apart_row vars (FlatExpr-F.If bs o) around = both _ _ _ (carries vars o.0) around _ (has_given vars o.0)
    (parts around (λ (b : (Bool → Bool) × (Bool → Bool)). b.0 false && b.1 around) (λ b. (apart_of vars b.0, apart_of vars b.1)) (λ (b : (FlatExpr × Bool) × (FlatExpr × Bool)). b.0.1 && b.1.1) (λ b. ((b.0.0, carries vars b.0.0), (b.1.0, carries vars b.1.0)))
    (λ (b : Bool × Bool). b.1) (λ b. (has_given vars b.0.0, has_given vars b.1.0)) (λ b. ap (λ p. p && apart_of vars b.1 around) (b.0.1 false) ∙ ap (λ p. (carries vars b.0.0 && not (false && has_given vars b.0.0)) && p) (b.1.1 around)
    ∙ branch (carries vars b.0.0) (carries vars b.1.0) around (has_given vars b.0.0) (has_given vars b.1.0)) bs) (o.1 around)

rolled : (vars : List FlatVar) (y : FlatExpr-F (Told vars)) → Apart vars (roll-FlatExpr (map-FlatExpr (Told vars) FlatExpr (λ t. t.0) y))
rolled vars y around =
    let T : Type 0 = Told vars in
    let x : FlatExpr-F FlatExpr = map-FlatExpr T FlatExpr (λ t. t.0) y in
    let left : fold-FlatExpr (Bool → Bool) (apart_node vars) (roll-FlatExpr x) ≡ apart_node vars (map-FlatExpr T (Bool → Bool) (apart_of vars) y) =
    fold-roll-FlatExpr (Bool → Bool) (apart_node vars) x ∙ ap (apart_node vars) (mapped T FlatExpr (Bool → Bool) (fold-FlatExpr (Bool → Bool) (apart_node vars)) (λ t. t.0) y) in
    let middle : carries vars (roll-FlatExpr x) ≡ carries_node vars (map-FlatExpr T (FlatExpr × Bool) (λ t. (t.0, carries vars t.0)) y) =
    para-roll-FlatExpr Bool (carries_node vars) x ∙ ap (carries_node vars) (mapped T FlatExpr (FlatExpr × Bool) (λ z. (z, carries vars z)) (λ t. t.0) y) in
    let right : has_given vars (roll-FlatExpr x) ≡ given_node vars (map-FlatExpr T Bool (λ t. has_given vars t.0) y) =
    fold-roll-FlatExpr Bool (given_node vars) x ∙ ap (given_node vars) (mapped T FlatExpr Bool (has_given vars) (λ t. t.0) y) in
    ap (λ f. f around) left ∙ apart_row vars y around
    ∙ ap (λ c. c && not (around && given_node vars (map-FlatExpr T Bool (λ t. has_given vars t.0) y))) (sym middle)
    ∙ ap (λ b. carries vars (roll-FlatExpr x) && not (around && b)) (sym right)

pub apart : (vars : List FlatVar) (e : FlatExpr) → Apart vars e
apart vars = ind-FlatExpr (Apart vars) (λ x y is. subst (λ z. Apart vars (roll-FlatExpr z)) is (rolled vars y))

alone : (c : Bool) → (c && true) ≡ c
alone true = refl
alone false = refl

pub carries_apart : (vars : List FlatVar) (e : FlatExpr) → carries vars e ≡ is_apart vars e
carries_apart vars e = sym (apart vars e false ∙ alone (carries vars e))
