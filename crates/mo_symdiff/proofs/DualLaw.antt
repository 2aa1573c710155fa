-- The value of the derivative is the first-order part of the dual number.
use Rattle.std.proofs.Common.{◌≡◌, ℕ, ℤ, pos, Bool, true, false, List, [], ◌∷◌, map, refl, ap, ◌∙◌, sym, subst}
use Rattle.std.specs.Prelude.{if◌then◌else◌, not, ◌||◌}
use Rattle.std.specs.List.{list_all, list_any}
use Rattle.std.proofs.lemmas.List.Folds.{list_all-map}
use Rattle.mo_flat.specs.declared.expr.FlatExpr.{FlatExpr, FlatExpr-F, fold-roll-FlatExpr, para-roll-FlatExpr, ind-FlatExpr, map-FlatExpr, roll-FlatExpr}
use Rattle.mo_flat.specs.declared.expr.FlatExpr.TheVariants.{Whole, Not, outs-All, outs-Any, outs-Not}
use Rattle.mo_flat.specs.declared.model.FlatVar.{FlatVar}
use Rattle.mo_symdiff.specs.Derivative.{Part, args_slope, derived, derive_node, next_order, slope_node}
use Rattle.mo_symdiff.specs.Dual.{Dual, Interpretation, args_part, dual_in, dual_product, dual_node, dual_of, first_chosen, is_zero, part_node, signed_sum, truth, value_in, value_node}
use Rattle.mo_symdiff.specs.Still.{is_still, still_node}
use Rattle.mo_symdiff.proofs.DualAt.{at_node, at_Whole, at_Var, at_Der, at_Call, at_If, at_Relation}
use Rattle.mo_symdiff.proofs.DualRows.{call_row, call_row_of_two, moving_row, power_row, product_row, sum_row, told}
use Rattle.mo_symdiff.proofs.SigmaGather.{map_map, mapped}

abbrev slope_of : List FlatVar → FlatExpr → Part
slope_of vars e = (e, derived vars e)

abbrev dual_pair : Interpretation → List FlatVar → FlatExpr → FlatExpr × Dual
dual_pair I vars e = (e, told I vars e)

-- the values of the derivatives of a list
slope_values : (I : Interpretation) (vars : List FlatVar) (es : List FlatExpr) → map (value_in I) (map (λ (p : Part). p.1) (map (slope_of vars) es)) ≡ map (λ (d : Dual). d.part) (map (told I vars) es)
slope_values I vars [] = refl
slope_values I vars (e ∷ es) = ap (λ l. value_in I (derived vars e) ∷ l) (slope_values I vars es)

args_row : (I : Interpretation) (vars : List FlatVar) (f : ℕ) (es : List FlatExpr) → value_in I (args_slope f (map (slope_of vars) es)) ≡ args_part I f (map (told I vars) es)
args_row I vars f [] = at_Call I f []
args_row I vars f (u ∷ []) = call_row I f u (derived vars u)
args_row I vars f (a ∷ b ∷ []) = call_row_of_two I vars f a b
args_row I vars f (a ∷ b ∷ c ∷ es) =
    at_Call I f (map (λ (p : Part). p.1) (map (slope_of vars) (a ∷ b ∷ c ∷ es))) ∙ ap (I.function f) (slope_values I vars (a ∷ b ∷ c ∷ es))

list_any_map : {A B : Type 0} (f : B → Bool) (h : A → B) (xs : List A) → list_any f (map h xs) ≡ list_any (λ x. f (h x)) xs
list_any_map f h [] = refl
list_any_map f h (x ∷ xs) = ap (λ b. f (h x) || b) (list_any_map f h xs)

branches : (I : Interpretation) (vars : List FlatVar) (bs : List (FlatExpr × FlatExpr)) →
    map {B = ℤ × ℤ} (λ b. (value_in I b.0, value_in I b.1)) (map {B = FlatExpr × FlatExpr} (λ (b : Part × Part). (b.0.0, b.1.1)) (map {B = Part × Part} (λ b. (slope_of vars b.0, slope_of vars b.1)) bs))
    ≡ map {B = ℤ × ℤ} (λ (b : (FlatExpr × Dual) × (FlatExpr × Dual)). (b.0.1.value, b.1.1.part)) (map {B = (FlatExpr × Dual) × (FlatExpr × Dual)} (λ b. (dual_pair I vars b.0, dual_pair I vars b.1)) bs)
branches I vars [] = refl
branches I vars (b ∷ bs) = ap (λ l. (value_in I b.0, value_in I (derived vars b.1)) ∷ l) (branches I vars bs)

-- a node that is not still
part_row : (I : Interpretation) (vars : List FlatVar) (x : FlatExpr-F FlatExpr) →
    value_in I (slope_node vars (map-FlatExpr FlatExpr Part (slope_of vars) x)) ≡ part_node I (map-FlatExpr FlatExpr (FlatExpr × Dual) (dual_pair I vars) x)
part_row I vars (FlatExpr-F.Whole n) = at_Whole I (pos 0)
part_row I vars (FlatExpr-F.Decimal t) = at_Whole I (pos 0)
part_row I vars (FlatExpr-F.Str t) = at_Whole I (pos 0)
part_row I vars (FlatExpr-F.Truth b) = at_Whole I (pos 0)
part_row I vars (FlatExpr-F.Literal t) = at_Whole I (pos 0)
part_row I vars FlatExpr-F.Time = at_Whole I (pos 1)
part_row I vars (FlatExpr-F.Var v k) = at_Var I v (next_order k)
part_row I vars (FlatExpr-F.Der a) = at_Der I (derived vars a)
part_row I vars (FlatExpr-F.Sum ts) =
    sum_row I _ ∙ moving_row I vars ts ∙ ap signed_sum (sym (map_map (λ (t : Bool × (FlatExpr × Dual)). (t.0, t.1.1.part)) (λ t. (t.0, dual_pair I vars t.1)) ts))
part_row I vars (FlatExpr-F.Product ts) =
    sum_row I _ ∙ sym (product_row I vars ts) ∙ ap (λ l. (dual_product I (pos 1, pos 0) l).1) (sym (map_map (λ (t : Bool × (FlatExpr × Dual)). (t.0, t.1.1)) (λ t. (t.0, dual_pair I vars t.1)) ts))
part_row I vars (FlatExpr-F.Power a b) = power_row I vars a b
part_row I vars (FlatExpr-F.Call f es) = args_row I vars f es ∙ ap (args_part I f) (sym (map_map (λ (a : FlatExpr × Dual). a.1) (dual_pair I vars) es))
part_row I vars (FlatExpr-F.Relation op a b) = at_Relation I op (derived vars a) (derived vars b)
part_row I vars (FlatExpr-F.Not a) = at_node I (Not (derived vars a)) (FlatExpr-F.Not (derived vars a)) (outs-Not (derived vars a))
part_row I vars (FlatExpr-F.All es) =
    at_node I _ (FlatExpr-F.All (map (λ (p : Part). p.1) (map (slope_of vars) es))) (outs-All (map (λ (p : Part). p.1) (map (slope_of vars) es)))
    ∙ ap truth (ap (list_all (λ v. not (is_zero v))) (slope_values I vars es ∙ map_map (λ (d : Dual). d.part) (told I vars) es)
    ∙ list_all-map (λ v. not (is_zero v)) (λ e. value_in I (derived vars e)) es
    ∙ sym (list_all-map (λ (x : FlatExpr × Dual). not (is_zero x.1.part)) (dual_pair I vars) es))
part_row I vars (FlatExpr-F.Any es) =
    at_node I _ (FlatExpr-F.Any (map (λ (p : Part). p.1) (map (slope_of vars) es))) (outs-Any (map (λ (p : Part). p.1) (map (slope_of vars) es)))
    ∙ ap truth (ap (list_any (λ v. not (is_zero v))) (slope_values I vars es ∙ map_map (λ (d : Dual). d.part) (told I vars) es)
    ∙ list_any_map (λ v. not (is_zero v)) (λ e. value_in I (derived vars e)) es
    ∙ sym (list_any_map (λ (x : FlatExpr × Dual). not (is_zero x.1.part)) (dual_pair I vars) es))
part_row I vars (FlatExpr-F.If bs o) =
    at_If I (map {B = FlatExpr × FlatExpr} (λ (b : Part × Part). (b.0.0, b.1.1)) (map {B = Part × Part} (λ b. (slope_of vars b.0, slope_of vars b.1)) bs)) (derived vars o)
    ∙ ap (λ l. first_chosen l (value_in I (derived vars o))) (branches I vars bs)

by_still : (I : Interpretation) (b : Bool) (s : FlatExpr) (p : ℤ) → value_in I s ≡ p → value_in I (if b then Whole (pos 0) else s) ≡ (if b then pos 0 else p)
by_still I true s p h = at_Whole I (pos 0)
by_still I false s p h = h

abbrev IsTold : Interpretation → List FlatVar → FlatExpr → Type 0
IsTold I vars e = dual_in I vars e ≡ told I vars e

abbrev Told : Interpretation → List FlatVar → Type 0
Told I vars = (e : FlatExpr) × IsTold I vars e

rolled : (I : Interpretation) (vars : List FlatVar) (y : FlatExpr-F (Told I vars)) → IsTold I vars (roll-FlatExpr (map-FlatExpr (Told I vars) FlatExpr (λ t. t.0) y))
rolled I vars y =
    let T : Type 0 = Told I vars in
    let x : FlatExpr-F FlatExpr = map-FlatExpr T FlatExpr (λ t. t.0) y in
    let e : FlatExpr = roll-FlatExpr x in
    let node : FlatExpr-F (FlatExpr × Dual) = map-FlatExpr FlatExpr (FlatExpr × Dual) (dual_pair I vars) x in
    let parts : map-FlatExpr FlatExpr (FlatExpr × Dual) (λ z. (z, dual_in I vars z)) x ≡ node =
    mapped T FlatExpr (FlatExpr × Dual) (λ z. (z, dual_in I vars z)) (λ t. t.0) y
    ∙ (λ i. map-FlatExpr T (FlatExpr × Dual) (λ t. (t.0, t.1 i)) y)
    ∙ sym (mapped T FlatExpr (FlatExpr × Dual) (dual_pair I vars) (λ t. t.0) y) in
    let stills : still_node vars (map-FlatExpr (FlatExpr × Dual) Bool (λ d. d.1.still) node) ≡ is_still vars e =
    ap (still_node vars) (mapped FlatExpr (FlatExpr × Dual) Bool (λ d. d.1.still) (dual_pair I vars) x) ∙ sym (fold-roll-FlatExpr Bool (still_node vars) x) in
    let values : value_node I (map-FlatExpr (FlatExpr × Dual) ℤ (λ d. d.1.value) node) ≡ value_in I e =
    ap (value_node I) (mapped FlatExpr (FlatExpr × Dual) ℤ (λ d. d.1.value) (dual_pair I vars) x) ∙ sym (fold-roll-FlatExpr ℤ (value_node I) x) in
    let slopes : FlatExpr-F Part = map-FlatExpr FlatExpr Part (slope_of vars) x in
    let slope_stills : still_node vars (map-FlatExpr Part Bool (λ p. is_still vars p.0) slopes) ≡ is_still vars e =
    ap (still_node vars) (mapped FlatExpr Part Bool (λ p. is_still vars p.0) (slope_of vars) x) ∙ sym (fold-roll-FlatExpr Bool (still_node vars) x) in
    let slope : value_in I (derived vars e) ≡ (if is_still vars e then pos 0 else part_node I node) =
    ap (value_in I) (para-roll-FlatExpr FlatExpr (derive_node vars) x)
    ∙ by_still I (still_node vars (map-FlatExpr Part Bool (λ p. is_still vars p.0) slopes)) (slope_node vars slopes) (part_node I node) (part_row I vars x)
    ∙ ap (λ b. if b then pos 0 else part_node I node) slope_stills in
    para-roll-FlatExpr Dual (dual_node I vars) x ∙ ap (dual_node I vars) parts
    ∙ ap (λ b. dual_of b (value_node I (map-FlatExpr (FlatExpr × Dual) ℤ (λ d. d.1.value) node)) (part_node I node)) stills
    ∙ ap (λ v. dual_of (is_still vars e) v (part_node I node)) values
    ∙ ap (λ p. record { still = is_still vars e; value = value_in I e; part = p }) (sym slope)

is_told : (I : Interpretation) (vars : List FlatVar) (e : FlatExpr) → IsTold I vars e
is_told I vars = ind-FlatExpr (IsTold I vars) (λ x y is. subst (λ z. IsTold I vars (roll-FlatExpr z)) is (rolled I vars y))

pub slope_is_part : (I : Interpretation) (vars : List FlatVar) (e : FlatExpr) → value_in I (derived vars e) ≡ (dual_in I vars e).part
slope_is_part I vars e = sym (ap (λ d. d.part) (is_told I vars e))

pub value_is_value : (I : Interpretation) (vars : List FlatVar) (e : FlatExpr) → (dual_in I vars e).value ≡ value_in I e
value_is_value I vars e = ap (λ d. d.value) (is_told I vars e)

pub still_is_constant : (I : Interpretation) (vars : List FlatVar) (e : FlatExpr) → (dual_in I vars e).still ≡ is_still vars e
still_is_constant I vars e = ap (λ d. d.still) (is_told I vars e)
