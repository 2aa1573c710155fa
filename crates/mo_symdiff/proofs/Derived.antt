-- The derivative of an expression by its parts.
use Rattle.std.proofs.Common.{◌≡◌, ℕ, ℤ, pos, ◌+◌, ◌-◌, ◌<◌, ◌≤◌, Bool, true, false, List, [], ◌∷◌, ◌++◌, map, take, drop, get_or, length, refl, ap, ◌∙◌, sym, arith, append_assoc, add-one, take_all}
use Rattle.mo_flat.specs.Roles.{is_given, is_unknown}
use Rattle.std.specs.Prelude.{◌&&◌, ◌||◌, not, if◌then◌else◌}
use Rattle.std.specs.List.{list_all}
use Rattle.std.proofs.lemmas.Simd.{map-map}
use Rattle.std.proofs.lemmas.List.{take_more, map-append, length-drop}
use Rattle.std.proofs.lemmas.List.Folds.{list_all-map}
use Rattle.std.proofs.Math.Seq.{drop-cons}
use Rattle.mo_syntax.specs.declared.expr.RelOp.{RelOp}
use Rattle.mo_flat.specs.declared.expr.FlatExpr.{FlatExpr, FlatExpr-F, map-FlatExpr, para-roll-FlatExpr, roll-FlatExpr}
use Rattle.mo_flat.specs.declared.expr.FlatExpr.TheVariants.{Whole, Decimal, Str, Truth, Literal, Time, Var, Der, Sum, Product, Power, Call, Relation, Not, All, Any, If}
use Rattle.mo_flat.specs.declared.expr.FlatExpr.TheVariants.{rolls-Whole, rolls-Decimal, rolls-Str, rolls-Truth, rolls-Literal, rolls-Time, rolls-Var, rolls-Der, rolls-Sum, rolls-Product, rolls-Power, rolls-Call, rolls-Relation, rolls-Not, rolls-All, rolls-Any, rolls-If}
use Rattle.mo_flat.specs.declared.expr.FlatExpr.TheVariants.{outs-Whole, outs-Decimal, outs-Str, outs-Truth, outs-Literal, outs-Time, outs-Var, outs-Der, outs-Power, outs-Relation, outs-Not}
use Rattle.mo_flat.specs.declared.model.FlatVar.{FlatVar}
use Rattle.mo_symdiff.specs.Derivative.{Part, args_slope, derive_node, derived, moving_terms, next_order, one, plain_factors, power_slope, product_terms, replaced_factor, sum_of, with_slopes}
use Rattle.mo_symdiff.specs.Still.{is_still}
use Rattle.mo_symdiff.proofs.Tests.{still_at}

-- what a step answers for a node: whether it is still, and its derivative
pub IsSlope : List FlatVar → FlatExpr → Bool → FlatExpr → Type 0
IsSlope vars e still tree = (still ≡ is_still vars e) × (tree ≡ derived vars e)

-- the derivative where it is known whether the node is still
abbrev pub unless : Bool → FlatExpr → FlatExpr
unless still tree = if still then Whole (pos 0) else tree

made : (vars : List FlatVar) (e : FlatExpr) (node : FlatExpr-F FlatExpr) → roll-FlatExpr node ≡ e →
    derived vars e ≡ derive_node vars (map-FlatExpr FlatExpr Part (λ y. (y, derived vars y)) node)
made vars e node h = ap (derived vars) (sym h) ∙ para-roll-FlatExpr FlatExpr (derive_node vars) node

pub derived_Sum : (vars : List FlatVar) (ts : List (Bool × FlatExpr)) →
    derived vars (Sum ts) ≡ unless (list_all (λ t. is_still vars t.1) ts) (sum_of (moving_terms vars (with_slopes vars ts)))
derived_Sum vars ts = made vars (Sum ts) (FlatExpr-F.Sum ts) (rolls-Sum ts)
    ∙ ap (λ b. unless b (sum_of (moving_terms vars (with_slopes vars ts))))
    (list_all-map (λ t. t.1) (λ t. (t.0, is_still vars t.1.0)) (with_slopes vars ts) ∙ list_all-map (λ t. is_still vars t.1.0) (λ t. (t.0, (t.1, derived vars t.1))) ts)

pub derived_Product : (vars : List FlatVar) (ts : List (Bool × FlatExpr)) →
    derived vars (Product ts) ≡ unless (list_all (λ t. is_still vars t.1) ts) (sum_of (product_terms vars [] (with_slopes vars ts)))
derived_Product vars ts = made vars (Product ts) (FlatExpr-F.Product ts) (rolls-Product ts)
    ∙ ap (λ b. unless b (sum_of (product_terms vars [] (with_slopes vars ts))))
    (list_all-map (λ t. t.1) (λ t. (t.0, is_still vars t.1.0)) (with_slopes vars ts) ∙ list_all-map (λ t. is_still vars t.1.0) (λ t. (t.0, (t.1, derived vars t.1))) ts)

abbrev paired : List FlatVar → List FlatExpr → List Part
paired vars = map (λ e. (e, derived vars e))

all_still : (vars : List FlatVar) (es : List FlatExpr) → list_all (λ b. b) (map (λ p. is_still vars p.0) (paired vars es)) ≡ list_all (is_still vars) es
all_still vars es = list_all-map (λ b. b) (λ p. is_still vars p.0) (paired vars es) ∙ list_all-map (λ p. is_still vars p.0) (λ e. (e, derived vars e)) es

pub derived_Call : (vars : List FlatVar) (f : ℕ) (es : List FlatExpr) →
    derived vars (Call f es) ≡ unless (list_all (is_still vars) es) (args_slope f (map (λ e. (e, derived vars e)) es))
derived_Call vars f es = made vars (Call f es) (FlatExpr-F.Call f es) (rolls-Call f es) ∙ ap (λ b. unless b (args_slope f (paired vars es))) (all_still vars es)

pub derived_All : (vars : List FlatVar) (es : List FlatExpr) → derived vars (All es) ≡ unless (list_all (is_still vars) es) (All (map (derived vars) es))
derived_All vars es = made vars (All es) (FlatExpr-F.All es) (rolls-All es)
    ∙ ap (λ b. unless b (All (map (λ p. p.1) (paired vars es)))) (all_still vars es)
    ∙ ap (λ ds. unless (list_all (is_still vars) es) (All ds)) (map-map (λ p. p.1) (λ e. (e, derived vars e)) es)

pub derived_Any : (vars : List FlatVar) (es : List FlatExpr) → derived vars (Any es) ≡ unless (list_all (is_still vars) es) (Any (map (derived vars) es))
derived_Any vars es = made vars (Any es) (FlatExpr-F.Any es) (rolls-Any es)
    ∙ ap (λ b. unless b (Any (map (λ p. p.1) (paired vars es)))) (all_still vars es)
    ∙ ap (λ ds. unless (list_all (is_still vars) es) (Any ds)) (map-map (λ p. p.1) (λ e. (e, derived vars e)) es)

pub derived_If : (vars : List FlatVar) (bs : List (FlatExpr × FlatExpr)) (o : FlatExpr) →
    derived vars (If bs o) ≡ unless (list_all (λ b. is_still vars b.1) bs && is_still vars o) (If (map (λ b. (b.0, derived vars b.1)) bs) (derived vars o))
derived_If vars bs o =
    let pair : FlatExpr × FlatExpr → Part × Part = λ b. ((b.0, derived vars b.0), (b.1, derived vars b.1)) in
    made vars (If bs o) (FlatExpr-F.If bs o) (rolls-If bs o)
    ∙ ap (λ b. unless (b && is_still vars o) (If (map (λ b. (b.0.0, b.1.1)) (map pair bs)) (derived vars o)))
    (list_all-map (λ b. b.1) (λ b. (is_still vars b.0.0, is_still vars b.1.0)) (map pair bs) ∙ list_all-map (λ b. is_still vars b.1.0) pair bs)
    ∙ ap (λ ds. unless (list_all (λ b. is_still vars b.1) bs && is_still vars o) (If ds (derived vars o))) (map-map (λ b. (b.0.0, b.1.1)) pair bs)

-- a step that made the right tree of a node
pub step : (vars : List FlatVar) (e : FlatExpr) (all : Bool) (tree : FlatExpr) → is_still vars e ≡ all → derived vars e ≡ unless all tree →
    (given : Bool) (giventree : FlatExpr) → given ≡ all → giventree ≡ tree → (still : Bool) (result : FlatExpr) → still ≡ given → result ≡ unless given giventree →
    (still ≡ is_still vars e) × (result ≡ derived vars e)
step vars e all tree s d given giventree g gt still result h k = (h ∙ g ∙ sym s, k ∙ ap (λ b. unless b giventree) g ∙ ap (λ t. unless all t) gt ∙ sym d)

-- a term that is not still
abbrev pub moving_one : Bool → Bool × FlatExpr → List (Bool × FlatExpr)
moving_one still term = if still then [] else term ∷ []

abbrev pub moving_more : Bool → Bool × FlatExpr → List (Bool × FlatExpr) → List (Bool × FlatExpr)
moving_more still term more = if still then more else term ∷ more

pub all_push : {A : Type 0} (p : A → Bool) (xs : List A) (x : A) → list_all p (xs ++ x ∷ []) ≡ (list_all p xs && p x)
all_push p [] x = and_true (p x) where
  and_true : (b : Bool) → (b && true) ≡ b
  and_true true = refl
  and_true false = refl
all_push p (y ∷ xs) x = ap (λ b. p y && b) (all_push p xs x) ∙ assoc (p y) (list_all p xs) (p x) where
  assoc : (a b c : Bool) → (a && (b && c)) ≡ ((a && b) && c)
  assoc true b c = refl
  assoc false b c = refl

-- one more term
pub moving_push : (vars : List FlatVar) (ts : List (Bool × Part)) (t : Bool × Part) →
    moving_terms vars (ts ++ t ∷ []) ≡ moving_terms vars ts ++ moving_one (is_still vars t.1.0) (t.0, t.1.1)
moving_push vars [] t = refl
moving_push vars (x ∷ ts) t = grows (is_still vars x.1.0) (moving_push vars ts t) where
  grows : (b : Bool) → moving_terms vars (ts ++ t ∷ []) ≡ moving_terms vars ts ++ moving_one (is_still vars t.1.0) (t.0, t.1.1) →
      moving_more b (x.0, x.1.1) (moving_terms vars (ts ++ t ∷ [])) ≡
      moving_more b (x.0, x.1.1) (moving_terms vars ts) ++ moving_one (is_still vars t.1.0) (t.0, t.1.1)
  grows true h = h
  grows false h = ap (λ l. (x.0, x.1.1) ∷ l) h

-- leaves
pub at_Whole : (vars : List FlatVar) (n : ℤ) → (true ≡ is_still vars (Whole n)) × (Whole (pos 0) ≡ derived vars (Whole n))
at_Whole vars n = (sym (still_at vars (Whole n) (FlatExpr-F.Whole n) (outs-Whole n)), sym (made vars (Whole n) (FlatExpr-F.Whole n) (rolls-Whole n)))

pub at_Decimal : (vars : List FlatVar) (s : List ℕ) → (true ≡ is_still vars (Decimal s)) × (Whole (pos 0) ≡ derived vars (Decimal s))
at_Decimal vars s = (sym (still_at vars (Decimal s) (FlatExpr-F.Decimal s) (outs-Decimal s)), sym (made vars (Decimal s) (FlatExpr-F.Decimal s) (rolls-Decimal s)))

pub at_Str : (vars : List FlatVar) (s : List ℕ) → (true ≡ is_still vars (Str s)) × (Whole (pos 0) ≡ derived vars (Str s))
at_Str vars s = (sym (still_at vars (Str s) (FlatExpr-F.Str s) (outs-Str s)), sym (made vars (Str s) (FlatExpr-F.Str s) (rolls-Str s)))

pub at_Truth : (vars : List FlatVar) (b : Bool) → (true ≡ is_still vars (Truth b)) × (Whole (pos 0) ≡ derived vars (Truth b))
at_Truth vars b = (sym (still_at vars (Truth b) (FlatExpr-F.Truth b) (outs-Truth b)), sym (made vars (Truth b) (FlatExpr-F.Truth b) (rolls-Truth b)))

pub at_Literal : (vars : List FlatVar) (s : List ℕ) → (true ≡ is_still vars (Literal s)) × (Whole (pos 0) ≡ derived vars (Literal s))
at_Literal vars s = (sym (still_at vars (Literal s) (FlatExpr-F.Literal s) (outs-Literal s)), sym (made vars (Literal s) (FlatExpr-F.Literal s) (rolls-Literal s)))

pub at_Time : (vars : List FlatVar) → (false ≡ is_still vars Time) × (one ≡ derived vars Time)
at_Time vars = (sym (still_at vars Time FlatExpr-F.Time outs-Time), sym (made vars Time FlatExpr-F.Time rolls-Time))

pub derived_Var : (vars : List FlatVar) (v k : ℕ) → derived vars (Var v k) ≡ unless (is_still vars (Var v k)) (Var v (next_order k))
derived_Var vars v k = made vars (Var v k) (FlatExpr-F.Var v k) (rolls-Var v k) ∙ ap (λ b. unless b (Var v (next_order k))) (sym (still_at vars (Var v k) (FlatExpr-F.Var v k) (outs-Var v k)))

pub still_Var : (vars : List FlatVar) (v k : ℕ) → is_still vars (Var v k) ≡ not (is_unknown vars v || is_given vars v)
still_Var vars v k = still_at vars (Var v k) (FlatExpr-F.Var v k) (outs-Var v k)

pub still_Der : (vars : List FlatVar) (a : FlatExpr) → is_still vars (Der a) ≡ is_still vars a
still_Der vars a = still_at vars (Der a) (FlatExpr-F.Der a) (outs-Der a)

pub still_Not : (vars : List FlatVar) (a : FlatExpr) → is_still vars (Not a) ≡ is_still vars a
still_Not vars a = still_at vars (Not a) (FlatExpr-F.Not a) (outs-Not a)

pub still_Power : (vars : List FlatVar) (a b : FlatExpr) → is_still vars (Power a b) ≡ (is_still vars a && is_still vars b)
still_Power vars a b = still_at vars (Power a b) (FlatExpr-F.Power a b) (outs-Power a b)

pub still_Relation : (vars : List FlatVar) (op : RelOp) (a b : FlatExpr) → is_still vars (Relation op a b) ≡ (is_still vars a && is_still vars b)
still_Relation vars op a b = still_at vars (Relation op a b) (FlatExpr-F.Relation op a b) (outs-Relation op a b)

pub derived_Der : (vars : List FlatVar) (a : FlatExpr) → derived vars (Der a) ≡ unless (is_still vars a) (Der (derived vars a))
derived_Der vars a = made vars (Der a) (FlatExpr-F.Der a) (rolls-Der a)

pub derived_Not : (vars : List FlatVar) (a : FlatExpr) → derived vars (Not a) ≡ unless (is_still vars a) (Not (derived vars a))
derived_Not vars a = made vars (Not a) (FlatExpr-F.Not a) (rolls-Not a)

pub derived_Power : (vars : List FlatVar) (a b : FlatExpr) → derived vars (Power a b) ≡ unless (is_still vars a && is_still vars b) (power_slope vars (a, derived vars a) (b, derived vars b))
derived_Power vars a b = made vars (Power a b) (FlatExpr-F.Power a b) (rolls-Power a b)

pub derived_Relation : (vars : List FlatVar) (op : RelOp) (a b : FlatExpr) → derived vars (Relation op a b) ≡ unless (is_still vars a && is_still vars b) (Relation op (derived vars a) (derived vars b))
derived_Relation vars op a b = made vars (Relation op a b) (FlatExpr-F.Relation op a b) (rolls-Relation op a b)

-- a turn of the loop over terms
pub sum_turn : (vars : List FlatVar) (xs : List (Bool × FlatExpr)) (i : ℕ) (x : Bool × FlatExpr) (still s still2 : Bool) (made made2 : List (Bool × FlatExpr)) (tree : FlatExpr) →
    i < length xs → x ≡ get_or xs i x → still ≡ list_all (λ t. is_still vars t.1) (take i xs) → made ≡ moving_terms vars (with_slopes vars (take i xs)) →
    s ≡ is_still vars x.1 → tree ≡ derived vars x.1 → still2 ≡ (still && s) → made2 ≡ made ++ moving_one s (x.0, tree) →
    (still2 ≡ list_all (λ t. is_still vars t.1) (take (i + 1) xs)) × (made2 ≡ moving_terms vars (with_slopes vars (take (i + 1) xs)))
sum_turn vars xs i x still s still2 made made2 tree l is h k hs ht h2 k2 =
    let more : take (i + 1) xs ≡ take i xs ++ x ∷ [] = take_more xs i x l ∙ ap (λ y. take i xs ++ y ∷ []) (sym is) in
    let all : list_all (λ t. is_still vars t.1) (take i xs ++ x ∷ []) ≡ (list_all (λ t. is_still vars t.1) (take i xs) && is_still vars x.1) = all_push (λ t. is_still vars t.1) (take i xs) x in
    let slopes : with_slopes vars (take i xs ++ x ∷ []) ≡ with_slopes vars (take i xs) ++ (x.0, (x.1, derived vars x.1)) ∷ [] = map-append (λ t. (t.0, (t.1, derived vars t.1))) (take i xs) (x ∷ []) in (
      h2 ∙ ap (λ b. b && s) h ∙ ap (λ b. list_all (λ t. is_still vars t.1) (take i xs) && b) hs ∙ sym (ap (list_all (λ t. is_still vars t.1)) more ∙ all),
      k2 ∙ ap (λ m. m ++ moving_one s (x.0, tree)) k ∙ ap (λ b. moving_terms vars (with_slopes vars (take i xs)) ++ moving_one b (x.0, tree)) hs
          ∙ ap (λ d. moving_terms vars (with_slopes vars (take i xs)) ++ moving_one (is_still vars x.1) (x.0, d)) ht
          ∙ sym (ap (λ ts. moving_terms vars (with_slopes vars ts)) more ∙ ap (moving_terms vars) slopes ∙ moving_push vars (with_slopes vars (take i xs)) (x.0, (x.1, derived vars x.1))),
    )

plain : (vars : List FlatVar) (xs : List (Bool × FlatExpr)) → plain_factors (with_slopes vars xs) ≡ xs
plain vars [] = refl
plain vars (x ∷ xs) = ap (λ l. x ∷ l) (plain vars xs)

-- the factor at the front of what is left
pub product_front : (vars : List FlatVar) (before : List (Bool × FlatExpr)) (x : Bool × FlatExpr) (after : List (Bool × FlatExpr)) →
    product_terms vars before (with_slopes vars (x ∷ after)) ≡ (moving_one (is_still vars x.1) (replaced_factor before (x.0, (x.1, derived vars x.1)) after)) ++ product_terms vars (before ++ x ∷ []) (with_slopes vars after)
product_front vars before x after = by_case (is_still vars x.1) where
  rest : List (Bool × FlatExpr)
  rest = product_terms vars (before ++ x ∷ []) (with_slopes vars after)

  by_case : (b : Bool) → moving_more b (replaced_factor before (x.0, (x.1, derived vars x.1)) (plain_factors (with_slopes vars after))) rest ≡
      (moving_one (b) (replaced_factor before (x.0, (x.1, derived vars x.1)) after)) ++ rest
  by_case true = refl
  by_case false = ap (λ l. replaced_factor before (x.0, (x.1, derived vars x.1)) l ∷ rest) (plain vars after)

-- what is behind a place
pub rest_of : {A : Type 0} (xs : List A) (n : ℕ) → n ≤ length xs → take (length xs - n) (drop n xs) ≡ drop n xs
rest_of xs n l = take_all (length xs - n) (drop n xs) (rw (length-drop n xs) (omega arith))

-- a turn of the loop over factors
pub product_turn : (vars : List FlatVar) (xs : List (Bool × FlatExpr)) (i : ℕ) (d x : Bool × FlatExpr) (still s still2 : Bool) (made made2 before after : List (Bool × FlatExpr)) (tree : FlatExpr) →
    i < length xs → x ≡ get_or xs i d → before ≡ take i xs → after ≡ drop (i + 1) xs → still ≡ list_all (λ t. is_still vars t.1) (take i xs) →
    made ++ product_terms vars (take i xs) (with_slopes vars (drop i xs)) ≡ product_terms vars [] (with_slopes vars xs) →
    s ≡ is_still vars x.1 → tree ≡ derived vars x.1 → still2 ≡ (still && s) → made2 ≡ made ++ (moving_one (s) (replaced_factor before (x.0, (x.1, tree)) after)) →
    (still2 ≡ list_all (λ t. is_still vars t.1) (take (i + 1) xs)) × (made2 ++ product_terms vars (take (i + 1) xs) (with_slopes vars (drop (i + 1) xs)) ≡ product_terms vars [] (with_slopes vars xs))
product_turn vars xs i d x still s still2 made made2 before after tree l is hb ha h k hs ht h2 k2 =
    let more : take (i + 1) xs ≡ take i xs ++ x ∷ [] = take_more xs i d l ∙ ap (λ y. take i xs ++ y ∷ []) (sym is) in
    let front : drop i xs ≡ x ∷ drop (i + 1) xs = drop-cons xs i d l ∙ ap (λ n. get_or xs i d ∷ drop n xs) (sym (add-one i)) ∙ ap (λ y. y ∷ drop (i + 1) xs) (sym is) in
    let all : list_all (λ t. is_still vars t.1) (take i xs ++ x ∷ []) ≡ (list_all (λ t. is_still vars t.1) (take i xs) && is_still vars x.1) = all_push (λ t. is_still vars t.1) (take i xs) x in
    let rest : List (Bool × FlatExpr) = product_terms vars (take (i + 1) xs) (with_slopes vars (drop (i + 1) xs)) in
    let term : List (Bool × FlatExpr) = moving_one (is_still vars x.1) (replaced_factor (take i xs) (x.0, (x.1, derived vars x.1)) (drop (i + 1) xs)) in
    let same : (moving_one (s) (replaced_factor before (x.0, (x.1, tree)) after)) ≡ term =
    ap (λ b. moving_one (b) (replaced_factor before (x.0, (x.1, tree)) after)) hs ∙ ap (λ t. moving_one (is_still vars x.1) (replaced_factor before (x.0, (x.1, t)) after)) ht
    ∙ ap (λ l. moving_one (is_still vars x.1) (replaced_factor l (x.0, (x.1, derived vars x.1)) after)) hb ∙ ap (λ l. moving_one (is_still vars x.1) (replaced_factor (take i xs) (x.0, (x.1, derived vars x.1)) l)) ha in
    let opens : product_terms vars (take i xs) (with_slopes vars (drop i xs)) ≡ term ++ rest =
    ap (λ ys. product_terms vars (take i xs) (with_slopes vars ys)) front ∙ product_front vars (take i xs) x (drop (i + 1) xs) ∙ ap (λ b. term ++ product_terms vars b (with_slopes vars (drop (i + 1) xs))) (sym more) in (
      h2 ∙ ap (λ b. b && s) h ∙ ap (λ b. list_all (λ t. is_still vars t.1) (take i xs) && b) hs ∙ sym (ap (list_all (λ t. is_still vars t.1)) more ∙ all),
      ap (λ m. m ++ rest) (k2 ∙ ap (λ t. made ++ t) same) ∙ append_assoc made term rest ∙ ap (λ t. made ++ t) (sym opens) ∙ k,
    )
