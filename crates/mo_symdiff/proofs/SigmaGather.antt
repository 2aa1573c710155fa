-- Numbers that are gathered over an expression, conditions left aside: the greatest of those of its variables.
use Rattle.std.proofs.Common.{◌≡◌, ℕ, List, [], ◌∷◌, map, refl, ap, ◌∙◌, sym, subst}
use Rattle.std.specs.Prelude.{max}
use Rattle.mo_flat.specs.declared.expr.FlatExpr.{FlatExpr, FlatExpr-F, fold-FlatExpr, fold-roll-FlatExpr, ind-FlatExpr, map-FlatExpr, roll-FlatExpr}

pub map_map : {X Y Z : Type 0} (g : Y → Z) (h : X → Y) (xs : List X) → map g (map h xs) ≡ map (λ x. g (h x)) xs
map_map g h [] = refl
map_map g h (x ∷ xs) = ap (λ r. g (h x) ∷ r) (map_map g h xs)

-- a node mapped twice
pub mapped : (X Y Z : Type 0) (g : Y → Z) (h : X → Y) (n : FlatExpr-F X) → map-FlatExpr Y Z g (map-FlatExpr X Y h n) ≡ map-FlatExpr X Z (λ x. g (h x)) n
mapped X Y Z g h (FlatExpr-F.Whole n) = refl
mapped X Y Z g h (FlatExpr-F.Decimal t) = refl
mapped X Y Z g h (FlatExpr-F.Str t) = refl
mapped X Y Z g h (FlatExpr-F.Truth b) = refl
mapped X Y Z g h (FlatExpr-F.Literal t) = refl
mapped X Y Z g h FlatExpr-F.Time = refl
mapped X Y Z g h (FlatExpr-F.Var v k) = refl
mapped X Y Z g h (FlatExpr-F.Der a) = refl
mapped X Y Z g h (FlatExpr-F.Sum ts) = ap (λ l. FlatExpr-F.Sum l) (map_map (λ t. (t.0, g t.1)) (λ t. (t.0, h t.1)) ts)
mapped X Y Z g h (FlatExpr-F.Product fs) = ap (λ l. FlatExpr-F.Product l) (map_map (λ t. (t.0, g t.1)) (λ t. (t.0, h t.1)) fs)
mapped X Y Z g h (FlatExpr-F.Power a b) = refl
mapped X Y Z g h (FlatExpr-F.Call f args) = ap (λ l. FlatExpr-F.Call f l) (map_map g h args)
mapped X Y Z g h (FlatExpr-F.Relation op a b) = refl
mapped X Y Z g h (FlatExpr-F.Not a) = refl
mapped X Y Z g h (FlatExpr-F.All ps) = ap (λ l. FlatExpr-F.All l) (map_map g h ps)
mapped X Y Z g h (FlatExpr-F.Any ps) = ap (λ l. FlatExpr-F.Any l) (map_map g h ps)
mapped X Y Z g h (FlatExpr-F.If bs o) = ap (λ l. FlatExpr-F.If l (g (h o))) (map_map (λ b. (g b.0, g b.1)) (λ b. (h b.0, h b.1)) bs)

-- two values with a relation between them
abbrev pub Related : (A B : Type 0) → (A → B → Type 0) → Type 0
Related A B R = (a : A) × (b : B) × R a b

-- two folds are related where their steps keep the relation
pub folds_related : (A B : Type 0) (f : FlatExpr-F A → A) (g : FlatExpr-F B → B) (R : A → B → Type 0) →
    ((n : FlatExpr-F (Related A B R)) → R (f (map-FlatExpr (Related A B R) A (λ r. r.0) n)) (g (map-FlatExpr (Related A B R) B (λ r. r.1) n))) →
    (e : FlatExpr) → R (fold-FlatExpr A f e) (fold-FlatExpr B g e)
folds_related A B f g R step = ind-FlatExpr (λ e. R (fold-FlatExpr A f e) (fold-FlatExpr B g e)) (λ x y is.
    let T : Type 0 = (e : FlatExpr) × R (fold-FlatExpr A f e) (fold-FlatExpr B g e) in
    let pair : T → Related A B R = λ t. (fold-FlatExpr A f t.0, fold-FlatExpr B g t.0, t.1) in
    let n : FlatExpr-F (Related A B R) = map-FlatExpr T (Related A B R) pair y in
    let left : f (map-FlatExpr (Related A B R) A (λ r. r.0) n) ≡ fold-FlatExpr A f (roll-FlatExpr x) =
    ap f (mapped T (Related A B R) A (λ r. r.0) pair y ∙ sym (mapped T FlatExpr A (fold-FlatExpr A f) (λ t. t.0) y) ∙ ap (map-FlatExpr FlatExpr A (fold-FlatExpr A f)) is)
    ∙ sym (fold-roll-FlatExpr A f x) in
    let right : g (map-FlatExpr (Related A B R) B (λ r. r.1) n) ≡ fold-FlatExpr B g (roll-FlatExpr x) =
    ap g (mapped T (Related A B R) B (λ r. r.1) pair y ∙ sym (mapped T FlatExpr B (fold-FlatExpr B g) (λ t. t.0) y) ∙ ap (map-FlatExpr FlatExpr B (fold-FlatExpr B g)) is)
    ∙ sym (fold-roll-FlatExpr B g x) in
    subst (λ b. R (fold-FlatExpr A f (roll-FlatExpr x)) b) right (subst (λ a. R a (g (map-FlatExpr (Related A B R) B (λ r. r.1) n))) left (step n)))

abbrev pub greatest_by : {X : Type 0} → (X → ℕ) → List X → ℕ
greatest_by f [] = 0
greatest_by f (x ∷ xs) = max (f x) (greatest_by f xs)

-- the greatest number of a node's parts
abbrev pub gather_node : (ℕ → ℕ → ℕ) → (ℕ → ℕ) → FlatExpr-F ℕ → ℕ
gather_node var der (FlatExpr-F.Var v k) = var v k
gather_node var der (FlatExpr-F.Der a) = der a
gather_node var der (FlatExpr-F.Sum ts) = greatest_by (λ t. t.1) ts
gather_node var der (FlatExpr-F.Product fs) = greatest_by (λ t. t.1) fs
gather_node var der (FlatExpr-F.Power a b) = max a b
gather_node var der (FlatExpr-F.Call f args) = greatest_by (λ a. a) args
gather_node var der (FlatExpr-F.Relation op a b) = max a b
gather_node var der (FlatExpr-F.Not a) = a
gather_node var der (FlatExpr-F.All ps) = greatest_by (λ a. a) ps
gather_node var der (FlatExpr-F.Any ps) = greatest_by (λ a. a) ps
gather_node var der (FlatExpr-F.If bs o) = max (greatest_by (λ b. b.1) bs) o
gather_node var der _ = 0

unfoldable pub gathered : (ℕ → ℕ → ℕ) → (ℕ → ℕ) → FlatExpr → ℕ
gathered var der = fold-FlatExpr ℕ (gather_node var der)

greatest_related : {T X Y : Type 0} (R : ℕ → ℕ → Type 0) → R 0 0 → ((a b c d : ℕ) → R a b → R c d → R (max a c) (max b d)) →
    (f : X → ℕ) (g : Y → ℕ) (p : T → X) (q : T → Y) → ((t : T) → R (f (p t)) (g (q t))) → (ts : List T) → R (greatest_by f (map p ts)) (greatest_by g (map q ts))
greatest_related R none join f g p q each [] = none
greatest_related R none join f g p q each (t ∷ ts) = join _ _ _ _ (each t) (greatest_related R none join f g p q each ts)

related : (R : ℕ → ℕ → Type 0) (var var' : ℕ → ℕ → ℕ) (der der' : ℕ → ℕ) → R 0 0 → ((a b c d : ℕ) → R a b → R c d → R (max a c) (max b d)) →
    ((v k : ℕ) → R (var v k) (var' v k)) → ((a b : ℕ) → R a b → R (der a) (der' b)) → (n : FlatExpr-F (Related ℕ ℕ R)) →
    R (gather_node var der (map-FlatExpr (Related ℕ ℕ R) ℕ (λ r. r.0) n)) (gather_node var' der' (map-FlatExpr (Related ℕ ℕ R) ℕ (λ r. r.1) n))
related R var var' der der' none join vars ders (FlatExpr-F.Whole n) = none
related R var var' der der' none join vars ders (FlatExpr-F.Decimal t) = none
related R var var' der der' none join vars ders (FlatExpr-F.Str t) = none
related R var var' der der' none join vars ders (FlatExpr-F.Truth b) = none
related R var var' der der' none join vars ders (FlatExpr-F.Literal t) = none
related R var var' der der' none join vars ders FlatExpr-F.Time = none
related R var var' der der' none join vars ders (FlatExpr-F.Var v k) = vars v k
related R var var' der der' none join vars ders (FlatExpr-F.Der a) = ders _ _ a.2
related R var var' der der' none join vars ders (FlatExpr-F.Sum ts) = greatest_related R none join (λ t. t.1) (λ t. t.1) (λ t. (t.0, t.1.0)) (λ t. (t.0, t.1.1)) (λ t. t.1.2) ts
related R var var' der der' none join vars ders (FlatExpr-F.Product ts) = greatest_related R none join (λ t. t.1) (λ t. t.1) (λ t. (t.0, t.1.0)) (λ t. (t.0, t.1.1)) (λ t. t.1.2) ts
related R var var' der der' none join vars ders (FlatExpr-F.Power a b) = join _ _ _ _ a.2 b.2
related R var var' der der' none join vars ders (FlatExpr-F.Call f args) = greatest_related R none join (λ t. t) (λ t. t) (λ t. t.0) (λ t. t.1) (λ t. t.2) args
related R var var' der der' none join vars ders (FlatExpr-F.Relation op a b) = join _ _ _ _ a.2 b.2
related R var var' der der' none join vars ders (FlatExpr-F.Not a) = a.2
related R var var' der der' none join vars ders (FlatExpr-F.All ps) = greatest_related R none join (λ t. t) (λ t. t) (λ t. t.0) (λ t. t.1) (λ t. t.2) ps
related R var var' der der' none join vars ders (FlatExpr-F.Any ps) = greatest_related R none join (λ t. t) (λ t. t) (λ t. t.0) (λ t. t.1) (λ t. t.2) ps
related R var var' der der' none join vars ders (FlatExpr-F.If bs o) =
    join _ _ _ _ (greatest_related R none join (λ t. t.1) (λ t. t.1) (λ t. (t.0.0, t.1.0)) (λ t. (t.0.1, t.1.1)) (λ t. t.1.2) bs) o.2

-- two gathered numbers are related where those of the variables are, and the relation goes through the greatest and
-- through derivatives
pub gathered_related : (R : ℕ → ℕ → Type 0) (var var' : ℕ → ℕ → ℕ) (der der' : ℕ → ℕ) → R 0 0 → ((a b c d : ℕ) → R a b → R c d → R (max a c) (max b d)) →
    ((v k : ℕ) → R (var v k) (var' v k)) → ((a b : ℕ) → R a b → R (der a) (der' b)) → (e : FlatExpr) → R (gathered var der e) (gathered var' der' e)
unfolding gathered
gathered_related R var var' der der' none join vars ders = folds_related ℕ ℕ (gather_node var der) (gather_node var' der') R (related R var var' der der' none join vars ders)
