-- Two folds of an expression that are related where their steps are.
use Rattle.std.proofs.Common.{◌≡◌, List, [], ◌∷◌, map, refl, ap, ◌∙◌, sym, subst}
use Rattle.mo_flat.specs.declared.expr.FlatExpr.{FlatExpr, FlatExpr-F, fold-FlatExpr, fold-roll-FlatExpr, ind-FlatExpr, map-FlatExpr, roll-FlatExpr}

pub map_map : {X Y Z : Type 0} (g : Y → Z) (h : X → Y) (xs : List X) → map g (map h xs) ≡ map (λ x. g (h x)) xs
map_map g h [] = refl
map_map g h (x ∷ xs) = ap (λ r. g (h x) ∷ r) (map_map g h xs)

-- a node mapped twice
pub mapped : (X Y Z : Type 0) (g : Y → Z) (h : X → Y) (n : FlatExpr-F X) → map-FlatExpr Y Z g (map-FlatExpr X Y h n) ≡ map-FlatExpr X Z (λ x. g (h x)) n
mapped X Y Z g h (FlatExpr-F.Whole n) = refl
mapped X Y Z g h (FlatExpr-F.Decimal t) = refl
mapped X Y Z g h (FlatExpr-F.Str t) = refl
mapped X Y Z g h (FlatExpr-F.Truth b) = refl
mapped X Y Z g h (FlatExpr-F.Literal t) = refl
mapped X Y Z g h FlatExpr-F.Time = refl
mapped X Y Z g h (FlatExpr-F.Var v k) = refl
mapped X Y Z g h (FlatExpr-F.Der a) = refl
mapped X Y Z g h (FlatExpr-F.Sum ts) = ap (λ l. FlatExpr-F.Sum l) (map_map (λ t. (t.0, g t.1)) (λ t. (t.0, h t.1)) ts)
mapped X Y Z g h (FlatExpr-F.Product fs) = ap (λ l. FlatExpr-F.Product l) (map_map (λ t. (t.0, g t.1)) (λ t. (t.0, h t.1)) fs)
mapped X Y Z g h (FlatExpr-F.Power a b) = refl
mapped X Y Z g h (FlatExpr-F.Call f args) = ap (λ l. FlatExpr-F.Call f l) (map_map g h args)
mapped X Y Z g h (FlatExpr-F.Relation op a b) = refl
mapped X Y Z g h (FlatExpr-F.Not a) = refl
mapped X Y Z g h (FlatExpr-F.All ps) = ap (λ l. FlatExpr-F.All l) (map_map g h ps)
mapped X Y Z g h (FlatExpr-F.Any ps) = ap (λ l. FlatExpr-F.Any l) (map_map g h ps)
mapped X Y Z g h (FlatExpr-F.If bs o) = ap (λ l. FlatExpr-F.If l (g (h o))) (map_map (λ b. (g b.0, g b.1)) (λ b. (h b.0, h b.1)) bs)

-- two values with a relation between them
abbrev pub Related : (A B : Type 0) → (A → B → Type 0) → Type 0
Related A B R = (a : A) × (b : B) × R a b

-- two folds are related where their steps keep the relation
pub folds_related : (A B : Type 0) (f : FlatExpr-F A → A) (g : FlatExpr-F B → B) (R : A → B → Type 0) →
    ((n : FlatExpr-F (Related A B R)) → R (f (map-FlatExpr (Related A B R) A (λ r. r.0) n)) (g (map-FlatExpr (Related A B R) B (λ r. r.1) n))) →
    (e : FlatExpr) → R (fold-FlatExpr A f e) (fold-FlatExpr B g e)
folds_related A B f g R step = ind-FlatExpr (λ e. R (fold-FlatExpr A f e) (fold-FlatExpr B g e)) (λ x y is.
    let T : Type 0 = (e : FlatExpr) × R (fold-FlatExpr A f e) (fold-FlatExpr B g e) in
    let pair : T → Related A B R = λ t. (fold-FlatExpr A f t.0, fold-FlatExpr B g t.0, t.1) in
    let n : FlatExpr-F (Related A B R) = map-FlatExpr T (Related A B R) pair y in
    let left : f (map-FlatExpr (Related A B R) A (λ r. r.0) n) ≡ fold-FlatExpr A f (roll-FlatExpr x) =
    ap f (mapped T (Related A B R) A (λ r. r.0) pair y ∙ sym (mapped T FlatExpr A (fold-FlatExpr A f) (λ t. t.0) y) ∙ ap (map-FlatExpr FlatExpr A (fold-FlatExpr A f)) is)
    ∙ sym (fold-roll-FlatExpr A f x) in
    let right : g (map-FlatExpr (Related A B R) B (λ r. r.1) n) ≡ fold-FlatExpr B g (roll-FlatExpr x) =
    ap g (mapped T (Related A B R) B (λ r. r.1) pair y ∙ sym (mapped T FlatExpr B (fold-FlatExpr B g) (λ t. t.0) y) ∙ ap (map-FlatExpr FlatExpr B (fold-FlatExpr B g)) is)
    ∙ sym (fold-roll-FlatExpr B g x) in
    subst (λ b. R (fold-FlatExpr A f (roll-FlatExpr x)) b) right (subst (λ a. R a (g (map-FlatExpr (Related A B R) B (λ r. r.1) n))) left (step n)))
