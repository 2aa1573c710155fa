-- Expressions with other variables in the places of theirs, by their nodes: what of them stays still, and what values they have.
use Rattle.std.proofs.Common.{◌≡◌, ℕ, ℤ, neg_ℤ, Bool, true, false, List, [], ◌∷◌, map, refl, ap, ap₂, ◌∙◌}
use Rattle.std.proofs.Math.IntN.{+ℤ_idr}
use Rattle.mo_flat.specs.declared.expr.FlatExpr.{FlatExpr, FlatExpr-F, fold-roll-FlatExpr, map-FlatExpr, roll-FlatExpr}
use Rattle.mo_flat.specs.declared.expr.FlatExpr.TheVariants.{Var}
use Rattle.mo_flat.specs.declared.model.FlatVar.{FlatVar}
use Rattle.mo_symdiff.specs.Dual.{Interpretation, signed, value_in, value_node}
use Rattle.mo_symdiff.specs.Still.{is_still, still_node}
use Rattle.mo_symdiff.proofs.DualAt.{at_Sum, at_Var}
use Rattle.mo_symdiff.proofs.SigmaGather.{folds_related, mapped, Related}
use Rattle.mo_alias.specs.Without.{order_of, replace_node, replaced}

-- ---- nodes

pub map_same : {X Y : Type 0} (f g : X → Y) → ((x : X) → f x ≡ g x) → (xs : List X) → map f xs ≡ map g xs
map_same f g e [] = refl
map_same f g e (x ∷ xs) = ap₂ (λ y ys. y ∷ ys) (e x) (map_same f g e xs)

-- a node whose parts become the same
pub same_node : (X Y : Type 0) (f g : X → Y) → ((x : X) → f x ≡ g x) → (n : FlatExpr-F X) → map-FlatExpr X Y f n ≡ map-FlatExpr X Y g n
same_node X Y f g e (FlatExpr-F.Whole i) = refl
same_node X Y f g e (FlatExpr-F.Decimal x) = refl
same_node X Y f g e (FlatExpr-F.Str x) = refl
same_node X Y f g e (FlatExpr-F.Truth b) = refl
same_node X Y f g e (FlatExpr-F.Literal x) = refl
same_node X Y f g e FlatExpr-F.Time = refl
same_node X Y f g e (FlatExpr-F.Var v k) = refl
same_node X Y f g e (FlatExpr-F.Der a) = ap (λ x. FlatExpr-F.Der x) (e a)
same_node X Y f g e (FlatExpr-F.Sum ts) = ap (λ l. FlatExpr-F.Sum l) (map_same (λ t. (t.0, f t.1)) (λ t. (t.0, g t.1)) (λ t. ap (λ x. (t.0, x)) (e t.1)) ts)
same_node X Y f g e (FlatExpr-F.Product ts) = ap (λ l. FlatExpr-F.Product l) (map_same (λ t. (t.0, f t.1)) (λ t. (t.0, g t.1)) (λ t. ap (λ x. (t.0, x)) (e t.1)) ts)
same_node X Y f g e (FlatExpr-F.Power a b) = ap₂ (λ x y. FlatExpr-F.Power x y) (e a) (e b)
same_node X Y f g e (FlatExpr-F.Call k es) = ap (λ l. FlatExpr-F.Call k l) (map_same f g e es)
same_node X Y f g e (FlatExpr-F.Relation op a b) = ap₂ (λ x y. FlatExpr-F.Relation op x y) (e a) (e b)
same_node X Y f g e (FlatExpr-F.Not a) = ap (λ x. FlatExpr-F.Not x) (e a)
same_node X Y f g e (FlatExpr-F.All es) = ap (λ l. FlatExpr-F.All l) (map_same f g e es)
same_node X Y f g e (FlatExpr-F.Any es) = ap (λ l. FlatExpr-F.Any l) (map_same f g e es)
same_node X Y f g e (FlatExpr-F.If bs o) = ap₂ (λ l x. FlatExpr-F.If l x) (map_same (λ b. (f b.0, f b.1)) (λ b. (g b.0, g b.1)) (λ b. ap₂ (λ x y. (x, y)) (e b.0) (e b.1)) bs) (e o)

-- a node that is no variable
abbrev pub IsOther : {X : Type 0} → FlatExpr-F X → Type 0
IsOther (FlatExpr-F.Var v k) = ⊥
IsOther _ = Unit {0}

-- what is no variable stays as it is
pub other_node : (place : ℕ → Bool × ℕ) (n : FlatExpr-F FlatExpr) → IsOther n → replace_node place n ≡ roll-FlatExpr n
other_node place (FlatExpr-F.Var v k) other = absurd other
other_node place (FlatExpr-F.Whole i) other = refl
other_node place (FlatExpr-F.Decimal x) other = refl
other_node place (FlatExpr-F.Str x) other = refl
other_node place (FlatExpr-F.Truth b) other = refl
other_node place (FlatExpr-F.Literal x) other = refl
other_node place FlatExpr-F.Time other = refl
other_node place (FlatExpr-F.Der a) other = refl
other_node place (FlatExpr-F.Sum ts) other = refl
other_node place (FlatExpr-F.Product ts) other = refl
other_node place (FlatExpr-F.Power a b) other = refl
other_node place (FlatExpr-F.Call k es) other = refl
other_node place (FlatExpr-F.Relation op a b) other = refl
other_node place (FlatExpr-F.Not a) other = refl
other_node place (FlatExpr-F.All es) other = refl
other_node place (FlatExpr-F.Any es) other = refl
other_node place (FlatExpr-F.If bs o) other = refl

pub other_still : (vars new : List FlatVar) (n : FlatExpr-F Bool) → IsOther n → still_node new n ≡ still_node vars n
other_still vars new (FlatExpr-F.Var v k) other = absurd other
other_still vars new (FlatExpr-F.Whole i) other = refl
other_still vars new (FlatExpr-F.Decimal x) other = refl
other_still vars new (FlatExpr-F.Str x) other = refl
other_still vars new (FlatExpr-F.Truth b) other = refl
other_still vars new (FlatExpr-F.Literal x) other = refl
other_still vars new FlatExpr-F.Time other = refl
other_still vars new (FlatExpr-F.Der a) other = refl
other_still vars new (FlatExpr-F.Sum ts) other = refl
other_still vars new (FlatExpr-F.Product ts) other = refl
other_still vars new (FlatExpr-F.Power a b) other = refl
other_still vars new (FlatExpr-F.Call k es) other = refl
other_still vars new (FlatExpr-F.Relation op a b) other = refl
other_still vars new (FlatExpr-F.Not a) other = refl
other_still vars new (FlatExpr-F.All es) other = refl
other_still vars new (FlatExpr-F.Any es) other = refl
other_still vars new (FlatExpr-F.If bs o) other = refl

-- ---- what is still

module _ (place : ℕ → Bool × ℕ) (vars new : List FlatVar) (same : (v k : ℕ) → is_still new (order_of (place v) k) ≡ still_node vars (FlatExpr-F.Var v k)) where
  StillAs : FlatExpr → Bool → Type 0
  StillAs x b = is_still new x ≡ b

  still_other : (n : FlatExpr-F (Related FlatExpr Bool (λ x b. is_still new x ≡ b))) → IsOther (map-FlatExpr (Related FlatExpr Bool (λ x b. is_still new x ≡ b)) FlatExpr (λ r. r.0) n)
      → IsOther (map-FlatExpr (Related FlatExpr Bool (λ x b. is_still new x ≡ b)) Bool (λ r. r.1) n)
      → is_still new (replace_node place (map-FlatExpr (Related FlatExpr Bool (λ x b. is_still new x ≡ b)) FlatExpr (λ r. r.0) n))
      ≡ still_node vars (map-FlatExpr (Related FlatExpr Bool (λ x b. is_still new x ≡ b)) Bool (λ r. r.1) n)
  still_other n other also =
      let R : Type 0 = Related FlatExpr Bool (λ x b. is_still new x ≡ b) in
      ap (is_still new) (other_node place (map-FlatExpr R FlatExpr (λ r. r.0) n) other) ∙ fold-roll-FlatExpr Bool (still_node new) (map-FlatExpr R FlatExpr (λ r. r.0) n)
      ∙ ap (still_node new) (mapped R FlatExpr Bool (is_still new) (λ r. r.0) n ∙ same_node R Bool (λ r. is_still new r.0) (λ r. r.1) (λ r. r.2) n)
      ∙ other_still vars new (map-FlatExpr R Bool (λ r. r.1) n) also

  still_step : (n : FlatExpr-F (Related FlatExpr Bool (λ x b. is_still new x ≡ b)))
      → is_still new (replace_node place (map-FlatExpr (Related FlatExpr Bool (λ x b. is_still new x ≡ b)) FlatExpr (λ r. r.0) n))
      ≡ still_node vars (map-FlatExpr (Related FlatExpr Bool (λ x b. is_still new x ≡ b)) Bool (λ r. r.1) n)
  still_step (FlatExpr-F.Var v k) = same v k
  still_step (FlatExpr-F.Whole i) = still_other (FlatExpr-F.Whole i) tt tt
  still_step (FlatExpr-F.Decimal x) = still_other (FlatExpr-F.Decimal x) tt tt
  still_step (FlatExpr-F.Str x) = still_other (FlatExpr-F.Str x) tt tt
  still_step (FlatExpr-F.Truth b) = still_other (FlatExpr-F.Truth b) tt tt
  still_step (FlatExpr-F.Literal x) = still_other (FlatExpr-F.Literal x) tt tt
  still_step FlatExpr-F.Time = still_other FlatExpr-F.Time tt tt
  still_step (FlatExpr-F.Der a) = still_other (FlatExpr-F.Der a) tt tt
  still_step (FlatExpr-F.Sum ts) = still_other (FlatExpr-F.Sum ts) tt tt
  still_step (FlatExpr-F.Product ts) = still_other (FlatExpr-F.Product ts) tt tt
  still_step (FlatExpr-F.Power a b) = still_other (FlatExpr-F.Power a b) tt tt
  still_step (FlatExpr-F.Call k es) = still_other (FlatExpr-F.Call k es) tt tt
  still_step (FlatExpr-F.Relation op a b) = still_other (FlatExpr-F.Relation op a b) tt tt
  still_step (FlatExpr-F.Not a) = still_other (FlatExpr-F.Not a) tt tt
  still_step (FlatExpr-F.All es) = still_other (FlatExpr-F.All es) tt tt
  still_step (FlatExpr-F.Any es) = still_other (FlatExpr-F.Any es) tt tt
  still_step (FlatExpr-F.If bs o) = still_other (FlatExpr-F.If bs o) tt tt

  pub still_same : (e : FlatExpr) → is_still new (replaced place e) ≡ is_still vars e
  still_same = folds_related FlatExpr Bool (replace_node place) (still_node vars) (λ x b. is_still new x ≡ b) still_step

-- ---- values

module _ (place : ℕ → Bool × ℕ) (I : Interpretation) where
  -- each order of a variable has the number of what stands in its place
  abbrev pub moved : Interpretation
  moved = record {
    time = I.time;
    variable = λ variable order. signed (place variable).0 (I.variable (place variable).1 order);
    decimal = I.decimal;
    string = I.string;
    literal = I.literal;
    function = I.function;
    power = I.power;
    reciprocal = I.reciprocal;
  }

  order_value : (at : Bool × ℕ) (k : ℕ) → value_in I (order_of at k) ≡ signed at.0 (I.variable at.1 k)
  order_value (false, v) k = at_Var I v k
  order_value (true, v) k = at_Sum I ((true, Var v k) ∷ []) ∙ +ℤ_idr (neg_ℤ (value_in I (Var v k))) ∙ ap neg_ℤ (at_Var I v k)

  other_value : (n : FlatExpr-F ℤ) → IsOther n → value_node I n ≡ value_node moved n
  other_value (FlatExpr-F.Var v k) other = absurd other
  other_value (FlatExpr-F.Whole i) other = refl
  other_value (FlatExpr-F.Decimal x) other = refl
  other_value (FlatExpr-F.Str x) other = refl
  other_value (FlatExpr-F.Truth b) other = refl
  other_value (FlatExpr-F.Literal x) other = refl
  other_value FlatExpr-F.Time other = refl
  other_value (FlatExpr-F.Der a) other = refl
  other_value (FlatExpr-F.Sum ts) other = refl
  other_value (FlatExpr-F.Product ts) other = refl
  other_value (FlatExpr-F.Power a b) other = refl
  other_value (FlatExpr-F.Call k es) other = refl
  other_value (FlatExpr-F.Relation op a b) other = refl
  other_value (FlatExpr-F.Not a) other = refl
  other_value (FlatExpr-F.All es) other = refl
  other_value (FlatExpr-F.Any es) other = refl
  other_value (FlatExpr-F.If bs o) other = refl

  value_other : (n : FlatExpr-F (Related FlatExpr ℤ (λ x z. value_in I x ≡ z))) → IsOther (map-FlatExpr (Related FlatExpr ℤ (λ x z. value_in I x ≡ z)) FlatExpr (λ r. r.0) n)
      → IsOther (map-FlatExpr (Related FlatExpr ℤ (λ x z. value_in I x ≡ z)) ℤ (λ r. r.1) n)
      → value_in I (replace_node place (map-FlatExpr (Related FlatExpr ℤ (λ x z. value_in I x ≡ z)) FlatExpr (λ r. r.0) n))
      ≡ value_node moved (map-FlatExpr (Related FlatExpr ℤ (λ x z. value_in I x ≡ z)) ℤ (λ r. r.1) n)
  value_other n other also =
      let R : Type 0 = Related FlatExpr ℤ (λ x z. value_in I x ≡ z) in
      ap (value_in I) (other_node place (map-FlatExpr R FlatExpr (λ r. r.0) n) other) ∙ fold-roll-FlatExpr ℤ (value_node I) (map-FlatExpr R FlatExpr (λ r. r.0) n)
      ∙ ap (value_node I) (mapped R FlatExpr ℤ (value_in I) (λ r. r.0) n ∙ same_node R ℤ (λ r. value_in I r.0) (λ r. r.1) (λ r. r.2) n)
      ∙ other_value (map-FlatExpr R ℤ (λ r. r.1) n) also

  value_step : (n : FlatExpr-F (Related FlatExpr ℤ (λ x z. value_in I x ≡ z)))
      → value_in I (replace_node place (map-FlatExpr (Related FlatExpr ℤ (λ x z. value_in I x ≡ z)) FlatExpr (λ r. r.0) n))
      ≡ value_node moved (map-FlatExpr (Related FlatExpr ℤ (λ x z. value_in I x ≡ z)) ℤ (λ r. r.1) n)
  value_step (FlatExpr-F.Var v k) = order_value (place v) k
  value_step (FlatExpr-F.Whole i) = value_other (FlatExpr-F.Whole i) tt tt
  value_step (FlatExpr-F.Decimal x) = value_other (FlatExpr-F.Decimal x) tt tt
  value_step (FlatExpr-F.Str x) = value_other (FlatExpr-F.Str x) tt tt
  value_step (FlatExpr-F.Truth b) = value_other (FlatExpr-F.Truth b) tt tt
  value_step (FlatExpr-F.Literal x) = value_other (FlatExpr-F.Literal x) tt tt
  value_step FlatExpr-F.Time = value_other FlatExpr-F.Time tt tt
  value_step (FlatExpr-F.Der a) = value_other (FlatExpr-F.Der a) tt tt
  value_step (FlatExpr-F.Sum ts) = value_other (FlatExpr-F.Sum ts) tt tt
  value_step (FlatExpr-F.Product ts) = value_other (FlatExpr-F.Product ts) tt tt
  value_step (FlatExpr-F.Power a b) = value_other (FlatExpr-F.Power a b) tt tt
  value_step (FlatExpr-F.Call k es) = value_other (FlatExpr-F.Call k es) tt tt
  value_step (FlatExpr-F.Relation op a b) = value_other (FlatExpr-F.Relation op a b) tt tt
  value_step (FlatExpr-F.Not a) = value_other (FlatExpr-F.Not a) tt tt
  value_step (FlatExpr-F.All es) = value_other (FlatExpr-F.All es) tt tt
  value_step (FlatExpr-F.Any es) = value_other (FlatExpr-F.Any es) tt tt
  value_step (FlatExpr-F.If bs o) = value_other (FlatExpr-F.If bs o) tt tt

  -- an expression has the value of what stands in its place
  pub value_same : (e : FlatExpr) → value_in I (replaced place e) ≡ value_in moved e
  value_same = folds_related FlatExpr ℤ (replace_node place) (value_node moved) (λ x z. value_in I x ≡ z) value_step
