-- Whether the orders of an expression stay low, by its parts.
use Rattle.std.proofs.Common.{◌≡◌, ℕ, ◌+◌, ◌≤◌, Bool, true, false, ◌&&◌, List, [], ◌∷◌, map, min, nat_lt, ltb-true, ltb-false, refl, ap, sym, ◌∙◌, arith}
use Rattle.std.specs.List.{list_all}
use Rattle.std.proofs.lemmas.List.Folds.{list_all-map}
use Rattle.mo_syntax.specs.declared.expr.RelOp.{RelOp}
use Rattle.mo_flat.specs.declared.expr.FlatExpr.{FlatExpr, FlatExpr-F, fold_out-FlatExpr, map-FlatExpr, out-FlatExpr}
use Rattle.mo_flat.specs.declared.expr.FlatExpr.TheVariants.{Der, Sum, Product, Power, Call, Relation, All, Any, If, outs-Der, outs-Sum, outs-Product, outs-Power, outs-Call, outs-Relation, outs-All, outs-Any, outs-If}
use Rattle.mo_flat.specs.Sound.{orders_node}
use Rattle.mo_sound.specs.SoundKinds.{orders_at}
use Rattle.mo_sound.proofs.Related.{Related, folds_related}

abbrev Test : Type 0
Test = ℕ → Bool

orders_of : (e : FlatExpr) (node : FlatExpr-F FlatExpr) → out-FlatExpr e ≡ node → orders_at e ≡ orders_node 65535 (map-FlatExpr FlatExpr Test orders_at node)
orders_of e node h = fold_out-FlatExpr Test (orders_node 65535) e ∙ ap (λ n. orders_node 65535 (map-FlatExpr FlatExpr Test orders_at n)) h

module _ (around : ℕ) where
  at : (e : FlatExpr) (node : FlatExpr-F FlatExpr) → out-FlatExpr e ≡ node → orders_at e around ≡ orders_node 65535 (map-FlatExpr FlatExpr Test orders_at node) around
  at e node h = ap (λ (t : Test). t around) (orders_of e node h)

  pub at_Der : (a : FlatExpr) → orders_at (Der a) around ≡ orders_at a (around + 1)
  at_Der a = at (Der a) (FlatExpr-F.Der a) (outs-Der a)

  pub at_Sum : (ts : List (Bool × FlatExpr)) → orders_at (Sum ts) around ≡ list_all (λ t. orders_at t.1 around) ts
  at_Sum ts = at (Sum ts) (FlatExpr-F.Sum ts) (outs-Sum ts) ∙ list_all-map (λ (t : Bool × Test). t.1 around) (λ (t : Bool × FlatExpr). (t.0, orders_at t.1)) ts

  pub at_Product : (ts : List (Bool × FlatExpr)) → orders_at (Product ts) around ≡ list_all (λ t. orders_at t.1 around) ts
  at_Product ts = at (Product ts) (FlatExpr-F.Product ts) (outs-Product ts) ∙ list_all-map (λ (t : Bool × Test). t.1 around) (λ (t : Bool × FlatExpr). (t.0, orders_at t.1)) ts

  pub at_Power : (a b : FlatExpr) → orders_at (Power a b) around ≡ (orders_at a around && orders_at b around)
  at_Power a b = at (Power a b) (FlatExpr-F.Power a b) (outs-Power a b)

  pub at_Call : (f : ℕ) (args : List FlatExpr) → orders_at (Call f args) around ≡ list_all (λ arg. orders_at arg around) args
  at_Call f args = at (Call f args) (FlatExpr-F.Call f args) (outs-Call f args) ∙ list_all-map (λ (t : Test). t around) orders_at args

  pub at_Relation : (op : RelOp) (a b : FlatExpr) → orders_at (Relation op a b) around ≡ (orders_at a around && orders_at b around)
  at_Relation op a b = at (Relation op a b) (FlatExpr-F.Relation op a b) (outs-Relation op a b)

  pub at_All : (parts : List FlatExpr) → orders_at (All parts) around ≡ list_all (λ part. orders_at part around) parts
  at_All parts = at (All parts) (FlatExpr-F.All parts) (outs-All parts) ∙ list_all-map (λ (t : Test). t around) orders_at parts

  pub at_Any : (parts : List FlatExpr) → orders_at (Any parts) around ≡ list_all (λ part. orders_at part around) parts
  at_Any parts = at (Any parts) (FlatExpr-F.Any parts) (outs-Any parts) ∙ list_all-map (λ (t : Test). t around) orders_at parts

  pub at_If : (branches : List (FlatExpr × FlatExpr)) (other : FlatExpr) →
      orders_at (If branches other) around ≡ (list_all (λ b. orders_at b.0 around && orders_at b.1 around) branches && orders_at other around)
  at_If branches other = at (If branches other) (FlatExpr-F.If branches other) (outs-If branches other)
      ∙ ap (λ (b : Bool). b && orders_at other around) (list_all-map (λ (b : Test × Test). b.0 around && b.1 around) (λ (b : FlatExpr × FlatExpr). (orders_at b.0, orders_at b.1)) branches)

-- ---- past the limit

-- as many derivatives as the limit, or more, cannot be told apart
abbrev IsDull : Test → Test → Type 0
IsDull a b = (m n : ℕ) → 65535 ≤ m → 65535 ≤ n → a m ≡ b n

abbrev Pair : Type 0
Pair = Related Test Test IsDull

over : (order m n : ℕ) → 65535 ≤ m → 65535 ≤ n → nat_lt (order + m) 65535 ≡ nat_lt (order + n) 65535
over order m n p q = none (nat_lt (order + m) 65535) (nat_lt (order + n) 65535) refl refl
  where
    none : (a b : Bool) → nat_lt (order + m) 65535 ≡ a → nat_lt (order + n) 65535 ≡ b → nat_lt (order + m) 65535 ≡ nat_lt (order + n) 65535
    none false false x y = x ∙ sym y
    none true b x y = let less = ltb-true (order + m) 65535 x in absurd (omega (arith, less, p))
    none false true x y = let less = ltb-true (order + n) 65535 y in absurd (omega (arith, less, q))

same_all : {A X Y : Type 0} (f : X → Bool) (g : Y → Bool) (h : A → X) (k : A → Y) → ((a : A) → f (h a) ≡ g (k a)) → (xs : List A) → list_all f (map h xs) ≡ list_all g (map k xs)
same_all f g h k e [] = refl
same_all f g h k e (x ∷ xs) = rw (e x, same_all f g h k e xs) refl

both : (a b c d : Bool) → a ≡ b → c ≡ d → (a && c) ≡ (b && d)
both a b c d p q = rw (p, q) refl

step : (n : FlatExpr-F Pair) → IsDull (orders_node 65535 (map-FlatExpr Pair Test (λ r. r.0) n)) (orders_node 65535 (map-FlatExpr Pair Test (λ r. r.1) n))
step (FlatExpr-F.Whole x) m n p q = refl
step (FlatExpr-F.Decimal x) m n p q = refl
step (FlatExpr-F.Str x) m n p q = refl
step (FlatExpr-F.Truth x) m n p q = refl
step (FlatExpr-F.Literal x) m n p q = refl
step FlatExpr-F.Time m n p q = refl
step (FlatExpr-F.Var v order) m n p q = over order m n p q
step (FlatExpr-F.Der a) m n p q = a.2 (m + 1) (n + 1) (omega (arith, p)) (omega (arith, q))
step (FlatExpr-F.Sum ts) m n p q = same_all (λ (t : Bool × Test). t.1 m) (λ (t : Bool × Test). t.1 n) (λ (t : Bool × Pair). (t.0, t.1.0)) (λ (t : Bool × Pair). (t.0, t.1.1)) (λ t. t.1.2 m n p q) ts
step (FlatExpr-F.Product ts) m n p q = same_all (λ (t : Bool × Test). t.1 m) (λ (t : Bool × Test). t.1 n) (λ (t : Bool × Pair). (t.0, t.1.0)) (λ (t : Bool × Pair). (t.0, t.1.1)) (λ t. t.1.2 m n p q) ts
step (FlatExpr-F.Power a b) m n p q = both _ _ _ _ (a.2 m n p q) (b.2 m n p q)
step (FlatExpr-F.Call f args) m n p q = same_all (λ (t : Test). t m) (λ (t : Test). t n) (λ (t : Pair). t.0) (λ (t : Pair). t.1) (λ t. t.2 m n p q) args
step (FlatExpr-F.Relation op a b) m n p q = both _ _ _ _ (a.2 m n p q) (b.2 m n p q)
step (FlatExpr-F.Not a) m n p q = a.2 m n p q
step (FlatExpr-F.All ps) m n p q = same_all (λ (t : Test). t m) (λ (t : Test). t n) (λ (t : Pair). t.0) (λ (t : Pair). t.1) (λ t. t.2 m n p q) ps
step (FlatExpr-F.Any ps) m n p q = same_all (λ (t : Test). t m) (λ (t : Test). t n) (λ (t : Pair). t.0) (λ (t : Pair). t.1) (λ t. t.2 m n p q) ps
step (FlatExpr-F.If bs other) m n p q =
    both _ _ _ _
    (same_all (λ (b : Test × Test). b.0 m && b.1 m) (λ (b : Test × Test). b.0 n && b.1 n) (λ (b : Pair × Pair). (b.0.0, b.1.0)) (λ (b : Pair × Pair). (b.0.1, b.1.1)) (λ b. both _ _ _ _ (b.0.2 m n p q) (b.1.2 m n p q)) bs)
    (other.2 m n p q)

dull : (e : FlatExpr) → IsDull (orders_at e) (orders_at e)
dull = folds_related Test Test (orders_node 65535) (orders_node 65535) IsDull step

pub cut : (e : FlatExpr) (around : ℕ) → orders_at e (min around 65535) ≡ orders_at e around
cut e around = go (nat_lt around 65535) refl
  where
    go : (b : Bool) → nat_lt around 65535 ≡ b → orders_at e (min around 65535) ≡ orders_at e around
    go true is = let less = ltb-true around 65535 is in let same : min around 65535 ≡ around = omega (arith, less) in ap (orders_at e) same
    go false is = let more = ltb-false around 65535 is in dull e (min around 65535) around (omega (arith, more)) more
