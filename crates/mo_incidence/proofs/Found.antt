-- The entries that are found in an expression have the orders of its unknowns.
use Rattle.std.proofs.Common.{◌≡◌, ℕ, zero, suc, ◌+◌, ◌-◌, ◌<◌, ◌≤◌, Bool, true, false, List, [], ◌∷◌, ◌++◌, get_or, map, refl, arith}
use Rattle.std.specs.Prelude.{max, min, nat_eq, flat_map, if◌then◌else◌}
use Rattle.std.proofs.lemmas.Bool.Decides.{nat_tests}
use Rattle.mo_flat.specs.declared.expr.FlatExpr.{FlatExpr, FlatExpr-F, map-FlatExpr}
use Rattle.mo_symdiff.proofs.SigmaAt.{greatest_append}
use Rattle.mo_symdiff.proofs.SigmaGather.{Related, folds_related, gathered, gather_node, greatest_by}
use Rattle.mo_symdiff.proofs.SigmaOrders.{add, order_var}
use Rattle.mo_incidence.specs.steps.Gathered.{found, found_at, found_node}
use Rattle.mo_incidence.proofs.Sorting.{entry_rank, other_rank, own_rank}

-- the entries of unknown j have as their greatest order, and one more, n with the derivatives around it
pub record Tells (j n around : ℕ) (es : List (ℕ × ℕ)) : Type 0 where
  pub none : n ≡ 0 → greatest_by (entry_rank j) es ≡ 0
  pub some : 0 < n → n + around ≤ 4294967295 → greatest_by (entry_rank j) es ≡ n + around

no_entries : (j around : ℕ) → Tells j 0 around []
no_entries j around = record { none = λ h. refl; some = λ h l. absurd (omega arith) }

joined : (n k around x y z : ℕ) → z ≡ max x y → (n ≡ 0 → x ≡ 0) → (0 < n → x ≡ n + around) → (k ≡ 0 → y ≡ 0) → (0 < k → y ≡ k + around) → 0 < max n k → z ≡ max n k + around
joined zero zero around x y z e a b c d p = absurd (omega arith)
joined zero (suc k) around x y z e a b c d p = let f = a refl in let g = d (omega arith) in omega arith
joined (suc n) zero around x y z e a b c d p = let f = b (omega arith) in let g = c refl in omega arith
joined (suc n) (suc k) around x y z e a b c d p = let f = b (omega arith) in let g = d (omega arith) in omega arith

both : (j n k around : ℕ) (es fs : List (ℕ × ℕ)) → Tells j n around es → Tells j k around fs → Tells j (max n k) around (es ++ fs)
both j n k around es fs h g =
    let ranks = greatest_append (entry_rank j) es fs in
    record {
      none = λ z. (let e = h.none (omega arith) in let f = g.none (omega arith) in omega arith);
      some = λ p l. joined n k around (greatest_by (entry_rank j) es) (greatest_by (entry_rank j) fs) (greatest_by (entry_rank j) (es ++ fs)) ranks h.none (λ q. h.some q (omega arith)) g.none (λ q. g.some q (omega arith)) p;
    }

-- what tells the parts of a list
parts : {T X Y : Type 0} (j around : ℕ) (f : X → List (ℕ × ℕ)) (g : Y → ℕ) (p : T → X) (q : T → Y) → ((t : T) → Tells j (g (q t)) around (f (p t))) → (ts : List T) →
    Tells j (greatest_by g (map q ts)) around (flat_map f (map p ts))
parts j around f g p q each [] = no_entries j around
parts j around f g p q each (t ∷ ts) = both j _ _ around _ _ (each t) (parts j around f g p q each ts)

-- the place of variable v holds j, and no other does
pub record IsPlace (places : List ℕ) (j v : ℕ) : Type 0 where
  pub positive : 0 < j
  pub place : (w : ℕ) → get_or places w 0 ≡ j → w ≡ v
  pub number : (w : ℕ) → w ≡ v → get_or places w 0 ≡ j

var_tells : (j v w k around q : ℕ) → 0 < j → (q ≡ j → w ≡ v) → (w ≡ v → q ≡ j) → (b : Bool) → nat_eq w v ≡ b →
    Tells j (if b then k + 1 else 0) around (found_at q (min (k + around) 4294967295))
var_tells j v w k around zero p f g true e =
    let same : w ≡ v = grind (arith, nat_tests) in let bad = g same in absurd (omega arith)
var_tells j v w k around zero p f g false e = no_entries j around
var_tells j v w k around (suc q) p f g true e =
    let same : w ≡ v = grind (arith, nat_tests) in let own = own_rank j (suc q, min (k + around) 4294967295) (g same) in
    record { none = λ z. absurd (omega arith); some = λ z h. omega arith }
var_tells j v w k around (suc q) p f g false e =
    let other = other_rank j (suc q, min (k + around) 4294967295) (λ same. let bad = f same in absurd (grind (arith, nat_tests))) in
    record { none = λ z. omega arith; some = λ z h. absurd (omega arith) }

abbrev Told : ℕ → (ℕ → List (ℕ × ℕ)) → ℕ → Type 0
Told j f n = (around : ℕ) → Tells j n around (f around)

abbrev R : ℕ → Type 0
R j = Related (ℕ → List (ℕ × ℕ)) ℕ (Told j)

der_tells : (j n around : ℕ) (f : ℕ → List (ℕ × ℕ)) → Told j f n → Tells j (add n) around (f (min (around + 1) 4294967295))
der_tells j n around f h =
    let t = h (min (around + 1) 4294967295) in
    record {
      none = λ z. t.none (omega arith);
      some = λ p l. (let e = t.some (omega arith) (omega arith) in omega arith);
    }

node_tells : (places : List ℕ) (j v : ℕ) → IsPlace places j v → (n : FlatExpr-F (R j)) →
    Told j (found_node places (map-FlatExpr (R j) (ℕ → List (ℕ × ℕ)) (λ r. r.0) n)) (gather_node (order_var v) add (map-FlatExpr (R j) ℕ (λ r. r.1) n))
node_tells places j v r (FlatExpr-F.Whole n) around = no_entries j around
node_tells places j v r (FlatExpr-F.Decimal t) around = no_entries j around
node_tells places j v r (FlatExpr-F.Str t) around = no_entries j around
node_tells places j v r (FlatExpr-F.Truth b) around = no_entries j around
node_tells places j v r (FlatExpr-F.Literal t) around = no_entries j around
node_tells places j v r FlatExpr-F.Time around = no_entries j around
node_tells places j v r (FlatExpr-F.Var w k) around = var_tells j v w k around (get_or places w 0) r.positive (r.place w) (r.number w) (nat_eq w v) refl
node_tells places j v r (FlatExpr-F.Der a) around = der_tells j a.1 around a.0 a.2
node_tells places j v r (FlatExpr-F.Sum ts) around = parts j around (λ t. t.1 around) (λ t. t.1) (λ t. (t.0, t.1.0)) (λ t. (t.0, t.1.1)) (λ t. t.1.2 around) ts
node_tells places j v r (FlatExpr-F.Product ts) around = parts j around (λ t. t.1 around) (λ t. t.1) (λ t. (t.0, t.1.0)) (λ t. (t.0, t.1.1)) (λ t. t.1.2 around) ts
node_tells places j v r (FlatExpr-F.Power a b) around = both j a.1 b.1 around (a.0 around) (b.0 around) (a.2 around) (b.2 around)
node_tells places j v r (FlatExpr-F.Call f args) around = parts j around (λ t. t around) (λ t. t) (λ t. t.0) (λ t. t.1) (λ t. t.2 around) args
node_tells places j v r (FlatExpr-F.Relation op a b) around = both j a.1 b.1 around (a.0 around) (b.0 around) (a.2 around) (b.2 around)
node_tells places j v r (FlatExpr-F.Not a) around = a.2 around
node_tells places j v r (FlatExpr-F.All ps) around = parts j around (λ t. t around) (λ t. t) (λ t. t.0) (λ t. t.1) (λ t. t.2 around) ps
node_tells places j v r (FlatExpr-F.Any ps) around = parts j around (λ t. t around) (λ t. t) (λ t. t.0) (λ t. t.1) (λ t. t.2 around) ps
node_tells places j v r (FlatExpr-F.If bs o) around = both j _ o.1 around _ (o.0 around) (parts j around (λ b. b.1 around) (λ b. b.1) (λ b. (b.0.0, b.1.0)) (λ b. (b.0.1, b.1.1)) (λ b. b.1.2 around) bs) (o.2 around)

pub found_tells : (places : List ℕ) (j v : ℕ) → IsPlace places j v → (e : FlatExpr) (around : ℕ) → Tells j (gathered (order_var v) add e) around (found places e around)
unfolding gathered
found_tells places j v r = folds_related (ℕ → List (ℕ × ℕ)) ℕ (found_node places) (gather_node (order_var v) add) (Told j) (node_tells places j v r)

-- each entry is of an unknown from 1 to m
pub record InRange (m : ℕ) (es : List (ℕ × ℕ)) : Type 0 where
  pub high : greatest_by (λ x. x.0 + 1) es ≤ m + 1
  pub low : greatest_by (λ x. 1 - x.0) es ≡ 0

none_in_range : (m : ℕ) → InRange m []
none_in_range m = record { high = omega arith; low = refl }

pub both_in_range : (m : ℕ) (es fs : List (ℕ × ℕ)) → InRange m es → InRange m fs → InRange m (es ++ fs)
both_in_range m es fs h g =
    let highs = greatest_append (λ x. x.0 + 1) es fs in let lows = greatest_append (λ x. 1 - x.0) es fs in
    let a = h.high in let b = g.high in let c = h.low in let d = g.low in
    record { high = omega arith; low = omega arith }

parts_in_range : {T X : Type 0} (m : ℕ) (f : X → List (ℕ × ℕ)) (p : T → X) → ((t : T) → InRange m (f (p t))) → (ts : List T) → InRange m (flat_map f (map p ts))
parts_in_range m f p each [] = none_in_range m
parts_in_range m f p each (t ∷ ts) = both_in_range m _ _ (each t) (parts_in_range m f p each ts)

var_in_range : (m q order : ℕ) → q ≤ m → InRange m (found_at q order)
var_in_range m zero order l = none_in_range m
var_in_range m (suc q) order l = record { high = omega arith; low = omega arith }

-- a second value stands beside, of which nothing is asked
abbrev Ranged : ℕ → (ℕ → List (ℕ × ℕ)) → ℕ → Type 0
Ranged m f n = (around : ℕ) → InRange m (f around)

abbrev S : ℕ → Type 0
S m = Related (ℕ → List (ℕ × ℕ)) ℕ (Ranged m)

node_in_range : (places : List ℕ) (m : ℕ) → ((w : ℕ) → get_or places w 0 ≤ m) → (n : FlatExpr-F (S m)) → Ranged m (found_node places (map-FlatExpr (S m) (ℕ → List (ℕ × ℕ)) (λ r. r.0) n)) 0
node_in_range places m r (FlatExpr-F.Whole n) around = none_in_range m
node_in_range places m r (FlatExpr-F.Decimal t) around = none_in_range m
node_in_range places m r (FlatExpr-F.Str t) around = none_in_range m
node_in_range places m r (FlatExpr-F.Truth b) around = none_in_range m
node_in_range places m r (FlatExpr-F.Literal t) around = none_in_range m
node_in_range places m r FlatExpr-F.Time around = none_in_range m
node_in_range places m r (FlatExpr-F.Var w k) around = var_in_range m (get_or places w 0) (min (k + around) 4294967295) (r w)
node_in_range places m r (FlatExpr-F.Der a) around = a.2 (min (around + 1) 4294967295)
node_in_range places m r (FlatExpr-F.Sum ts) around = parts_in_range m (λ t. t.1 around) (λ t. (t.0, t.1.0)) (λ t. t.1.2 around) ts
node_in_range places m r (FlatExpr-F.Product ts) around = parts_in_range m (λ t. t.1 around) (λ t. (t.0, t.1.0)) (λ t. t.1.2 around) ts
node_in_range places m r (FlatExpr-F.Power a b) around = both_in_range m (a.0 around) (b.0 around) (a.2 around) (b.2 around)
node_in_range places m r (FlatExpr-F.Call f args) around = parts_in_range m (λ t. t around) (λ t. t.0) (λ t. t.2 around) args
node_in_range places m r (FlatExpr-F.Relation op a b) around = both_in_range m (a.0 around) (b.0 around) (a.2 around) (b.2 around)
node_in_range places m r (FlatExpr-F.Not a) around = a.2 around
node_in_range places m r (FlatExpr-F.All ps) around = parts_in_range m (λ t. t around) (λ t. t.0) (λ t. t.2 around) ps
node_in_range places m r (FlatExpr-F.Any ps) around = parts_in_range m (λ t. t around) (λ t. t.0) (λ t. t.2 around) ps
node_in_range places m r (FlatExpr-F.If bs o) around = both_in_range m _ (o.0 around) (parts_in_range m (λ b. b.1 around) (λ b. (b.0.0, b.1.0)) (λ b. b.1.2 around) bs) (o.2 around)

pub found_in_range : (places : List ℕ) (m : ℕ) → ((w : ℕ) → get_or places w 0 ≤ m) → (e : FlatExpr) (around : ℕ) → InRange m (found places e around)
found_in_range places m r = folds_related (ℕ → List (ℕ × ℕ)) ℕ (found_node places) (λ n. 0) (Ranged m) (node_in_range places m r)
