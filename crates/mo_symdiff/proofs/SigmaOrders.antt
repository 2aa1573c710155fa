-- Orders and given variables as gathered numbers: 0 where there is none, and one more than the order otherwise.
use Rattle.std.proofs.Common.{◌≡◌, ℕ, ◌+◌, ◌≤◌, Bool, true, false, List, [], ◌∷◌, Option, Some, None, map, refl, ap, subst, arith}
use Rattle.std.proofs.lemmas.Bool.Decides.{nat_tests}
use Rattle.std.specs.Prelude.{max, min, nat_eq, if◌then◌else◌, ◌||◌}
use Rattle.std.specs.List.{list_any}
use Rattle.std.specs.Option.{option_map}
use Rattle.mo_flat.specs.declared.expr.FlatExpr.{FlatExpr, FlatExpr-F, map-FlatExpr}
use Rattle.mo_flat.specs.declared.model.FlatVar.{FlatVar}
use Rattle.mo_flat.specs.Roles.{is_given, is_unknown}
use Rattle.mo_symdiff.specs.Derivative.{next_order}
use Rattle.mo_symdiff.specs.Orders.{raised_node, raised_order}
use Rattle.mo_symdiff.specs.Sigma.{higher, highest, highest_node, highest_of}
use Rattle.mo_symdiff.specs.Still.{given_node, has_given}
use Rattle.mo_symdiff.proofs.SigmaGather.{Related, folds_related, gathered, gather_node, greatest_by}
use Rattle.mo_symdiff.proofs.SigmaRaise.{IsRaise}

abbrev pub rank : Option ℕ → ℕ
rank None = 0
rank (Some k) = k + 1

pub rank_injective : (a b : Option ℕ) → rank a ≡ rank b → a ≡ b
rank_injective None None h = refl
rank_injective None (Some k) h = absurd (omega arith)
rank_injective (Some k) None h = absurd (omega arith)
rank_injective (Some j) (Some k) h = let e : j ≡ k = omega arith in ap (λ n. Some n) e

abbrev pub order_var : ℕ → ℕ → ℕ → ℕ
order_var v w k = if nat_eq w v then k + 1 else 0

-- the greatest rank of an order of 32 bits
abbrev pub top : ℕ
top = 4294967296

-- one more, where there is an order, up to the greatest
abbrev pub raise : ℕ → ℕ
raise n = min (n + min n 1) top

abbrev pub add : ℕ → ℕ
add n = n + min n 1

order_next : (b : Bool) (k : ℕ) → (if b then next_order k + 1 else 0) ≡ raise (if b then k + 1 else 0)
order_next true k = omega arith
order_next false k = omega arith

order_still : (vars : List FlatVar) (v w k : ℕ) (b : Bool) → is_unknown vars v ≡ true → (is_unknown vars w || is_given vars w) ≡ false → nat_eq w v ≡ b → (if b then k + 1 else 0) ≡ 0
order_still vars v w k true u s e =
    let same : w ≡ v = grind (arith, nat_tests) in
    let here : (is_unknown vars v || is_given vars v) ≡ false = subst (λ n. (is_unknown vars n || is_given vars n) ≡ false) same s in
    let there : (true || is_given vars v) ≡ false = subst (λ b. (b || is_given vars v) ≡ false) u here in absurd cc
order_still vars v w k false u s e = refl

pub order_raise : (vars : List FlatVar) (v : ℕ) → is_unknown vars v ≡ true → IsRaise vars (order_var v) (λ n. n) raise top
order_raise vars v u = record {
  none = refl;
  rises = λ a h. omega arith;
  joins = λ a b. omega arith;
  low = λ a. omega arith;
  still = λ w k s. order_still vars v w k (nat_eq w v) u s refl;
  next = λ w k. order_next (nat_eq w v) k;
  der_none = refl;
  der_low = λ a h. h;
  der_up = λ a. refl;
}

-- orders with what a derivative does to them
abbrev order_node : ℕ → (Option ℕ → Option ℕ) → FlatExpr-F (Option ℕ) → Option ℕ
order_node v der (FlatExpr-F.Der a) = der a
order_node v der n = highest_node v n

abbrev Ranks : Option ℕ → ℕ → Type 0
Ranks o n = rank o ≡ n

both_rank : (a b : Option ℕ) (m n : ℕ) → Ranks a m → Ranks b n → Ranks (higher a b) (max m n)
both_rank None b m n h k = omega arith
both_rank (Some i) None m n h k = omega arith
both_rank (Some i) (Some j) m n h k = omega arith

rank_parts : {T X Y : Type 0} (f : X → Option ℕ) (g : Y → ℕ) (p : T → X) (q : T → Y) → ((t : T) → Ranks (f (p t)) (g (q t))) → (ts : List T) → Ranks (highest_of (map f (map p ts))) (greatest_by g (map q ts))
rank_parts f g p q each [] = refl
rank_parts f g p q each (t ∷ ts) = both_rank _ _ _ _ (each t) (rank_parts f g p q each ts)

rank_all : {T Y : Type 0} (g : Y → ℕ) (p : T → Option ℕ) (q : T → Y) → ((t : T) → Ranks (p t) (g (q t))) → (ts : List T) → Ranks (highest_of (map p ts)) (greatest_by g (map q ts))
rank_all g p q each [] = refl
rank_all g p q each (t ∷ ts) = both_rank _ _ _ _ (each t) (rank_all g p q each ts)

rank_var : (b : Bool) (k : ℕ) → Ranks (if b then Some k else None) (if b then k + 1 else 0)
rank_var true k = refl
rank_var false k = refl

rank_node : (v : ℕ) (der : Option ℕ → Option ℕ) (d : ℕ → ℕ) → ((o : Option ℕ) (n : ℕ) → Ranks o n → Ranks (der o) (d n)) → (n : FlatExpr-F (Related (Option ℕ) ℕ Ranks)) →
    Ranks (order_node v der (map-FlatExpr (Related (Option ℕ) ℕ Ranks) (Option ℕ) (λ r. r.0) n)) (gather_node (order_var v) d (map-FlatExpr (Related (Option ℕ) ℕ Ranks) ℕ (λ r. r.1) n))
rank_node v der d ders (FlatExpr-F.Whole n) = refl
rank_node v der d ders (FlatExpr-F.Decimal t) = refl
rank_node v der d ders (FlatExpr-F.Str t) = refl
rank_node v der d ders (FlatExpr-F.Truth b) = refl
rank_node v der d ders (FlatExpr-F.Literal t) = refl
rank_node v der d ders FlatExpr-F.Time = refl
rank_node v der d ders (FlatExpr-F.Var w k) = rank_var (nat_eq w v) k
rank_node v der d ders (FlatExpr-F.Der a) = ders a.0 a.1 a.2
rank_node v der d ders (FlatExpr-F.Sum ts) = rank_parts (λ t. t.1) (λ t. t.1) (λ t. (t.0, t.1.0)) (λ t. (t.0, t.1.1)) (λ t. t.1.2) ts
rank_node v der d ders (FlatExpr-F.Product ts) = rank_parts (λ t. t.1) (λ t. t.1) (λ t. (t.0, t.1.0)) (λ t. (t.0, t.1.1)) (λ t. t.1.2) ts
rank_node v der d ders (FlatExpr-F.Power a b) = both_rank _ _ _ _ a.2 b.2
rank_node v der d ders (FlatExpr-F.Call f args) = rank_all (λ t. t) (λ t. t.0) (λ t. t.1) (λ t. t.2) args
rank_node v der d ders (FlatExpr-F.Relation op a b) = both_rank _ _ _ _ a.2 b.2
rank_node v der d ders (FlatExpr-F.Not a) = a.2
rank_node v der d ders (FlatExpr-F.All ps) = rank_all (λ t. t) (λ t. t.0) (λ t. t.1) (λ t. t.2) ps
rank_node v der d ders (FlatExpr-F.Any ps) = rank_all (λ t. t) (λ t. t.0) (λ t. t.1) (λ t. t.2) ps
rank_node v der d ders (FlatExpr-F.If bs o) = both_rank _ _ _ _ (rank_parts (λ t. t.1) (λ t. t.1) (λ t. (t.0.0, t.1.0)) (λ t. (t.0.1, t.1.1)) (λ t. t.1.2) bs) o.2

same_highest : (v : ℕ) (n : FlatExpr-F (Option ℕ)) → order_node v (λ o. o) n ≡ highest_node v n
same_highest v (FlatExpr-F.Whole n) = refl
same_highest v (FlatExpr-F.Decimal t) = refl
same_highest v (FlatExpr-F.Str t) = refl
same_highest v (FlatExpr-F.Truth b) = refl
same_highest v (FlatExpr-F.Literal t) = refl
same_highest v FlatExpr-F.Time = refl
same_highest v (FlatExpr-F.Var w k) = refl
same_highest v (FlatExpr-F.Der a) = refl
same_highest v (FlatExpr-F.Sum ts) = refl
same_highest v (FlatExpr-F.Product ts) = refl
same_highest v (FlatExpr-F.Power a b) = refl
same_highest v (FlatExpr-F.Call f args) = refl
same_highest v (FlatExpr-F.Relation op a b) = refl
same_highest v (FlatExpr-F.Not a) = refl
same_highest v (FlatExpr-F.All ps) = refl
same_highest v (FlatExpr-F.Any ps) = refl
same_highest v (FlatExpr-F.If bs o) = refl

same_raised : (v : ℕ) (n : FlatExpr-F (Option ℕ)) → order_node v (option_map (λ order. order + 1)) n ≡ raised_node v n
same_raised v (FlatExpr-F.Whole n) = refl
same_raised v (FlatExpr-F.Decimal t) = refl
same_raised v (FlatExpr-F.Str t) = refl
same_raised v (FlatExpr-F.Truth b) = refl
same_raised v (FlatExpr-F.Literal t) = refl
same_raised v FlatExpr-F.Time = refl
same_raised v (FlatExpr-F.Var w k) = refl
same_raised v (FlatExpr-F.Der a) = refl
same_raised v (FlatExpr-F.Sum ts) = refl
same_raised v (FlatExpr-F.Product ts) = refl
same_raised v (FlatExpr-F.Power a b) = refl
same_raised v (FlatExpr-F.Call f args) = refl
same_raised v (FlatExpr-F.Relation op a b) = refl
same_raised v (FlatExpr-F.Not a) = refl
same_raised v (FlatExpr-F.All ps) = refl
same_raised v (FlatExpr-F.Any ps) = refl
same_raised v (FlatExpr-F.If bs o) = refl

pub highest_gathered : (v : ℕ) (e : FlatExpr) → rank (highest v e) ≡ gathered (order_var v) (λ n. n) e
unfolding gathered
highest_gathered v = folds_related (Option ℕ) ℕ (highest_node v) (gather_node (order_var v) (λ n. n)) Ranks (λ n.
    subst (λ o. Ranks o (gather_node (order_var v) (λ m. m) (map-FlatExpr (Related (Option ℕ) ℕ Ranks) ℕ (λ r. r.1) n)))
    (same_highest v (map-FlatExpr (Related (Option ℕ) ℕ Ranks) (Option ℕ) (λ r. r.0) n)) (rank_node v (λ o. o) (λ m. m) (λ o m h. h) n))

added : (o : Option ℕ) (n : ℕ) → Ranks o n → Ranks (option_map (λ order. order + 1) o) (add n)
added None n h = omega arith
added (Some k) n h = omega arith

pub raised_gathered : (v : ℕ) (e : FlatExpr) → rank (raised_order v e) ≡ gathered (order_var v) add e
unfolding gathered
raised_gathered v = folds_related (Option ℕ) ℕ (raised_node v) (gather_node (order_var v) add) Ranks (λ n.
    subst (λ o. Ranks o (gather_node (order_var v) add (map-FlatExpr (Related (Option ℕ) ℕ Ranks) ℕ (λ r. r.1) n)))
    (same_raised v (map-FlatExpr (Related (Option ℕ) ℕ Ranks) (Option ℕ) (λ r. r.0) n)) (rank_node v (option_map (λ order. order + 1)) add added n))

-- a given variable counts 1
abbrev pub number : Bool → ℕ
number true = 1
number false = 0

abbrev Numbers : Bool → ℕ → Type 0
Numbers b n = number b ≡ n

pub number_injective : (a b : Bool) → number a ≡ number b → a ≡ b
number_injective true true h = refl
number_injective true false h = absurd (omega arith)
number_injective false true h = absurd (omega arith)
number_injective false false h = refl

both_number : (a b : Bool) (m n : ℕ) → Numbers a m → Numbers b n → Numbers (a || b) (max m n)
both_number true true m n h k = omega arith
both_number true false m n h k = omega arith
both_number false b m n h k = omega arith

number_parts : {T X Y : Type 0} (f : X → Bool) (g : Y → ℕ) (p : T → X) (q : T → Y) → ((t : T) → Numbers (f (p t)) (g (q t))) → (ts : List T) → Numbers (list_any f (map p ts)) (greatest_by g (map q ts))
number_parts f g p q each [] = refl
number_parts f g p q each (t ∷ ts) = both_number _ _ _ _ (each t) (number_parts f g p q each ts)

abbrev pub given_var : List FlatVar → ℕ → ℕ → ℕ
given_var vars w k = number (is_given vars w)

number_node : (vars : List FlatVar) (n : FlatExpr-F (Related Bool ℕ Numbers)) →
    Numbers (given_node vars (map-FlatExpr (Related Bool ℕ Numbers) Bool (λ r. r.0) n)) (gather_node (given_var vars) (λ n. n) (map-FlatExpr (Related Bool ℕ Numbers) ℕ (λ r. r.1) n))
number_node vars (FlatExpr-F.Whole n) = refl
number_node vars (FlatExpr-F.Decimal t) = refl
number_node vars (FlatExpr-F.Str t) = refl
number_node vars (FlatExpr-F.Truth b) = refl
number_node vars (FlatExpr-F.Literal t) = refl
number_node vars FlatExpr-F.Time = refl
number_node vars (FlatExpr-F.Var w k) = refl
number_node vars (FlatExpr-F.Der a) = a.2
number_node vars (FlatExpr-F.Sum ts) = number_parts (λ t. t.1) (λ t. t.1) (λ t. (t.0, t.1.0)) (λ t. (t.0, t.1.1)) (λ t. t.1.2) ts
number_node vars (FlatExpr-F.Product ts) = number_parts (λ t. t.1) (λ t. t.1) (λ t. (t.0, t.1.0)) (λ t. (t.0, t.1.1)) (λ t. t.1.2) ts
number_node vars (FlatExpr-F.Power a b) = both_number _ _ _ _ a.2 b.2
number_node vars (FlatExpr-F.Call f args) = number_parts (λ t. t) (λ t. t) (λ t. t.0) (λ t. t.1) (λ t. t.2) args
number_node vars (FlatExpr-F.Relation op a b) = both_number _ _ _ _ a.2 b.2
number_node vars (FlatExpr-F.Not a) = a.2
number_node vars (FlatExpr-F.All ps) = number_parts (λ t. t) (λ t. t) (λ t. t.0) (λ t. t.1) (λ t. t.2) ps
number_node vars (FlatExpr-F.Any ps) = number_parts (λ t. t) (λ t. t) (λ t. t.0) (λ t. t.1) (λ t. t.2) ps
number_node vars (FlatExpr-F.If bs o) = both_number _ _ _ _ (number_parts (λ t. t.1) (λ t. t.1) (λ t. (t.0.0, t.1.0)) (λ t. (t.0.1, t.1.1)) (λ t. t.1.2) bs) o.2

pub given_gathered : (vars : List FlatVar) (e : FlatExpr) → number (has_given vars e) ≡ gathered (given_var vars) (λ n. n) e
unfolding gathered
given_gathered vars = folds_related Bool ℕ (given_node vars) (gather_node (given_var vars) (λ n. n)) Numbers (number_node vars)

number_low : (b : Bool) → number b ≤ 1
number_low true = omega arith
number_low false = omega arith

pub given_low : (vars : List FlatVar) (e : FlatExpr) → gathered (given_var vars) (λ n. n) e ≤ 1
given_low vars e = let h = given_gathered vars e in let l = number_low (has_given vars e) in omega arith

not_given : (a b : Bool) → (a || b) ≡ false → number b ≡ 0
not_given true b h = absurd cc
not_given false true h = absurd cc
not_given false false h = refl

pub given_raise : (vars : List FlatVar) → IsRaise vars (given_var vars) (λ n. n) (λ n. min n 1) 1
given_raise vars = record {
  none = refl;
  rises = λ a h. omega arith;
  joins = λ a b. omega arith;
  low = λ a. omega arith;
  still = λ w k s. not_given (is_unknown vars w) (is_given vars w) s;
  next = λ w k. let l = number_low (is_given vars w) in omega arith;
  der_none = refl;
  der_low = λ a h. h;
  der_up = λ a. refl;
}
