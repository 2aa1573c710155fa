-- What differentiating does to gathered numbers, and that a still expression gathers nothing.
use Rattle.std.proofs.Common.{◌≡◌, ℕ, ◌≤◌, Bool, true, false, List, [], ◌∷◌, map, refl, arith}
use Rattle.std.specs.Prelude.{max, ◌&&◌, ◌||◌, not}
use Rattle.std.specs.List.{list_all}
use Rattle.mo_flat.specs.declared.expr.FlatExpr.{FlatExpr, FlatExpr-F, map-FlatExpr}
use Rattle.mo_flat.specs.declared.model.FlatVar.{FlatVar}
use Rattle.mo_flat.specs.Roles.{is_given, is_unknown}
use Rattle.mo_symdiff.specs.Derivative.{next_order}
use Rattle.mo_symdiff.specs.Still.{is_still, still_node}
use Rattle.mo_symdiff.proofs.SigmaGather.{Related, folds_related, gathered, gather_node, greatest_by}

-- a derivative raises the gathered number: up of it, where it is at most L
pub record IsRaise (vars : List FlatVar) (var : ℕ → ℕ → ℕ) (der up : ℕ → ℕ) (L : ℕ) : Type 0 where
  pub none : up 0 ≡ 0
  pub rises : (a : ℕ) → a ≤ L → a ≤ up a
  pub joins : (a b : ℕ) → up (max a b) ≡ max (up a) (up b)
  pub low : (a : ℕ) → up a ≤ L
  pub still : (v k : ℕ) → (is_unknown vars v || is_given vars v) ≡ false → var v k ≡ 0
  pub next : (v k : ℕ) → var v (next_order k) ≡ up (var v k)
  pub der_none : der 0 ≡ 0
  pub der_low : (a : ℕ) → a ≤ L → der a ≤ L
  pub der_up : (a : ℕ) → der (up a) ≡ up (der a)

abbrev StillGathers : Bool → ℕ → Type 0
StillGathers b n = b ≡ true → n ≡ 0

both_still : (a b : Bool) (m n : ℕ) → StillGathers a m → StillGathers b n → StillGathers (a && b) (max m n)
both_still true true m n f g h = let e = f refl in let d = g refl in omega arith
both_still true false m n f g h = absurd cc
both_still false b m n f g h = absurd cc

still_parts : {T X Y : Type 0} (f : X → Bool) (g : Y → ℕ) (p : T → X) (q : T → Y) → ((t : T) → StillGathers (f (p t)) (g (q t))) → (ts : List T) → StillGathers (list_all f (map p ts)) (greatest_by g (map q ts))
still_parts f g p q each [] = λ _. refl
still_parts f g p q each (t ∷ ts) = both_still _ _ _ _ (each t) (still_parts f g p q each ts)

moves : (a b : Bool) → not (a || b) ≡ true → (a || b) ≡ false
moves true b h = absurd cc
moves false true h = absurd cc
moves false false h = refl

still_gathers_node : {vars : List FlatVar} {var : ℕ → ℕ → ℕ} {der up : ℕ → ℕ} {L : ℕ} → IsRaise vars var der up L → (n : FlatExpr-F (Related Bool ℕ StillGathers)) →
    StillGathers (still_node vars (map-FlatExpr (Related Bool ℕ StillGathers) Bool (λ r. r.0) n)) (gather_node var der (map-FlatExpr (Related Bool ℕ StillGathers) ℕ (λ r. r.1) n))
still_gathers_node r (FlatExpr-F.Whole n) = λ _. refl
still_gathers_node r (FlatExpr-F.Decimal t) = λ _. refl
still_gathers_node r (FlatExpr-F.Str t) = λ _. refl
still_gathers_node r (FlatExpr-F.Truth b) = λ _. refl
still_gathers_node r (FlatExpr-F.Literal t) = λ _. refl
still_gathers_node r FlatExpr-F.Time = λ _. refl
still_gathers_node {vars} r (FlatExpr-F.Var v k) = λ h. r.still v k (moves (is_unknown vars v) (is_given vars v) h)
still_gathers_node r (FlatExpr-F.Der a) = λ h. let e = a.2 h in let d = r.der_none in cc
still_gathers_node r (FlatExpr-F.Sum ts) = still_parts (λ t. t.1) (λ t. t.1) (λ t. (t.0, t.1.0)) (λ t. (t.0, t.1.1)) (λ t. t.1.2) ts
still_gathers_node r (FlatExpr-F.Product ts) = still_parts (λ t. t.1) (λ t. t.1) (λ t. (t.0, t.1.0)) (λ t. (t.0, t.1.1)) (λ t. t.1.2) ts
still_gathers_node r (FlatExpr-F.Power a b) = both_still _ _ _ _ a.2 b.2
still_gathers_node r (FlatExpr-F.Call f args) = still_parts (λ t. t) (λ t. t) (λ t. t.0) (λ t. t.1) (λ t. t.2) args
still_gathers_node r (FlatExpr-F.Relation op a b) = both_still _ _ _ _ a.2 b.2
still_gathers_node r (FlatExpr-F.Not a) = a.2
still_gathers_node r (FlatExpr-F.All ps) = still_parts (λ t. t) (λ t. t) (λ t. t.0) (λ t. t.1) (λ t. t.2) ps
still_gathers_node r (FlatExpr-F.Any ps) = still_parts (λ t. t) (λ t. t) (λ t. t.0) (λ t. t.1) (λ t. t.2) ps
still_gathers_node r (FlatExpr-F.If bs o) = both_still _ _ _ _ (still_parts (λ t. t.1) (λ t. t.1) (λ t. (t.0.0, t.1.0)) (λ t. (t.0.1, t.1.1)) (λ t. t.1.2) bs) o.2

-- a still expression gathers nothing
pub still_gathers : {vars : List FlatVar} {var : ℕ → ℕ → ℕ} {der up : ℕ → ℕ} {L : ℕ} → IsRaise vars var der up L → (e : FlatExpr) → is_still vars e ≡ true → gathered var der e ≡ 0
unfolding gathered
still_gathers {vars} {var} {der} r e = folds_related Bool ℕ (still_node vars) (gather_node var der) StillGathers (still_gathers_node r) e
