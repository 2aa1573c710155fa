-- Variables that are asked one after another.
use Rattle.std.proofs.Common.{◌≡◌, ℕ, zero, suc, ◌-◌, ◌<◌, ◌⊎◌, inl, inr, List, [], ◌∷◌, length, Option, Some, None, Ok, refl, ap, sym, ◌∙◌, arith}
use Rattle.std.specs.Prelude.{slice_get, slice_set}
use Rattle.mo_flat.specs.declared.expr.FlatExpr.{FlatExpr}
use Rattle.mo_scope.specs.Places.{Every}
use Rattle.mo_equations.specs.declared.flat.Flat.{Flat}
use Rattle.mo_equations.specs.steps.Flats.{IsFlat}
use Rattle.mo_equations.specs.steps.Standing.{AreReplaced, IsAskedAt, IsReplaced, unasked}
use Rattle.mo_syntax.specs.Outcome.{Outcome}

some_one : {A : Type 0} (a b : A) → Some a ≡ Some b → a ≡ b
some_one {A} a b e = ap held e
  where
    held : Option A → A
    held None = a
    held (Some x) = x

none_is_some : {A B : Type 0} (a : A) → None ≡ Some a → B
none_is_some a e = absurd (no e)
  where
    no : None ≡ Some a → ⊥
    no e = cc

-- ---- none at first

pub none_asked : (count k : ℕ) (flat : Flat) → slice_get (unasked count) k ≡ Some (Some flat) → ⊥
none_asked zero k flat e = none_is_some (Some flat) e
none_asked (suc count) zero flat e = none_is_some flat (some_one None (Some flat) e)
none_asked (suc count) (suc k) flat e = none_asked count k flat e

pub none_replaced : (replace : ℕ → Outcome FlatExpr) (count : ℕ) → AreReplaced replace (unasked count)
none_replaced replace count = record { each = λ n flat at. absurd (none_asked count (n - 1) flat at) }

-- ---- one more

set_cases : {A : Type 0} (xs : List A) (p j : ℕ) (v w : A) → slice_get (slice_set xs p v) j ≡ Some w → ((j ≡ p) × (v ≡ w)) ⊎ (slice_get xs j ≡ Some w)
set_cases [] p j v w e = none_is_some w e
set_cases (x ∷ xs) zero zero v w e = inl (refl, some_one v w e)
set_cases (x ∷ xs) zero (suc j) v w e = inr e
set_cases (x ∷ xs) (suc p) zero v w e = inr e
set_cases (x ∷ xs) (suc p) (suc j) v w e = further (set_cases xs p j v w e)
  where
    further : ((j ≡ p) × (v ≡ w)) ⊎ (slice_get xs j ≡ Some w) → ((suc j ≡ suc p) × (v ≡ w)) ⊎ (slice_get xs j ≡ Some w)
    further (inl both) = inl (ap suc both.0, both.1)
    further (inr there) = inr there

set_here : {A : Type 0} (xs : List A) (p : ℕ) (v : A) → p < length xs → slice_get (slice_set xs p v) p ≡ Some v
set_here [] p v small = let h : p < 0 = small in absurd (omega arith)
set_here (x ∷ xs) zero v small = refl
set_here (x ∷ xs) (suc p) v small = set_here xs p v (omega arith)

set_there : {A : Type 0} (xs : List A) (p j : ℕ) (v w : A) → slice_get xs j ≡ Some w → (u : A) × (slice_get (slice_set xs p v) j ≡ Some u) × ((u ≡ v) ⊎ (u ≡ w))
set_there [] p j v w e = none_is_some w e
set_there (x ∷ xs) zero zero v w e = (v, refl, inl refl)
set_there (x ∷ xs) zero (suc j) v w e = (w, e, inr refl)
set_there (x ∷ xs) (suc p) zero v w e = (w, e, inr refl)
set_there (x ∷ xs) (suc p) (suc j) v w e = set_there xs p j v w e

module _ (replace : ℕ → Outcome FlatExpr) (same : (n m : ℕ) → n - 1 ≡ m - 1 → replace n ≡ replace m) (replaced : List (Option Flat)) (n : ℕ) (flat : Flat) where
  pub still_replaced : (e : FlatExpr) → replace n ≡ Ok e → IsFlat flat e → AreReplaced replace replaced → AreReplaced replace (slice_set replaced (n - 1) (Some flat))
  still_replaced e is flat_is are = record { each = λ m other at. one m other (set_cases replaced (n - 1) (m - 1) (Some flat) (Some other) at) }
    where
      one : (m : ℕ) (other : Flat) → ((m - 1 ≡ n - 1) × (Some flat ≡ Some other)) ⊎ (slice_get replaced (m - 1) ≡ Some (Some other)) → IsReplaced replace m other
      one m other (inl both) = record { e = e; is = same m n both.0 ∙ is; flat_is = rw (sym (some_one flat other both.1)) flat_is }
      one m other (inr there) = are.each m other there

  pub still_asked : (m : ℕ) → IsAskedAt replaced m → IsAskedAt (slice_set replaced (n - 1) (Some flat)) m
  still_asked m asked =
      let there = set_there replaced (n - 1) (m - 1) (Some flat) (Some asked.0) asked.1 in
      chosen there.0 there.1 there.2
    where
      chosen : (u : Option Flat) → slice_get (slice_set replaced (n - 1) (Some flat)) (m - 1) ≡ Some u → (u ≡ Some flat) ⊎ (u ≡ Some asked.0) → IsAskedAt (slice_set replaced (n - 1) (Some flat)) m
      chosen u at (inl e) = (flat, at ∙ ap Some e)
      chosen u at (inr e) = (asked.0, at ∙ ap Some e)

  pub now_asked : n - 1 < length replaced → IsAskedAt (slice_set replaced (n - 1) (Some flat)) n
  now_asked small = (flat, set_here replaced (n - 1) (Some flat) small)

  pub all_still : (ms : List ℕ) → Every (IsAskedAt replaced) ms → Every (IsAskedAt (slice_set replaced (n - 1) (Some flat))) ms
  all_still [] all = tt
  all_still (m ∷ ms) all = (still_asked m all.0, all_still ms all.1)
