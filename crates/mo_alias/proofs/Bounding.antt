-- Alias equations are between unknowns.
use Rattle.std.proofs.Common.{◌≡◌, ℕ, zero, suc, ◌+◌, ◌<◌, ◌≤◌, Bool, true, false, List, [], ◌∷◌, Option, Some, None, get_or, length, map, subst, arith, if◌then◌else◌}
use Rattle.std.specs.Option.{IfSome, option_map}
use Rattle.mo_flat.specs.declared.expr.FlatExpr.{FlatExpr, FlatExpr-F, out-FlatExpr}
use Rattle.mo_flat.specs.declared.model.FlatEquation.{FlatEquation}
use Rattle.mo_flat.specs.declared.model.FlatModel.{FlatModel}
use Rattle.mo_flat.specs.declared.model.FlatVar.{FlatVar}
use Rattle.mo_flat.specs.Roles.{is_unknown_role, unknown_numbers, unknowns_from}
use Rattle.mo_alias.specs.declared.alias.Alias.{Alias}
use Rattle.mo_alias.specs.steps.Forests.{AreWithin}
use Rattle.mo_alias.specs.Numbers.{numbers_among, numbers_from}
use Rattle.mo_alias.specs.Recognized.{alias_of, aliases_in, is_zero_node, pair_of, positive, said_by, signed_node, two_terms, unknown_in, unknown_node, with_sign}

-- a number among the unknowns is at most how many there are
number_low : (n m : ℕ) (vars : List FlatVar) (v : ℕ) → get_or (numbers_from n vars) v 0 ≤ n + length (unknowns_from m vars)
number_low n m [] v = omega arith
number_low n m (x ∷ vs) v = by (is_unknown_role (Some x.role)) v (λ w. number_low (n + 1) (m + 1) vs w) (λ w. number_low n (m + 1) vs w)
  where
    by : (b : Bool) (v : ℕ) → ((w : ℕ) → get_or (numbers_from (n + 1) vs) w 0 ≤ n + 1 + length (unknowns_from (m + 1) vs))
        → ((w : ℕ) → get_or (numbers_from n vs) w 0 ≤ n + length (unknowns_from (m + 1) vs))
        → get_or (if b then (n + 1) ∷ numbers_from (n + 1) vs else 0 ∷ numbers_from n vs) v 0 ≤ n + length (if b then m ∷ unknowns_from (m + 1) vs else unknowns_from (m + 1) vs)
    by true zero e f = omega arith
    by true (suc w) e f = let l = e w in omega (arith, l)
    by false zero e f = omega arith
    by false (suc w) e f = f w

pub number_within : (vars : List FlatVar) (v : ℕ) → get_or (numbers_among vars) v 0 ≤ length (unknown_numbers vars)
number_within vars zero = omega arith
number_within vars (suc v) = let l = number_low 0 1 vars v in omega (arith, l)

-- what holds of the numbers of unknowns holds of both
module _ (numbers : List ℕ) (P : ℕ → Type 0) (holds : (v : ℕ) → 0 < get_or numbers v 0 → P (get_or numbers v 0)) where
  positive_has : (x : ℕ) → (0 < x → P x) → IfSome (positive x) P
  positive_has zero h = tt
  positive_has (suc x) h = h (omega arith)

  with_has : (minus : Bool) (o : Option ℕ) → IfSome o P → IfSome (with_sign minus o) (λ p. P p.1)
  with_has minus None h = tt
  with_has minus (Some u) h = h

  pair_has : (a b : Option (Bool × ℕ)) → IfSome a (λ p. P p.1) → IfSome b (λ p. P p.1) → IfSome (pair_of a b) (λ (p : (Bool × ℕ) × (Bool × ℕ)). P p.0.1 × P p.1.1)
  pair_has None None h k = tt
  pair_has None (Some q) h k = tt
  pair_has (Some p) None h k = tt
  pair_has (Some p) (Some q) h k = (h, k)

  said_has : (opposite : Bool) (o : Option ((Bool × ℕ) × (Bool × ℕ))) → IfSome o (λ p. P p.0.1 × P p.1.1) → IfSome (option_map (said_by opposite) o) (λ a. P a.left × P a.right)
  said_has opposite None h = tt
  said_has opposite (Some p) h = h

  unknown_has : (node : FlatExpr-F FlatExpr) → IfSome (unknown_node numbers node) P
  unknown_has (FlatExpr-F.Var variable zero) = positive_has (get_or numbers variable 0) (holds variable)
  unknown_has (FlatExpr-F.Var variable (suc k)) = tt
  unknown_has (FlatExpr-F.Sum terms) = tt
  unknown_has (FlatExpr-F.Whole i) = tt
  unknown_has (FlatExpr-F.Decimal x) = tt
  unknown_has (FlatExpr-F.Str x) = tt
  unknown_has (FlatExpr-F.Truth b) = tt
  unknown_has (FlatExpr-F.Literal x) = tt
  unknown_has FlatExpr-F.Time = tt
  unknown_has (FlatExpr-F.Der f) = tt
  unknown_has (FlatExpr-F.Product fs) = tt
  unknown_has (FlatExpr-F.Power a b) = tt
  unknown_has (FlatExpr-F.Call k fs) = tt
  unknown_has (FlatExpr-F.Relation op a b) = tt
  unknown_has (FlatExpr-F.Not f) = tt
  unknown_has (FlatExpr-F.All fs) = tt
  unknown_has (FlatExpr-F.Any fs) = tt
  unknown_has (FlatExpr-F.If bs f) = tt

  signed_has : (node : FlatExpr-F FlatExpr) → IfSome (signed_node numbers node) (λ p. P p.1)
  signed_has (FlatExpr-F.Sum []) = tt
  signed_has (FlatExpr-F.Sum ((minus, e) ∷ [])) = with_has minus (unknown_in numbers e) (unknown_has (out-FlatExpr e))
  signed_has (FlatExpr-F.Sum (a ∷ b ∷ more)) = tt
  signed_has (FlatExpr-F.Var variable order) = with_has false (unknown_node numbers (FlatExpr-F.Var variable order)) (unknown_has (FlatExpr-F.Var variable order))
  signed_has (FlatExpr-F.Whole i) = tt
  signed_has (FlatExpr-F.Decimal x) = tt
  signed_has (FlatExpr-F.Str x) = tt
  signed_has (FlatExpr-F.Truth b) = tt
  signed_has (FlatExpr-F.Literal x) = tt
  signed_has FlatExpr-F.Time = tt
  signed_has (FlatExpr-F.Der f) = tt
  signed_has (FlatExpr-F.Product fs) = tt
  signed_has (FlatExpr-F.Power a b) = tt
  signed_has (FlatExpr-F.Call k fs) = tt
  signed_has (FlatExpr-F.Relation op a b) = tt
  signed_has (FlatExpr-F.Not f) = tt
  signed_has (FlatExpr-F.All fs) = tt
  signed_has (FlatExpr-F.Any fs) = tt
  signed_has (FlatExpr-F.If bs f) = tt

  two_has : (node : FlatExpr-F FlatExpr) → IfSome (two_terms numbers node) (λ p. P p.0.1 × P p.1.1)
  two_has (FlatExpr-F.Sum []) = tt
  two_has (FlatExpr-F.Sum (a ∷ [])) = tt
  two_has (FlatExpr-F.Sum ((minus, e) ∷ (other, f) ∷ [])) =
      pair_has (with_sign minus (unknown_in numbers e)) (with_sign other (unknown_in numbers f))
      (with_has minus (unknown_in numbers e) (unknown_has (out-FlatExpr e))) (with_has other (unknown_in numbers f) (unknown_has (out-FlatExpr f)))
  two_has (FlatExpr-F.Sum (a ∷ b ∷ c ∷ more)) = tt
  two_has (FlatExpr-F.Var variable order) = tt
  two_has (FlatExpr-F.Whole i) = tt
  two_has (FlatExpr-F.Decimal x) = tt
  two_has (FlatExpr-F.Str x) = tt
  two_has (FlatExpr-F.Truth b) = tt
  two_has (FlatExpr-F.Literal x) = tt
  two_has FlatExpr-F.Time = tt
  two_has (FlatExpr-F.Der f) = tt
  two_has (FlatExpr-F.Product fs) = tt
  two_has (FlatExpr-F.Power a b) = tt
  two_has (FlatExpr-F.Call k fs) = tt
  two_has (FlatExpr-F.Relation op a b) = tt
  two_has (FlatExpr-F.Not f) = tt
  two_has (FlatExpr-F.All fs) = tt
  two_has (FlatExpr-F.Any fs) = tt
  two_has (FlatExpr-F.If bs f) = tt

  either_has : (b : Bool) (x y : Option Alias) → IfSome x (λ a. P a.left × P a.right) → IfSome y (λ a. P a.left × P a.right) → IfSome (if b then x else y) (λ a. P a.left × P a.right)
  either_has true x y h k = h
  either_has false x y h k = k

  alias_has : (q : FlatEquation) → IfSome (alias_of numbers q) (λ a. P a.left × P a.right)
  alias_has q =
      let left = out-FlatExpr q.left in
      let right = out-FlatExpr q.right in
      either_has (is_zero_node left) (option_map (said_by true) (two_terms numbers right))
      (if is_zero_node right then option_map (said_by true) (two_terms numbers left) else option_map (said_by false) (pair_of (signed_node numbers left) (signed_node numbers right)))
      (said_has true (two_terms numbers right) (two_has right))
      (either_has (is_zero_node right) (option_map (said_by true) (two_terms numbers left)) (option_map (said_by false) (pair_of (signed_node numbers left) (signed_node numbers right)))
      (said_has true (two_terms numbers left) (two_has left))
      (said_has false (pair_of (signed_node numbers left) (signed_node numbers right)) (pair_has (signed_node numbers left) (signed_node numbers right) (signed_has left) (signed_has right))))

  each_has : (qs : List FlatEquation) (e : ℕ) (a : Alias) → get_or (map (alias_of numbers) qs) e None ≡ Some a → P a.left × P a.right
  each_has [] e a is = absurd (let g : None ≡ Some a = is in cc)
  each_has (q ∷ qs) zero a is = subst (λ (w : Option Alias). IfSome w (λ (b : Alias). P b.left × P b.right)) is (alias_has q)
  each_has (q ∷ qs) (suc e) a is = each_has qs e a is

-- both sides are numbers of unknowns
pub aliases_known : (m : FlatModel) (e : ℕ) (a : Alias) → get_or (aliases_in m) e None ≡ Some a
    → ((0 < a.left) × (a.left ≤ length (unknown_numbers m.vars))) × ((0 < a.right) × (a.right ≤ length (unknown_numbers m.vars)))
aliases_known m e a is =
    each_has (numbers_among m.vars) (λ u. (0 < u) × (u ≤ length (unknown_numbers m.vars))) (λ v p. (p, number_within m.vars v)) m.equations e a is

pub aliases_within : (m : FlatModel) → AreWithin (aliases_in m) (length (unknown_numbers m.vars) + 1)
aliases_within m e a is =
    let l = aliases_known m e a is in
    let left = l.0.1 in
    let right = l.1.1 in
    (omega (arith, left), omega (arith, right))
