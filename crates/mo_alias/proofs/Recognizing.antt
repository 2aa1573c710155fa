-- What an equation says, by the tests of its sides.
use Rattle.std.proofs.Common.{◌≡◌, ℕ, Bool, true, false, List, Option, ap, ◌∙◌}
use Rattle.std.specs.Option.{option_map}
use Rattle.mo_flat.specs.declared.expr.FlatExpr.{out-FlatExpr}
use Rattle.mo_flat.specs.declared.model.FlatEquation.{FlatEquation}
use Rattle.mo_alias.specs.declared.alias.Alias.{Alias}
use Rattle.mo_alias.specs.Recognized.{alias_of, is_zero_node, pair_of, said_by, signed_node, two_terms}

module _ (numbers : List ℕ) (q : FlatEquation) where
  pub left_zero : is_zero_node (out-FlatExpr q.left) ≡ true → (terms : Option ((Bool × ℕ) × (Bool × ℕ))) (said : Option Alias)
      → terms ≡ two_terms numbers (out-FlatExpr q.right) → said ≡ option_map (said_by true) terms → said ≡ alias_of numbers q
  left_zero zero terms said t s = rw zero (s ∙ ap (option_map (said_by true)) t)

  pub right_zero : is_zero_node (out-FlatExpr q.left) ≡ false → is_zero_node (out-FlatExpr q.right) ≡ true → (terms : Option ((Bool × ℕ) × (Bool × ℕ))) (said : Option Alias)
      → terms ≡ two_terms numbers (out-FlatExpr q.left) → said ≡ option_map (said_by true) terms → said ≡ alias_of numbers q
  right_zero one zero terms said t s = rw (one, zero) (s ∙ ap (option_map (said_by true)) t)

  pub two_sides : is_zero_node (out-FlatExpr q.left) ≡ false → is_zero_node (out-FlatExpr q.right) ≡ false
      → (left right : Option (Bool × ℕ)) (both : Option ((Bool × ℕ) × (Bool × ℕ))) (said : Option Alias)
      → left ≡ signed_node numbers (out-FlatExpr q.left) → right ≡ signed_node numbers (out-FlatExpr q.right) → both ≡ pair_of left right
      → said ≡ option_map (said_by false) both → said ≡ alias_of numbers q
  two_sides one other left right both said l r p s =
      rw (one, other) (s ∙ ap (option_map (said_by false)) (p ∙ ap (λ (x : Option (Bool × ℕ)). pair_of x right) l ∙ ap (pair_of (signed_node numbers (out-FlatExpr q.left))) r))
