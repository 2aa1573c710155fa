-- An assert by how many values it is given.
use Rattle.std.proofs.Common.{◌≡◌, suc, List, [], ◌∷◌, get_or, length, Option, Some, None, refl, ap, sym, ◌∙◌, arith}
use Rattle.std.specs.Borrow.{Bor}
use Rattle.std.specs.Prelude.{option_map}
use Rattle.mo_syntax.specs.Outcome.{breaks}
use Rattle.mo_syntax.specs.declared.expr.Expr.{Expr}
use Rattle.mo_syntax.specs.declared.place.Place.{Place}
use Rattle.mo_scope.specs.Frames.{Scope}
use Rattle.mo_equations.specs.Asserts.{assert_of}
use Rattle.mo_equations.specs.Leaves.{Tree}
use Rattle.mo_equations.specs.steps.Asserts.{assert_with_level, values_seen}
use Rattle.mo_syntax.specs.declared.rules.TheConstants.{OUTSIDE_PROFILE}

module _ (tree : Tree) (scope : Scope) (place : Place) (given : Option (List Expr)) where
  pub two_values : (values : List (Bor Expr)) (a b : Bor Expr) → option_map values_seen (Some values) ≡ given → length values ≡ 2 → a ≡ get_or values 0 a → b ≡ get_or values 1 b →
      assert_with_level tree scope a.now b.now None ≡ assert_of tree scope place given
  two_values [] a b is long p q = let h : 0 ≡ 2 = long in absurd (omega (arith, h))
  two_values (x ∷ []) a b is long p q = let h : 1 ≡ 2 = long in absurd (omega (arith, h))
  two_values (x ∷ y ∷ []) a b is long p q =
      ap (λ (e : Bor Expr). assert_with_level tree scope e.now b.now None) p ∙ ap (λ (e : Bor Expr). assert_with_level tree scope x.now e.now None) q ∙ ap (assert_of tree scope place) is
  two_values (x ∷ y ∷ z ∷ rest) a b is long p q = let h : suc (suc (suc (length rest))) ≡ 2 = long in absurd (omega (arith, h))

  pub three_values : (values : List (Bor Expr)) (a b d : Bor Expr) → option_map values_seen (Some values) ≡ given → length values ≡ 3 → a ≡ get_or values 0 a → b ≡ get_or values 1 b → d ≡ get_or values 2 d →
      assert_with_level tree scope a.now b.now (Some d.now) ≡ assert_of tree scope place given
  three_values [] a b d is long p q r = let h : 0 ≡ 3 = long in absurd (omega (arith, h))
  three_values (x ∷ []) a b d is long p q r = let h : 1 ≡ 3 = long in absurd (omega (arith, h))
  three_values (x ∷ y ∷ []) a b d is long p q r = let h : 2 ≡ 3 = long in absurd (omega (arith, h))
  three_values (x ∷ y ∷ z ∷ []) a b d is long p q r =
      ap (λ (e : Bor Expr). assert_with_level tree scope e.now b.now (Some d.now)) p ∙ ap (λ (e : Bor Expr). assert_with_level tree scope x.now e.now (Some d.now)) q
      ∙ ap (λ (e : Bor Expr). assert_with_level tree scope x.now y.now (Some e.now)) r ∙ ap (assert_of tree scope place) is
  three_values (x ∷ y ∷ z ∷ w ∷ rest) a b d is long p q r = let h : suc (suc (suc (suc (length rest)))) ≡ 3 = long in absurd (omega (arith, h))

  pub other_values : (values : List (Bor Expr)) → option_map values_seen (Some values) ≡ given → (length values ≡ 2 → ⊥) → (length values ≡ 3 → ⊥) → assert_of tree scope place given ≡ breaks OUTSIDE_PROFILE place
  other_values [] is two three = sym (ap (assert_of tree scope place) is)
  other_values (x ∷ []) is two three = sym (ap (assert_of tree scope place) is)
  other_values (x ∷ y ∷ []) is two three = absurd (two refl)
  other_values (x ∷ y ∷ z ∷ []) is two three = absurd (three refl)
  other_values (x ∷ y ∷ z ∷ w ∷ rest) is two three = sym (ap (assert_of tree scope place) is)

  pub no_values : None ≡ given → assert_of tree scope place given ≡ breaks OUTSIDE_PROFILE place
  no_values is = sym (ap (assert_of tree scope place) is)
