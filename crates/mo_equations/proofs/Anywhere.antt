-- What replaces a constant does not depend on where the reference to it stands.
use Rattle.std.proofs.Common.{◌≡◌, ℕ, zero, suc, ◌+◌, Bool, true, false, Option, Some, None, Ok, Err, refl, ap, sym, ◌∙◌, arith}
use Rattle.mo_syntax.specs.Outcome.{Outcome, breaks}
use Rattle.mo_syntax.specs.declared.meaning.Kind.{Kind}
use Rattle.mo_syntax.specs.declared.place.Place.{Place}
use Rattle.mo_flat.specs.declared.expr.FlatExpr.{FlatExpr}
use Rattle.mo_scope.specs.Rows.{Table}
use Rattle.mo_scope.specs.Frames.{Indexed, Member}
use Rattle.mo_scope.specs.Parts.{Picked}
use Rattle.mo_syntax.specs.declared.rules.TheConstants.{NO_VALUE, REFERENCE_CHAIN_TOO_LONG}
use Rattle.mo_typing.specs.Indices.{Index}
use Rattle.mo_eval.specs.Components.{binding_of}
use Rattle.mo_values.specs.Scalars.{Known, has_values}
use Rattle.mo_eval.specs.Virtuals.{Element}
use Rattle.mo_eval.proofs.Remembered.{element_with, value_anywhere}
use Rattle.mo_equations.specs.Replacing.{Replacing, constant, constant_by, standing, value_or}
use Rattle.mo_equations.specs.steps.Standing.{constant_expression, constant_known}
use Rattle.mo_equations.proofs.Replacings.{constant_is, constant_none, constant_some, value_none, value_some}

module _ (table : Table) (member : Member) (index : Index) (kind : Kind) (constant_flag : Bool) (p q : Place) where
  abbrev at_p : Element
  at_p = element_with member index kind constant_flag p

  abbrev at_q : Element
  at_q = element_with member index kind constant_flag q

  known_anywhere : (left : ℕ) (known : Known) → constant_known table left at_p ≡ Ok known → constant_known table left at_q ≡ Ok known
  known_anywhere left known h = go (has_values kind) refl
    where
      go : (b : Bool) → has_values kind ≡ b → constant_known table left at_q ≡ Ok known
      go true is = rw is (value_anywhere table left member index kind constant_flag p q known (rw is at h))
      go false is = rw is (rw is at h)

  expression_anywhere : (left : ℕ) (replace : Replacing) (e : FlatExpr) → constant_expression table left replace at_p ≡ Ok e → constant_expression table left replace at_q ≡ Ok e
  expression_anywhere left replace e h = go (binding_of table member index) refl
    where
      go : (o : Outcome (Option Picked)) → binding_of table member index ≡ o → constant_expression table left replace at_q ≡ Ok e
      go (Err broken) is = absurd (let clash : ◌≡◌ {A = Outcome FlatExpr} (Err broken) (Ok e) = (rw is at h) in cc)
      go (Ok None) is = absurd (let clash : ◌≡◌ {A = Outcome FlatExpr} (breaks NO_VALUE p) (Ok e) = (rw is at h) in cc)
      go (Ok (Some binding)) is = rw is (rw is at h)

  by_anywhere : (left : ℕ) (replace : Replacing) (e : FlatExpr) → constant_by table left replace at_p ≡ Ok e → constant_by table left replace at_q ≡ Ok e
  by_anywhere left replace e h = constant_is table left replace at_q ∙ go (constant_known table left at_p) refl (sym (constant_is table left replace at_p) ∙ h)
    where
      go : (o : Outcome Known) → constant_known table left at_p ≡ o → value_or table (constant_expression table left replace at_p) (constant_known table left at_p) ≡ Ok e →
          value_or table (constant_expression table left replace at_q) (constant_known table left at_q) ≡ Ok e
      go (Err broken) is k = absurd (let clash : ◌≡◌ {A = Outcome FlatExpr} (Err broken) (Ok e) = (rw is at k) in cc)
      go (Ok (Some scalar)) is k =
          value_some table (constant_expression table left replace at_q) (constant_known table left at_q) scalar (known_anywhere left (Some scalar) is)
          ∙ (sym (value_some table (constant_expression table left replace at_p) (constant_known table left at_p) scalar is) ∙ k)
      go (Ok None) is k =
          value_none table (constant_expression table left replace at_q) (constant_known table left at_q) (known_anywhere left None is)
          ∙ expression_anywhere left replace e (sym (value_none table (constant_expression table left replace at_p) (constant_known table left at_p) is) ∙ k)

  pub constant_anywhere : (number : Indexed → ℕ) (left : ℕ) (e : FlatExpr) → constant table number left at_p ≡ Ok e → constant table number left at_q ≡ Ok e
  constant_anywhere number zero e h =
      absurd (let clash : ◌≡◌ {A = Outcome FlatExpr} (breaks REFERENCE_CHAIN_TOO_LONG p) (Ok e) = sym (constant_none table number zero at_p refl) ∙ h in cc)
  constant_anywhere number (suc left) e h =
      let less : suc left ≡ left + 1 = omega arith in
      constant_some table number (suc left) left at_q less
      ∙ by_anywhere left (standing number (constant table number left)) e (sym (constant_some table number (suc left) left at_p less) ∙ h)

pub constant_same : (table : Table) (number : Indexed → ℕ) (left : ℕ) (m n : Member) (i j : Index) (k l : Kind) (b c : Bool) (p q : Place) (e : FlatExpr) → m ≡ n → i ≡ j → k ≡ l → b ≡ c →
    constant table number left (element_with m i k b p) ≡ Ok e → constant table number left (element_with n j l c q) ≡ Ok e
constant_same table number left m n i j k l b c p q e members indices kinds constants h =
    sym
    (ap (λ x. constant table number left (element_with x i k b q)) members
    ∙ (ap (λ x. constant table number left (element_with n x k b q)) indices
    ∙ (ap (λ x. constant table number left (element_with n j x b q)) kinds ∙ ap (λ x. constant table number left (element_with n j l x q)) constants)))
    ∙ constant_anywhere table m i k b p q number left e h
