-- The equations of sets whose members are numbers are sound.
use Rattle.std.proofs.Common.{◌≡◌, ℕ, zero, suc, ◌<◌, inl, inr, Bool, true, false, List, [], ◌∷◌, map, flat_map, Option, Some, None, length, pos, refl, sym, subst, arith, IsSome, All, Result}
use Rattle.std.specs.Prelude.{◌&&◌, nat_le, IfOk}
use Rattle.std.specs.Option.{option_map}
use Rattle.std.proofs.lemmas.Bool.Decides.{leb_tells}
use Rattle.std.proofs.lemmas.List.Elements.{All-append, All-cons, All-head, All-nil, All-tail}
use Rattle.std.proofs.lemmas.Option.{slice_get_past}
use Rattle.std.proofs.lemmas.Result.{IfOk-weaker}
use Rattle.mo_syntax.specs.declared.place.Place.{Place}
use Rattle.mo_flat.specs.declared.connect.FaceSet.{FaceSet}
use Rattle.mo_flat.specs.declared.expr.FlatExpr.{FlatExpr}
use Rattle.mo_flat.specs.declared.model.FlatEquation.{FlatEquation}
use Rattle.mo_flat.specs.declared.model.FlatVar.{FlatVar}
use Rattle.mo_flat.specs.Sound.{FlatKind, IsSoundEquation, IsSoundNumber, flat_kind, is_numeric}
use Rattle.mo_flat.proofs.SoundForms.{IsGood, Each, good_Sum, good_Var, good_Whole}
use Rattle.mo_connect.specs.Equations.{IsNumericVariable, HasNumericMembers, variable_of, term_of, equality_with, potential_equations, sum_of, flow_equation, equations_of}

kind_known : (k : Option FlatKind) → is_numeric k ≡ true → IsSome k
kind_known None h = let no : false ≡ true = h in cc
kind_known (Some k) h = refl

within_one : (vars : List FlatVar) (n : ℕ) → IsNumericVariable vars n → (nat_le 1 n && nat_le n (length vars)) ≡ true
within_one vars zero h = let no : false ≡ true = h in cc
within_one vars (suc n) h = elim (leb_tells (length vars) n) [
  | inl past ↦ let no : false ≡ true = subst (λ o. is_numeric (option_map (λ v. flat_kind v.kind) o) ≡ true) (slice_get_past vars n past.1) h in cc
  | inr low ↦ let less : n < length vars = low.1 in grind arith
]

module _ (vars : List FlatVar) where
  -- what is known of each member
  abbrev IsNumber : ℕ × Bool → Type 0
  IsNumber member = IsNumericVariable vars member.0

  number : (e : FlatExpr) → IsGood vars 0 e → IsSoundNumber 65535 vars e
  number e g = record { sound = record { shaped = g.shaped; kinds_agree = kind_known _ g.numeric; orders = g.orders 0 (omega arith) }; numeric = g.numeric }

  variable_good : (member : ℕ × Bool) → IsNumber member → IsGood vars 0 (variable_of member)
  variable_good member h = good_Var vars 0 member.0 (within_one vars member.0 h) h

  terms_good : (members : List (ℕ × Bool)) → All IsNumber members → Each (λ (t : Bool × FlatExpr). IsGood vars 0 t.1) (map term_of members)
  terms_good [] h = tt
  terms_good (a ∷ members) h = (variable_good a (All-head IsNumber a members h), terms_good members (All-tail IsNumber a members h))

  sum_good : (first : ℕ × Bool) (more : List (ℕ × Bool)) → All IsNumber (first ∷ more) → IsGood vars 0 (sum_of first more)
  sum_good (v, false) [] h = variable_good (v, false) (All-head IsNumber (v, false) [] h)
  sum_good (v, true) [] h = good_Sum vars 0 _ refl (terms_good ((v, true) ∷ []) h)
  sum_good first (second ∷ more) h = good_Sum vars 0 _ refl (terms_good (first ∷ second ∷ more) h)

  flow_sound : (place : Place) (first : ℕ × Bool) (more : List (ℕ × Bool)) → All IsNumber (first ∷ more) → IsSoundEquation vars (flow_equation place first more)
  flow_sound place first more h = record { left = number _ (sum_good first more h); right = number _ (good_Whole vars 0 (pos 0)) }

  equalities_sound : (place : Place) (first : ℕ × Bool) (more : List (ℕ × Bool)) → IsNumber first → All IsNumber more → All (IsSoundEquation vars) (potential_equations place first more)
  equalities_sound place first [] p h = All-nil (IsSoundEquation vars)
  equalities_sound place first (a ∷ more) p h =
      All-cons (IsSoundEquation vars) (equality_with place first a) (potential_equations place first more)
      (record { left = number _ (variable_good first p); right = number _ (variable_good a (All-head IsNumber a more h)) })
      (equalities_sound place first more p (All-tail IsNumber a more h))

  set_sound : (flow : Bool) (place : Place) (members : List (ℕ × Bool)) → All IsNumber members → All (IsSoundEquation vars) (equations_of (record { flow = flow; place = place; members = members }))
  set_sound flow place [] h = All-nil (IsSoundEquation vars)
  set_sound true place (first ∷ more) h = All-cons (IsSoundEquation vars) (flow_equation place first more) [] (flow_sound place first more h) (All-nil (IsSoundEquation vars))
  set_sound false place (first ∷ more) h = equalities_sound place first more (All-head IsNumber first more h) (All-tail IsNumber first more h)

  equations_sound : (sets : List FaceSet) → All (HasNumericMembers vars) sets → All (IsSoundEquation vars) (flat_map equations_of sets)
  equations_sound [] h = All-nil (IsSoundEquation vars)
  equations_sound (set ∷ sets) h =
      All-append (IsSoundEquation vars) (equations_of set) (flat_map equations_of sets)
      (set_sound set.flow set.place set.members (All-head (HasNumericMembers vars) set sets h)) (equations_sound sets (All-tail (HasNumericMembers vars) set sets h))

  -- where the equations are made
  pub made_sound : {E : Type 0} (sets : List FaceSet) (made : Result (List FlatEquation) E) → All (HasNumericMembers vars) sets → IfOk made (λ list. list ≡ flat_map equations_of sets) → IfOk made (λ list. All (IsSoundEquation vars) list)
  made_sound sets made h is =
      IfOk-weaker made (λ list. list ≡ flat_map equations_of sets) (λ list. All (IsSoundEquation vars) list)
      (λ list e. subst (λ x. All (IsSoundEquation vars) x) (sym e) (equations_sound sets h)) is
