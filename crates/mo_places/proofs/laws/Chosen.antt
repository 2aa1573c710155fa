-- What stands in the flat model for what is chosen and what is named breaks a rule only where these stand.
use Rattle.std.proofs.Common.{ℕ, zero, suc, ◌-◌, Bool, List, [], ◌∷◌, Option, Some, None, Ok, if◌then◌else◌}
use Rattle.std.specs.Prelude.{slice_get}
use Rattle.mo_syntax.specs.Outcome.{Outcome, and_then, breaks}
use Rattle.mo_syntax.specs.declared.expr.Expr.{Expr}
use Rattle.mo_syntax.specs.declared.meaning.Kind.{Kind}
use Rattle.mo_flat.specs.declared.expr.FlatExpr.{FlatExpr}
use Rattle.mo_flat.specs.declared.expr.FlatExpr as flat
use Rattle.mo_scope.specs.Rows.{Table}
use Rattle.mo_scope.specs.Frames.{Indexed, Member, Scope, at_of}
use Rattle.mo_scope.specs.Parts.{picked}
use Rattle.mo_scope.specs.Names.{child_of_member, path_below}
use Rattle.mo_scope.specs.Instances.{Chosen}
use Rattle.mo_syntax.specs.declared.rules.TheConstants.{NO_VALUE}
use Rattle.mo_typing.specs.Dims.{Dims}
use Rattle.mo_typing.specs.Indices.{Index}
use Rattle.mo_typing.specs.Kinds.{accepts}
use Rattle.mo_typing.specs.Subscripts.{Checked}
use Rattle.mo_eval.specs.Components.{binding_of, place_of}
use Rattle.mo_values.specs.Asked.{fitted, for_flat}
use Rattle.mo_eval.specs.Resolving.{made}
use Rattle.mo_values.specs.Scalars.{Known, has_values}
use Rattle.mo_eval.specs.Values.{component_dims, known_of, most_references, reading, resolved, resolved_for_value, there_of, value_of_element}
use Rattle.mo_eval.specs.Virtuals.{Element, Virtual, Component_element, Division, Resolved}
use Rattle.mo_equations.specs.Replacing.{Replacing, constant, constant_by, flat_at, flat_chosen, flat_value, flat_variable, of_variable, of_virtual, standing, value_or}
use Rattle.mo_places.specs.Written.{Written, At, Valued}
use Rattle.mo_places.specs.Stands.{ChildStands, Anything, Every, IfAny, Answers, FrameStands, MemberStands, PickedStands, TableStands}
use Rattle.mo_places.specs.InFiles.{Descends}
use Rattle.mo_places.specs.Resolved.{ArrayStands, ElementStands, Makes, ResolvedStands, VirtualStands, VirtualsStand}
use Rattle.mo_places.proofs.laws.Standing.{if_answers, then_answers}
use Rattle.mo_places.proofs.laws.Sources.{picked_stands}
use Rattle.mo_places.proofs.laws.Naming.{child_of_member_stands}
use Rattle.mo_places.proofs.laws.Making.{any_ok, any_then}
use Rattle.mo_places.proofs.laws.Layers.{LayersStand, layered_answers}
use Rattle.mo_places.proofs.laws.Reading.{fitted_answers}
use Rattle.mo_places.proofs.laws.Replacing.{accepts_answers, flat_answers}

-- What the calls answer that read conditions, dimensions, values and expressions, with so many references left.
pub record Reads (P : Written → Type 0) (table : Table) : Type 0 where
  pub there : (left : ℕ) (member : Member) → MemberStands P member → Answers P (Anything {A = Bool}) (there_of table left member)
  pub dims : (left : ℕ) (member : Member) → MemberStands P member → Answers P (Anything {A = Dims}) (component_dims table left member)
  pub value : (left : ℕ) (element : Element) → ElementStands P element → Answers P (Anything {A = Known}) (value_of_element table left element)
  pub resolved : (left : ℕ) (scope : Scope) (e : Expr) → FrameStands P scope.frame → P (Valued e) → Answers P (ResolvedStands P) (resolved table left scope e)
  pub for_value : (left : ℕ) (scope : Scope) (e : Expr) → FrameStands P scope.frame → P (Valued e) → Answers P (ResolvedStands P) (resolved_for_value table left scope e)
  pub known : (left : ℕ) (it : Resolved) (index : Index) → ResolvedStands P it → Answers P (Anything {A = Known}) (known_of table left it index)
  pub made : (scope : Scope) (e : Expr) → FrameStands P scope.frame → P (Valued e) → Makes P (ArrayStands P) (made table (reading table most_references) scope e for_flat)

got : {A : Type 0} (Q : A → Type 0) (xs : List A) (n : ℕ) → Every Q xs → IfAny Q (slice_get xs n)
got Q [] n h = tt
got Q (x ∷ xs) zero h = h.0
got Q (x ∷ xs) (suc n) h = got Q xs n h.1

module _ (P : Written → Type 0) (descends : Descends P) (layers : LayersStand P) (table : Table) (stands : TableStands P table) (reads : Reads P table) where
  abbrev pub Flat : Outcome FlatExpr → Type 0
  Flat outcome = Answers P (Anything {A = FlatExpr}) outcome

  -- what stands for each element that stands is found without breaking a rule elsewhere
  abbrev pub ReplacesWell : Replacing → Type 0
  ReplacesWell replace = (element : Element) → ElementStands P element → Flat (replace element)

  virtual_answers : (replace : Replacing) → ReplacesWell replace → (virtual : Virtual) → VirtualStands P virtual → Flat (of_virtual replace virtual)
  virtual_answers replace hr (Component_element element) h = hr element h
  virtual_answers replace hr (Division place function a b) h = record { holds = h.0 }

  abbrev of_option : Replacing → Option Virtual → Outcome FlatExpr
  of_option replace (Some virtual) = of_virtual replace virtual
  of_option replace None = Ok (flat.Var 0 0)

  of_option_answers : (replace : Replacing) → ReplacesWell replace → (virtual : Option Virtual) → IfAny (VirtualStands P) virtual → Flat (of_option replace virtual)
  of_option_answers replace hr (Some virtual) h = virtual_answers replace hr virtual h
  of_option_answers replace hr None h = any_ok P (flat.Var 0 0)

  pub variable_answers : (replace : Replacing) → ReplacesWell replace → (virtuals : List Virtual) → VirtualsStand P virtuals → (n : ℕ) → Flat (of_variable replace virtuals n)
  variable_answers replace hr virtuals h n = of_option_answers replace hr (slice_get virtuals (n - 1)) (got (VirtualStands P) virtuals (n - 1) h)

  -- ---- expressions

  pub expression_answers : (left : ℕ) (replace : Replacing) → ReplacesWell replace → (wanted : Kind → Checked) (fit : Dims → Checked) (scope : Scope) (e : Expr) (index : Index) →
      FrameStands P scope.frame → P (Valued e) → ((kind : Kind) → Answers P (Anything {A = Unit {0}}) (wanted kind)) → ((dims : Dims) → Answers P (Anything {A = Unit {0}}) (fit dims)) →
      Flat (flat_at table left replace wanted fit scope e index)
  expression_answers left replace hr wanted fit scope e index hf he hw hd =
      flat_answers P table left replace (ResolvedStands P) (reads.resolved left)
      (λ wanted fit r h hw hd. layered_answers P layers (Anything {A = Unit {0}}) wanted fit r.expression h.expression hw hd)
      (λ r h n. variable_answers replace hr r.virtuals h.virtuals n)
      wanted fit scope e index hf he hw hd

  pub value_place : (e : Expr) → P (Valued e) → P (At (place_of e))
  value_place e h = (descends.expression e h).0

  pub chosen_answers : (left : ℕ) (replace : Replacing) → ReplacesWell replace → (kind : Kind) (fit : Dims → Checked) (chosen : Chosen) → PickedStands P chosen →
      ((dims : Dims) → Answers P (Anything {A = Unit {0}}) (fit dims)) → Flat (flat_chosen table left replace kind fit chosen)
  chosen_answers left replace hr kind fit chosen h hd =
      expression_answers left replace hr (λ got. accepts kind got (place_of chosen.value)) fit chosen.scope chosen.value chosen.pending h.scope h.value
      (λ got. accepts_answers P kind got (place_of chosen.value) (value_place chosen.value h.value)) hd

  -- ---- values

  abbrev value_in : Outcome FlatExpr → Known → Outcome FlatExpr
  value_in other (Some scalar) = Ok (flat_value table scalar)
  value_in other None = other

  value_in_answers : (other : Outcome FlatExpr) (known : Known) → Flat other → Flat (value_in other known)
  value_in_answers other (Some scalar) h = any_ok P (flat_value table scalar)
  value_in_answers other None h = h

  pub value_or_answers : (other : Outcome FlatExpr) (known : Outcome Known) → Flat other → Answers P (Anything {A = Known}) known → Flat (value_or table other known)
  value_or_answers other known h hk = any_then P known (value_in other) hk (λ value. value_in_answers other value h)

  -- ---- constants without an instance

  pub binding_of_answers : (member : Member) (index : Index) → MemberStands P member → Answers P (IfAny (PickedStands P)) (binding_of table member index)
  binding_of_answers member index hm =
      then_answers P (ChildStands P) (IfAny (PickedStands P)) (child_of_member table member index) (λ child. Ok (picked table child.sources []))
      (child_of_member_stands P table stands member index hm) (λ child hc. record { holds = picked_stands P table stands child.sources [] hc.sources })

  abbrev bound : ℕ → Replacing → Element → Option Chosen → Outcome FlatExpr
  bound left replace element None = breaks NO_VALUE element.place
  bound left replace element (Some binding) = flat_chosen table left replace element.kind (fitted (place_of binding.value) binding.pending) binding

  bound_answers : (left : ℕ) (replace : Replacing) → ReplacesWell replace → (element : Element) → ElementStands P element → (binding : Option Chosen) → IfAny (PickedStands P) binding →
      Flat (bound left replace element binding)
  bound_answers left replace hr element he None h = record { holds = he.place }
  bound_answers left replace hr element he (Some binding) h =
      chosen_answers left replace hr element.kind (fitted (place_of binding.value) binding.pending) binding h
      (fitted_answers P (place_of binding.value) (value_place binding.value h.value) binding.pending)

  abbrev expression_of : ℕ → Replacing → Element → Outcome FlatExpr
  expression_of left replace element = and_then (binding_of table element.member element.index) (bound left replace element)

  expression_of_answers : (left : ℕ) (replace : Replacing) → ReplacesWell replace → (element : Element) → ElementStands P element → Flat (expression_of left replace element)
  expression_of_answers left replace hr element he =
      then_answers P (IfAny (PickedStands P)) (Anything {A = FlatExpr}) (binding_of table element.member element.index) (bound left replace element)
      (binding_of_answers element.member element.index he.member) (bound_answers left replace hr element he)

  abbrev known_value : ℕ → Element → Outcome Known
  known_value left element = if has_values element.kind then value_of_element table left element else Ok None

  constant_by_answers : (left : ℕ) (replace : Replacing) → ReplacesWell replace → ReplacesWell (constant_by table left replace)
  constant_by_answers left replace hr element he =
      value_or_answers (expression_of left replace element) (known_value left element) (expression_of_answers left replace hr element he)
      (if_answers P (Anything {A = Known}) (has_values element.kind) (value_of_element table left element) (Ok None) (reads.value left element he) (any_ok P None))

  abbrev standing_at : (Indexed → ℕ) → Replacing → Element → Option Indexed → Outcome FlatExpr
  standing_at number replace element (Some path) = Ok (flat.Var (number path) 0)
  standing_at number replace element None = replace element

  standing_at_answers : (number : Indexed → ℕ) (replace : Replacing) (element : Element) (path : Option Indexed) → Flat (replace element) → Flat (standing_at number replace element path)
  standing_at_answers number replace element (Some path) h = any_ok P (flat.Var (number path) 0)
  standing_at_answers number replace element None h = h

  standing_answers : (number : Indexed → ℕ) (replace : Replacing) → ReplacesWell replace → ReplacesWell (standing number replace)
  standing_answers number replace hr element he =
      standing_at_answers number replace element (path_below (at_of element.member.home) element.member.name element.index) (hr element he)

  constant_answers : (number : Indexed → ℕ) (left : ℕ) → ReplacesWell (constant table number left)
  unfolding constant
  constant_answers number zero element he = record { holds = he.place }
  constant_answers number (suc left) element he =
      constant_by_answers left (standing number (constant table number left)) (standing_answers number (constant table number left) (constant_answers number left)) element he

  -- what stands for the elements that expressions name
  pub names_answer : (number : Indexed → ℕ) (left : ℕ) → ReplacesWell (flat_variable table number left)
  names_answer number left = standing_answers number (constant table number left) (constant_answers number left)
