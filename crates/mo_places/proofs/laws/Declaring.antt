-- The variables of the flat model stand where the instances do, and a rule that their attributes and bindings break is broken at what is
-- chosen for them.
use Rattle.std.proofs.Common.{ℕ, ◌&&◌, List, [], ◌∷◌, length, Option, Some, None, Ok, nat_eq, if◌then◌else◌}
use Rattle.mo_syntax.specs.Outcome.{Outcome, breaks}
use Rattle.mo_syntax.specs.declared.meaning.Kind.{Kind}
use Rattle.mo_syntax.specs.declared.meaning.Role.{Role}
use Rattle.mo_syntax.specs.declared.meaning.Role.TheVariants.{Constant, Parameter, Given, Unknown}
use Rattle.mo_syntax.specs.declared.place.Place.{Place}
use Rattle.mo_flat.specs.declared.expr.FlatExpr.{FlatExpr}
use Rattle.mo_scope.specs.Instances.{Chosen}
use Rattle.mo_syntax.specs.declared.rules.TheConstants.{WRONG_SIZE, WRONG_TYPE}
use Rattle.mo_typing.specs.Dims.{Dims}
use Rattle.mo_typing.specs.Kinds.{accepts}
use Rattle.mo_typing.specs.Outcome.{each}
use Rattle.mo_typing.specs.Subscripts.{fine}
use Rattle.mo_eval.specs.Components.{place_of}
use Rattle.mo_values.specs.Asked.{layered}
use Rattle.mo_values.specs.Scalars.{Known, has_values, if_it_has}
use Rattle.mo_eval.specs.Values.{known_of, most_references, resolved_for_value}
use Rattle.mo_equations.specs.Leaves.{Tree, Variable, number_of, variables_of}
use Rattle.mo_equations.specs.Variables.{Declared, all_declared, attribute_kind, binding_equation, declared, declared_with, are_among, fits_along, fits_leaf, flat_attribute, flat_binding, flat_of_leaf, flat_option, is_parameter, known_of_leaf, replacing, variable_with}
use Rattle.mo_places.specs.Written.{Written, At}
use Rattle.mo_places.specs.Stands.{Anything, Every, IfAny, Answers, PickedStands, TableStands}
use Rattle.mo_places.specs.InFiles.{Descends}
use Rattle.mo_places.specs.MadeStands.{ChosenStands, DeclaredStands, EquationStands, InstanceStands}
use Rattle.mo_places.specs.Resolved.{ResolvedStands}
use Rattle.mo_places.proofs.laws.Standing.{every_weaker, if_answers, then_answers}
use Rattle.mo_places.proofs.laws.Making.{any_each, any_ok, any_then, each_answers}
use Rattle.mo_places.proofs.laws.Layers.{LayersStand, layered_answers}
use Rattle.mo_places.proofs.laws.Replacing.{accepts_answers}
use Rattle.mo_places.proofs.laws.Expansion.{VariableStands, variables_stand}
use Rattle.mo_places.proofs.laws.Chosen.{ReplacesWell, Reads, chosen_answers, names_answer, value_or_answers, value_place}

module _ (P : Written → Type 0) where
  abbrev Sure : Unit {0} → Type 0
  Sure = Anything {A = Unit {0}}

  sized_answers : (place : Place) (pending indices sizes dims : List ℕ) → P (At place) → Answers P Sure (if nat_eq (length pending) (length dims) then (if are_among pending dims indices sizes then fine else breaks WRONG_SIZE place) else breaks WRONG_TYPE place)
  sized_answers place pending indices sizes dims hp =
      if_answers P Sure (nat_eq (length pending) (length dims)) (if are_among pending dims indices sizes then fine else breaks WRONG_SIZE place) (breaks WRONG_TYPE place)
      (if_answers P Sure (are_among pending dims indices sizes) fine (breaks WRONG_SIZE place) (record { holds = tt }) (record { holds = hp }))
      (record { holds = hp })

  fits_answers : (place : Place) (pending indices sizes dims : List ℕ) → P (At place) → Answers P Sure (fits_along place pending indices sizes dims)
  fits_answers place [] indices sizes dims hp = sized_answers place [] indices sizes dims hp
  fits_answers place (index ∷ pending) indices sizes [] hp = record { holds = hp }
  fits_answers place (index ∷ pending) indices sizes (n ∷ dims) hp = sized_answers place (index ∷ pending) indices sizes (n ∷ dims) hp

  module _ (descends : Descends P) (layers : LayersStand P) (tree : Tree) (stands : TableStands P tree.classes) (reads : Reads P tree.classes) where
    abbrev pub Flat : Outcome FlatExpr → Type 0
    Flat outcome = Answers P (Anything {A = FlatExpr}) outcome

    pub replaces : ReplacesWell P descends layers tree.classes stands reads (replacing tree)
    replaces = names_answer P descends layers tree.classes stands reads (number_of tree) most_references

    -- ---- what is chosen for a leaf

    fits_leaf_answers : (variable : Variable) (chosen : Chosen) → PickedStands P chosen → (dims : Dims) → Answers P Sure (fits_leaf tree variable chosen dims)
    fits_leaf_answers variable chosen h dims =
        fits_answers (place_of chosen.value) chosen.pending _ _ dims (value_place P descends layers tree.classes stands reads chosen.value h.value)

    leaf_answers : (variable : Variable) (kind : Kind) (chosen : Chosen) → PickedStands P chosen → Flat (flat_of_leaf tree variable kind chosen)
    leaf_answers variable kind chosen h =
        chosen_answers P descends layers tree.classes stands reads most_references (replacing tree) replaces kind (fits_leaf tree variable chosen) chosen h (fits_leaf_answers variable chosen h)

    known_answers : (variable : Variable) (kind : Kind) (chosen : Chosen) → PickedStands P chosen → Answers P (Anything {A = Known}) (known_of_leaf tree variable kind chosen)
    known_answers variable kind chosen h =
        then_answers P (ResolvedStands P) (Anything {A = Known}) (resolved_for_value tree.classes most_references chosen.scope chosen.value) _ (reads.for_value most_references chosen.scope chosen.value h.scope h.value) (λ it hr.
        then_answers P Sure (Anything {A = Known}) (layered (λ got. accepts kind got (place_of chosen.value)) (fits_leaf tree variable chosen) it.expression) _
        (layered_answers P layers Sure (λ got. accepts kind got (place_of chosen.value)) (fits_leaf tree variable chosen) it.expression hr.expression
        (λ got. accepts_answers P kind got (place_of chosen.value) (value_place P descends layers tree.classes stands reads chosen.value h.value)) (fits_leaf_answers variable chosen h)) (λ u v.
        any_then P (known_of tree.classes most_references it chosen.pending) (λ known. Ok (if_it_has kind known)) (reads.known most_references it chosen.pending hr) (λ known. any_ok P (if_it_has kind known))))

    -- ---- attributes and bindings

    attribute_answers : (variable : Variable) (attribute : ℕ × Chosen) → ChosenStands P attribute.1 → Answers P (Anything {A = ℕ × FlatExpr}) (flat_attribute tree variable attribute)
    attribute_answers variable attribute h =
        any_then P (flat_of_leaf tree variable (attribute_kind variable.leaf.kind attribute.0) attribute.1) (λ e. Ok (attribute.0, e))
        (leaf_answers variable (attribute_kind variable.leaf.kind attribute.0) attribute.1 h) (λ e. any_ok P (attribute.0, e))

    binding_answers : (variable : Variable) (binding : Chosen) → ChosenStands P binding → Flat (flat_binding tree variable binding)
    binding_answers variable binding h =
        if_answers P (Anything {A = FlatExpr}) (is_parameter variable.leaf.role && has_values variable.leaf.kind) _ _
        (value_or_answers P descends layers tree.classes stands reads (flat_of_leaf tree variable variable.leaf.kind binding) (known_of_leaf tree variable variable.leaf.kind binding)
        (leaf_answers variable variable.leaf.kind binding h) (known_answers variable variable.leaf.kind binding h))
        (leaf_answers variable variable.leaf.kind binding h)

    option_answers : (variable : Variable) (binding : Option Chosen) → IfAny (ChosenStands P) binding → Answers P (Anything {A = Option FlatExpr}) (flat_option tree variable binding)
    option_answers variable None h = record { holds = tt }
    option_answers variable (Some binding) h = any_then P (flat_binding tree variable binding) (λ e. Ok (Some e)) (binding_answers variable binding h) (λ e. any_ok P (Some e))

    -- ---- variables

    equation_stands : (variable : Variable) (binding : Option Chosen) (e : Option FlatExpr) → IfAny (ChosenStands P) binding → Every (EquationStands P) (binding_equation variable binding e)
    equation_stands variable (Some binding) (Some e) h = (value_place P descends layers tree.classes stands reads binding.value h.value, tt)
    equation_stands variable (Some binding) None h = tt
    equation_stands variable None (Some e) h = tt
    equation_stands variable None None h = tt

    abbrev declared_as : Variable → List (ℕ × FlatExpr) → Option FlatExpr → Role → Declared
    declared_as variable attributes binding Unknown = record { variable = variable_with tree variable attributes None; equations = binding_equation variable variable.leaf.binding binding }
    declared_as variable attributes binding role = record { variable = variable_with tree variable attributes binding; equations = [] }

    declared_as_stands : (variable : Variable) (attributes : List (ℕ × FlatExpr)) (binding : Option FlatExpr) (role : Role) → VariableStands P variable → DeclaredStands P (declared_as variable attributes binding role)
    declared_as_stands variable attributes binding Unknown h = record { place = h.place; equations = equation_stands variable variable.leaf.binding binding h.leaf.binding }
    declared_as_stands variable attributes binding Constant h = record { place = h.place; equations = tt }
    declared_as_stands variable attributes binding Parameter h = record { place = h.place; equations = tt }
    declared_as_stands variable attributes binding Given h = record { place = h.place; equations = tt }

    declared_answers : (variable : Variable) → VariableStands P variable → Answers P (DeclaredStands P) (declared tree variable)
    declared_answers variable h =
        then_answers P (Anything {A = List (ℕ × FlatExpr)}) (DeclaredStands P) (each (flat_attribute tree variable) variable.leaf.attributes) _
        (any_each P (flat_attribute tree variable) variable.leaf.attributes
        (every_weaker (λ (attribute : ℕ × Chosen). ChosenStands P attribute.1) (λ (attribute : ℕ × Chosen). Answers P (Anything {A = ℕ × FlatExpr}) (flat_attribute tree variable attribute))
        (attribute_answers variable) variable.leaf.attributes h.leaf.attributes)) (λ attributes u.
        then_answers P (Anything {A = Option FlatExpr}) (DeclaredStands P) (flat_option tree variable variable.leaf.binding) (λ binding. Ok (declared_with tree variable attributes binding))
        (option_answers variable variable.leaf.binding h.leaf.binding) (λ binding v. record { holds = declared_as_stands variable attributes binding variable.leaf.role h }))

    pub all_declared_answer : Every (InstanceStands P) tree.instances → Answers P (Every (DeclaredStands P)) (all_declared tree)
    all_declared_answer h =
        each_answers P (DeclaredStands P) (declared tree) (variables_of tree) (every_weaker (VariableStands P) _ declared_answers (variables_of tree) (variables_stand P 1 tree.instances h))
