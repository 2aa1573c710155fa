-- The ends of connects stand where the instances and what their names find stand, and a rule that a connect breaks is broken at such a place.
use Rattle.std.proofs.Common.{◌≡◌, List, [], ◌∷◌, map, flat_map, Option, Some, None, Ok, refl}
use Rattle.mo_syntax.specs.Outcome.{Outcome, and_then}
use Rattle.mo_syntax.specs.declared.expr.Expr.{Expr}
use Rattle.mo_syntax.specs.declared.expr.PartOf.{PartOf}
use Rattle.mo_syntax.specs.declared.expr.ReferenceOf.{ReferenceOf}
use Rattle.mo_syntax.specs.declared.place.Place.{Place}
use Rattle.mo_flat.specs.declared.connect.Connect.{Connect}
use Rattle.mo_flat.specs.declared.connect.End.{End}
use Rattle.mo_flat.specs.declared.connect.EndLeaf.{EndLeaf}
use Rattle.mo_flat.specs.declared.connect.Side.{Side}
use Rattle.mo_flat.specs.declared.connect.Side.TheVariants.{Inside, Outside, Neither}
use Rattle.mo_scope.specs.Frames.{Indexed, Member, Scope, at_of}
use Rattle.mo_scope.specs.Names.{path_below}
use Rattle.mo_typing.specs.Indices.{Index}
use Rattle.mo_typing.specs.Subscripts.{subscripts}
use Rattle.mo_eval.specs.Contexts.{Part}
use Rattle.mo_eval.specs.References.{Named, Components, Found_at, handed_in, named}
use Rattle.mo_eval.specs.Ends.{Selected, first_identifier, selected_from, unless_removed, with_parts}
use Rattle.mo_equations.specs.Leaves.{Tree, Variable, behind, variables_of}
use Rattle.mo_equations.specs.Connectors.{is_flow, is_joined_role, leaves_below}
use Rattle.mo_equations.specs.Ends.{connect_of, end_of, end_with, leaves_of, no_connector, side_of}
use Rattle.mo_places.specs.Written.{Written, At}
use Rattle.mo_places.specs.TreeWritten.{in_subs, places_of_parts}
use Rattle.mo_places.specs.Pieces.{in_name}
use Rattle.mo_places.specs.Stands.{Anything, Every, IfAny, Answers, FrameStands}
use Rattle.mo_places.specs.MadeStands.{ConnectStands, EndStands, InstanceStands}
use Rattle.mo_places.proofs.laws.Standing.{every_flat_map, every_front, every_weaker, if_list, then_answers}
use Rattle.mo_places.proofs.laws.Expansion.{VariableStands, variables_stand}

-- where the first identifier of a name stands
first_stands : (P : Written → Type 0) (parts : List (PartOf Expr)) → Every P (places_of_parts parts) → P (At (first_identifier parts))
first_stands P [] h = h.0
first_stands P (part ∷ parts) h = h.0

module _ (P : Written → Type 0) (tree : Tree) (instances : Every (InstanceStands P) tree.instances) where
  abbrev LeavesStand : List EndLeaf → Type 0
  LeavesStand leaves = Every (λ (leaf : EndLeaf). P (At leaf.place)) leaves

  -- ---- leaves

  abbrev leaf_of : Variable → Option Indexed → List EndLeaf
  leaf_of variable None = []
  leaf_of variable (Some below) = record { below = record { 0 = below }; flow = is_flow tree variable; variable = variable.number; place = variable.instance.place } ∷ []

  leaf_stands : (variable : Variable) (found : Option Indexed) → VariableStands P variable → LeavesStand (leaf_of variable found)
  leaf_stands variable None h = tt
  leaf_stands variable (Some below) h = (h.place, tt)

  below_stand : (path : Indexed) → LeavesStand (leaves_below tree path)
  below_stand path =
      every_flat_map (λ (leaf : EndLeaf). P (At leaf.place)) _ (variables_of tree)
      (every_weaker (VariableStands P) _ (λ variable h. if_list (λ (leaf : EndLeaf). P (At leaf.place)) (is_joined_role variable.leaf.role) _ _ (leaf_stands variable (behind path variable.instance.path) h) tt)
      (variables_of tree) (variables_stand P 1 tree.instances instances))

  leaves_stand : (element : Member × Index) → LeavesStand (leaves_of tree element)
  leaves_stand element = by (path_below (at_of element.0.home) element.0.name element.1) refl
    where
      by : (found : Option Indexed) → path_below (at_of element.0.home) element.0.name element.1 ≡ found → LeavesStand (leaves_of tree element)
      by None is = rw is tt
      by (Some path) is = rw is (below_stand path)

  elements_stand : (elements : List (Member × Index)) → Every (Every (λ (leaf : EndLeaf). P (At leaf.place))) (map (leaves_of tree) elements)
  elements_stand [] = tt
  elements_stand (element ∷ elements) = (leaves_stand element, elements_stand elements)

  -- ---- ends; what names find and what ends select are those of mo_eval

  module _ (NamedStands : Named → Type 0) (SelectedStands : Selected → Type 0)
      (named_answers : (scope : Scope) (reference : ReferenceOf Expr) → FrameStands P scope.frame → Every P (in_name reference) → Answers P NamedStands (named tree.classes scope (with_parts tree.classes scope reference)))
      (selected_answers : (place : Place) (first : Member × PartOf Part) (others : List (Member × PartOf Part)) → P (At place) → NamedStands (Components (first ∷ others)) →
      Answers P (IfAny SelectedStands) (unless_removed (selected_from tree.classes place first others)))
      (subscripts_answer : (selected : Selected) → SelectedStands selected → Answers P Anything (subscripts (handed_in selected.chosen).0 (handed_in selected.chosen).1)) where
    on_side : (place : Place) (selected : Selected) (side : Side) → P (At place) → SelectedStands selected →
        Answers P (EndStands P) (and_then (subscripts (handed_in selected.chosen).0 (handed_in selected.chosen).1) (λ _. Ok (record { place = place; side = side; dims = (handed_in selected.chosen).0; elements = map (leaves_of tree) selected.elements })))
    on_side place selected side hp hs =
        then_answers P Anything (EndStands P) (subscripts (handed_in selected.chosen).0 (handed_in selected.chosen).1) _ (subscripts_answer selected hs)
        (λ u v. record { holds = record { place = hp; leaves = elements_stand selected.elements } })

    with_side : (place : Place) (selected : Selected) (side : Side) → P (At place) → SelectedStands selected → Answers P (EndStands P) (end_with tree place selected side)
    with_side place selected Neither hp hs = record { holds = record { place = hp; leaves = tt } }
    with_side place selected Inside hp hs = on_side place selected Inside hp hs
    with_side place selected Outside hp hs = on_side place selected Outside hp hs

    abbrev with_selected : ReferenceOf Expr → Scope → Option Selected → Outcome (Option End)
    with_selected reference scope None = Ok None
    with_selected reference scope (Some selected) =
        and_then (end_with tree (first_identifier reference.parts) selected (side_of tree.classes scope reference)) (λ end. Ok (Some end))

    selected_stands : (reference : ReferenceOf Expr) (scope : Scope) (found : Option Selected) → P (At (first_identifier reference.parts)) → IfAny SelectedStands found →
        Answers P (IfAny (EndStands P)) (with_selected reference scope found)
    selected_stands reference scope None hp hs = record { holds = tt }
    selected_stands reference scope (Some selected) hp hs =
        then_answers P (EndStands P) (IfAny (EndStands P)) (end_with tree (first_identifier reference.parts) selected (side_of tree.classes scope reference)) _
        (with_side (first_identifier reference.parts) selected (side_of tree.classes scope reference) hp hs) (λ end h. record { holds = h })

    abbrev with_named : ReferenceOf Expr → Scope → Named → Outcome (Option End)
    with_named reference scope (Components (first ∷ others)) =
        and_then (unless_removed (selected_from tree.classes (first_identifier reference.parts) first others)) (with_selected reference scope)
    with_named reference scope other = Ok (Some (no_connector (first_identifier reference.parts)))

    named_stands : (reference : ReferenceOf Expr) (scope : Scope) (found : Named) → P (At (first_identifier reference.parts)) → NamedStands found → Answers P (IfAny (EndStands P)) (with_named reference scope found)
    named_stands reference scope (Components []) hp h = record { holds = record { place = hp; leaves = tt } }
    named_stands reference scope (Found_at found at) hp h = record { holds = record { place = hp; leaves = tt } }
    named_stands reference scope (Components (first ∷ others)) hp h =
        then_answers P (IfAny SelectedStands) (IfAny (EndStands P)) (unless_removed (selected_from tree.classes (first_identifier reference.parts) first others)) (with_selected reference scope)
        (selected_answers (first_identifier reference.parts) first others hp h) (λ selected hs. selected_stands reference scope selected hp hs)

    end_stands : (scope : Scope) (reference : ReferenceOf Expr) → FrameStands P scope.frame → Every P (in_name reference) → Answers P (IfAny (EndStands P)) (end_of tree scope reference)
    end_stands scope reference hf h =
        let hp = first_stands P reference.parts (every_front P (places_of_parts reference.parts) (flat_map (λ part. in_subs part.subs) reference.parts) h) in
        then_answers P NamedStands (IfAny (EndStands P)) (named tree.classes scope (with_parts tree.classes scope reference)) (with_named reference scope) (named_answers scope reference hf h)
        (λ found hn. named_stands reference scope found hp hn)

    -- ---- connects

    abbrev behind_both : Place → End → Option End → Outcome (List Connect)
    behind_both place left None = Ok []
    behind_both place left (Some right) = Ok (record { place = place; left = left; right = right } ∷ [])

    abbrev behind_left : Scope → Place → ReferenceOf Expr → Option End → Outcome (List Connect)
    behind_left scope place right None = Ok []
    behind_left scope place right (Some left) = and_then (end_of tree scope right) (behind_both place left)

    both_stand : (place : Place) (left : End) (right : Option End) → P (At place) → EndStands P left → IfAny (EndStands P) right → Answers P (Every (ConnectStands P)) (behind_both place left right)
    both_stand place left None hp hl hr = record { holds = tt }
    both_stand place left (Some right) hp hl hr = record { holds = (record { place = hp; left = hl; right = hr }, tt) }

    left_stands : (scope : Scope) (place : Place) (right : ReferenceOf Expr) (left : Option End) → FrameStands P scope.frame → P (At place) → Every P (in_name right) → IfAny (EndStands P) left →
        Answers P (Every (ConnectStands P)) (behind_left scope place right left)
    left_stands scope place right None hf hp h hl = record { holds = tt }
    left_stands scope place right (Some left) hf hp h hl =
        then_answers P (IfAny (EndStands P)) (Every (ConnectStands P)) (end_of tree scope right) (behind_both place left) (end_stands scope right hf h) (λ end he. both_stand place left end hp hl he)

    -- A connect stands with its ends, where its names stand.
    pub connect_answers : (scope : Scope) (place : Place) (left right : ReferenceOf Expr) → FrameStands P scope.frame → P (At place) → Every P (in_name left) → Every P (in_name right) →
        Answers P (Every (ConnectStands P)) (connect_of tree scope place left right)
    connect_answers scope place left right hf hp hl hr =
        then_answers P (IfAny (EndStands P)) (Every (ConnectStands P)) (end_of tree scope left) (behind_left scope place right) (end_stands scope left hf hl) (λ end he. left_stands scope place right end hf hp hr he)
