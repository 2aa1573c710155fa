-- The instances of a class stand where the class table stands, and a rule that is broken on the way is broken at such a place, or at the
-- name of the asked class.
use Rattle.std.proofs.Common.{ℕ, zero, suc, Bool, ◌&&◌, ◌||◌, not, List, [], ◌∷◌, ◌++◌, find, length, Option, Some, None, Ok, Err, nat_lt}
use Rattle.mo_syntax.specs.Outcome.{Outcome, breaks}
use Rattle.mo_syntax.specs.declared.class.ComponentOf.{ComponentOf}
use Rattle.mo_syntax.specs.declared.class.Give.{Give}
use Rattle.mo_syntax.specs.declared.place.Place.{Place}
use Rattle.mo_syntax.specs.Classes.{Home, Under, Inside, Apart}
use Rattle.mo_scope.specs.Rows.{Table, Row, row_at, Declares, component_of, is_class}
use Rattle.mo_scope.specs.Frames.{Frame, Top, Member, sources_of}
use Rattle.mo_scope.specs.Parts.{Redeclaration, first_of, picked}
use Rattle.mo_scope.specs.Lookup.{Walked, members_in}
use Rattle.mo_scope.specs.Names.{child_of_member, component_frame}
use Rattle.mo_scope.specs.Compatible.{prefix_of}
use Rattle.mo_scope.specs.Redeclarations.{fine}
use Rattle.mo_scope.specs.Instances.{Chosen, Instance}
use Rattle.mo_flat.specs.Text.{attribute_name}
use Rattle.mo_syntax.specs.declared.rules.TheConstants.{OUTSIDE_PROFILE, FLAT_MODEL_TOO_LARGE}
use Rattle.mo_typing.specs.Dims.{Dims}
use Rattle.mo_typing.specs.Indices.{Index, indices}
use Rattle.mo_eval.specs.Values.{component_dims, most_references, there_of}
use Rattle.mo_instance.specs.Attributes.{attribute_as, attributes_of, chosen_attribute, chosen_attributes, kind_of_leaf}
use Rattle.mo_instance.specs.Checks.{frame_checked, type_checked}
use Rattle.mo_instance.specs.Prefixes.{prefix_in_profile, is_discrete}
use Rattle.mo_instance.specs.Outer.{outer_checked}
use Rattle.mo_instance.specs.Elements.{Around, around_parts, class_place, instance_of, is_free, is_real, leaf_in, leaf_made, leaf_of, most_instances, no_leaf, place_of_type, room_for_one, type_place}
use Rattle.mo_instance.specs.Instances.{Adding, Deeper, Parts, adding_each, around_root, component_entered, deeper, element_entered, enclosing, enclosing_of, entered_by, inside, instances_by, instances_in, instances_of, is_placed, member_entered, most_names, parts_entered, root_frame, root_instance}
use Rattle.mo_places.specs.Written.{Written, At}
use Rattle.mo_places.specs.Stands.{ChildStands, Anything, Every, IfAny, Answers, DeclaresStand, FrameStands, MemberStands, NameStands, PickedStands, RedeclarationStands, RowStands, TableStands, WalkedStands}
use Rattle.mo_places.specs.InFiles.{Descends}
use Rattle.mo_places.specs.MadeStands.{ChosenStands, InstanceStands, LeafStands}
use Rattle.mo_places.proofs.laws.Standing.{every_append, every_flat_map, every_of, if_answers, then_answers}
use Rattle.mo_places.proofs.laws.Sources.{picked_stands, row_stands, sources_stand}
use Rattle.mo_places.proofs.laws.Finding.{last_place_stands, members_in_stand}
use Rattle.mo_places.proofs.laws.Naming.{child_of_member_stands, component_frame_stands, component_stands}
use Rattle.mo_places.proofs.laws.Checking.{frame_checked_answers, type_checked_answers}
use Rattle.mo_places.proofs.laws.Outer.{outer_checked_answers}

module _ (P : Written → Type 0) (descends : Descends P) (table : Table) (stands : TableStands P table)
    (there : (member : Member) → MemberStands P member → Answers P (Anything {A = Bool}) (there_of table most_references member))
    (dims : (member : Member) → MemberStands P member → Answers P (Anything {A = Dims}) (component_dims table most_references member)) where
  -- ---- leaves

  attribute_stands : (number : ℕ) (value : Option Chosen) → IfAny (ChosenStands P) value → Every (λ (attribute : ℕ × Chosen). ChosenStands P attribute.1) (attribute_as number value)
  attribute_stands number None h = tt
  attribute_stands number (Some value) h = (h, tt)

  attributes_stand : (leaf : Frame) → FrameStands P leaf → Every (λ (attribute : ℕ × Chosen). ChosenStands P attribute.1) (chosen_attributes table leaf)
  attributes_stand leaf hl =
      every_flat_map (λ (attribute : ℕ × Chosen). ChosenStands P attribute.1) (chosen_attribute table leaf) (attributes_of (kind_of_leaf leaf))
      (every_of (λ (number : ℕ). Every (λ (attribute : ℕ × Chosen). ChosenStands P attribute.1) (chosen_attribute table leaf number))
      (λ number. attribute_stands number (picked table (sources_of leaf) (attribute_name number ∷ []))
      (picked_stands P table stands (sources_of leaf) (attribute_name number ∷ []) (sources_stand P leaf hl))) (attributes_of (kind_of_leaf leaf)))

  binding_stands : (frame : Frame) → FrameStands P frame → IfAny (PickedStands P) (picked table (sources_of frame) [])
  binding_stands frame hf = picked_stands P table stands (sources_of frame) [] (sources_stand P frame hf)

  no_leaf_stands : (binding : Option Chosen) → IfAny (PickedStands P) binding → Answers P (IfAny (LeafStands P)) (no_leaf binding)
  no_leaf_stands None h = record { holds = tt }
  no_leaf_stands (Some binding) h = record { holds = (descends.expression binding.value h.value).0 }

  leaf_in_stands : (around : Around) (member : Member) (frame : Frame) (leaf : Option Frame) → MemberStands P member → FrameStands P frame → IfAny (FrameStands P) leaf →
      Answers P (IfAny (LeafStands P)) (leaf_in table around member frame leaf)
  leaf_in_stands around member frame None hm hf hl = no_leaf_stands (picked table (sources_of frame) []) (binding_stands frame hf)
  leaf_in_stands around member frame (Some leaf) hm hf hl =
      if_answers P (IfAny (LeafStands P)) (is_free around.vary && not (is_real (kind_of_leaf leaf))) (breaks OUTSIDE_PROFILE member.declares.place) (Ok (Some (leaf_made table around frame leaf)))
      (record { holds = hm.declares.place })
      (record { holds = record { attributes = attributes_stand leaf hl; binding = binding_stands frame hf } })

  -- ---- the places of types

  type_place_stands : (place : Place) (component : Option (ComponentOf Give)) → P (At place) → IfAny (λ (component : ComponentOf Give). NameStands P component.base) component →
      P (At (type_place place component))
  type_place_stands place None hp h = hp
  type_place_stands place (Some component) hp h = last_place_stands P table stands component.base.parts h

  place_of_type_stands : (declares : Declares) → DeclaresStand P declares → P (At (place_of_type declares))
  place_of_type_stands declares h = type_place_stands declares.place (component_of declares) h.place (component_stands P declares h.sort)

  class_place_stands : (member : Member) (wins : Option Redeclaration) → MemberStands P member → IfAny (RedeclarationStands P) wins → P (At (class_place member wins))
  class_place_stands member None hm h = place_of_type_stands member.declares hm.declares
  class_place_stands member (Some redeclaration) hm h = place_of_type_stands redeclaration.declares h.declares

  -- ---- instances behind others

  -- the place of the first of them
  abbrev place_in : Option Instance → Place
  place_in None = record { file = 0; byte = 0 }
  place_in (Some root) = root.place

  -- instances that stand, the name of the asked class with them
  pub record AllStand (instances : List Instance) : Type 0 where
    pub each : Every (InstanceStands P) instances
    pub root : P (At (place_in (first_of instances)))

  one_more : (so_far : List Instance) (instance : Instance) → InstanceStands P instance → AllStand so_far → AllStand (so_far ++ instance ∷ [])
  one_more [] instance h hs = record { each = (h, tt); root = h.place }
  one_more (first ∷ others) instance h hs = record { each = every_append (InstanceStands P) (first ∷ others) (instance ∷ []) hs.each (h, tt); root = hs.root }

  abbrev AddingStands : Adding → Type 0
  AddingStands add = (so_far : List Instance) → AllStand so_far → Answers P AllStand (add so_far)

  each_stands : {A : Type 0} (add : A → Adding) (xs : List A) → Every (λ x. AddingStands (add x)) xs → AddingStands (adding_each add xs)
  each_stands add [] h so_far hs = record { holds = hs }
  each_stands add (x ∷ xs) h so_far hs =
      then_answers P AllStand AllStand (add x so_far) (adding_each add xs) (h.0 so_far hs) (λ more hm. each_stands add xs h.1 more hm)

  abbrev PartsStand : Parts → Type 0
  PartsStand parts = (around : Around) (walked : Walked) → P (At around.asked) → WalkedStands P walked → AddingStands (parts around walked)

  abbrev DeeperStands : Deeper → Type 0
  DeeperStands deeper = (place : Place) → P (At place) → Answers P PartsStand (deeper place)

  -- ---- one element

  entered_stands : (parts : Parts) (around : Around) (member : Member) (sizes : Dims) (frame : Frame) (walked : Walked) → PartsStand parts → P (At around.asked) → MemberStands P member →
      FrameStands P frame → WalkedStands P walked → AddingStands (entered_by table parts around member sizes frame walked)
  entered_stands parts around member sizes frame walked hp ha hm hf hw so_far hs =
      then_answers P (IfAny (LeafStands P)) AllStand (leaf_of table around member frame walked) _ (leaf_in_stands around member frame walked.leaf hm hf hw.leaf) (λ leaf hl.
      hp around walked ha hw (so_far ++ instance_of member sizes frame leaf ∷ [])
      (one_more so_far (instance_of member sizes frame leaf) (record { frame = hf; place = hm.declares.place; leaf = hl }) hs))

  room_answers : (asked : Place) (so_far : List Instance) → P (At asked) → Answers P (Anything {A = Unit {0}}) (room_for_one asked so_far)
  room_answers asked so_far ha = if_answers P (Anything {A = Unit {0}}) (nat_lt most_instances (length so_far)) (breaks FLAT_MODEL_TOO_LARGE asked) fine (record { holds = ha }) (record { holds = tt })

  element_stands : (parts : Parts) (around : Around) (member : Member) (sizes : Dims) (index : Index) → PartsStand parts → P (At around.asked) → MemberStands P member →
      AddingStands (element_entered table parts around member sizes index)
  element_stands parts around member sizes index hp ha hm so_far hs =
      then_answers P (Anything {A = Unit {0}}) AllStand (room_for_one around.asked so_far) _ (room_answers around.asked so_far ha) (λ u v.
      then_answers P (ChildStands P) AllStand (child_of_member table member index) _ (child_of_member_stands P table stands member index hm) (λ child hc.
      then_answers P (WalkedStands P) AllStand (type_checked table (class_place member child.redeclared) (component_frame member index child)) _
      (type_checked_answers P table stands (class_place member child.redeclared) (component_frame member index child) (class_place_stands member child.redeclared hm hc.redeclared)
      (component_frame_stands P table stands member index child hm hc)) (λ walked hw.
      entered_stands parts around member sizes (component_frame member index child) walked hp ha hm (component_frame_stands P table stands member index child hm hc) hw so_far hs)))

  -- ---- one component

  component_entered_stands : (deeper : Deeper) (around : Around) (member : Member) → DeeperStands deeper → P (At around.asked) → MemberStands P member → AddingStands (component_entered table deeper around member)
  component_entered_stands deeper around member hd ha hm so_far hs =
      then_answers P (Anything {A = Unit {0}}) AllStand (prefix_in_profile member.declares.place (prefix_of table member)) _
      (if_answers P (Anything {A = Unit {0}}) ((prefix_of table member).stream || is_discrete (prefix_of table member).vary) (breaks OUTSIDE_PROFILE member.declares.place) fine (record { holds = hm.declares.place }) (record { holds = tt })) (λ u v.
      then_answers P (ChildStands P) AllStand (child_of_member table member []) _ (child_of_member_stands P table stands member [] hm) (λ child hc.
      then_answers P (Anything {A = Dims}) AllStand (component_dims table most_references member) _ (dims member hm) (λ sizes w.
      then_answers P PartsStand AllStand (deeper member.declares.place) _ (hd member.declares.place hm.declares.place) (λ parts hp.
      each_stands (element_entered table parts (around_parts table around member child.class) member sizes) (indices sizes)
      (every_of (λ (index : Index). AddingStands (element_entered table parts (around_parts table around member child.class) member sizes index))
      (λ index. element_stands parts (around_parts table around member child.class) member sizes index hp ha hm) (indices sizes)) so_far hs))))

  member_entered_stands : (deeper : Deeper) (around : Around) → DeeperStands deeper → P (At around.asked) → (member : Member) → MemberStands P member → AddingStands (member_entered table deeper around member)
  member_entered_stands deeper around hd ha member hm so_far hs =
      if_answers P AllStand (is_class member.declares) _ _ (record { holds = hs })
      (if_answers P AllStand member.declares.flags.outer _ _
      (then_answers P (Anything {A = Unit {0}}) AllStand (outer_checked table member) (λ done. Ok so_far) (outer_checked_answers P table stands member hm) (λ u v. record { holds = hs }))
      (then_answers P (Anything {A = Bool}) AllStand (there_of table most_references member) _ (there member hm) (λ is_there v.
      if_answers P AllStand is_there _ _ (component_entered_stands deeper around member hd ha hm so_far hs) (record { holds = hs }))))

  parts_entered_stands : (deeper : Deeper) → DeeperStands deeper → PartsStand (parts_entered table deeper)
  parts_entered_stands deeper hd around walked ha hw so_far hs =
      each_stands (member_entered table deeper around) (members_in walked)
      (members_each (members_in walked) (members_in_stand P table stands walked hw)) so_far hs
    where
      members_each : (members : List Member) → Every (MemberStands P) members → Every (λ member. AddingStands (member_entered table deeper around member)) members
      members_each [] h = tt
      members_each (member ∷ members) h = (member_entered_stands deeper around hd ha member h.0, members_each members h.1)

  deeper_stands : (left : ℕ) → DeeperStands (deeper table left)
  unfolding deeper
  deeper_stands zero place hp = record { holds = hp }
  deeper_stands (suc left) place hp = record { holds = parts_entered_stands (deeper table left) (deeper_stands left) }

  -- ---- the asked class

  inside_stands : (outer : Frame) (row : Option Row) → FrameStands P outer → FrameStands P (inside outer row)
  inside_stands outer None h = h
  inside_stands outer (Some row) h = (tt, h, tt)

  enclosing_stands : (outer : Frame) (before names : List (List ℕ)) → FrameStands P outer → FrameStands P (enclosing table outer before names)
  enclosing_stands outer before [] h = h
  enclosing_stands outer before (name ∷ names) h =
      enclosing_stands (inside outer (find (is_placed before name) table)) (before ++ name ∷ []) names (inside_stands outer (find (is_placed before name) table) h)

  enclosing_of_stands : (home : Home) → FrameStands P (enclosing_of table home)
  enclosing_of_stands (Under path) = enclosing_stands Top [] path tt
  enclosing_of_stands (Inside n) = tt
  enclosing_of_stands Apart = tt

  root_frame_stands : (row : Row) → FrameStands P (root_frame table row)
  root_frame_stands row = (tt, enclosing_of_stands row.home, tt)

  -- the name of the class stands with them
  pub instances_in_stand : (row : Row) → RowStands P row → Answers P AllStand (instances_in table row)
  instances_in_stand row h =
      then_answers P (WalkedStands P) AllStand (frame_checked table row.class.place (root_frame table row)) _
      (frame_checked_answers P table stands row.class.place (root_frame table row) h.place (root_frame_stands row)) (λ walked hw.
      parts_entered_stands (deeper table most_names) (deeper_stands most_names) (around_root row) walked h.place hw (root_instance table row ∷ [])
      (record { each = (record { frame = root_frame_stands row; place = h.place; leaf = tt }, tt); root = h.place }))

  then_all : (told : Outcome (List Instance)) → Answers P AllStand told → Answers P (Every (InstanceStands P)) told
  then_all (Ok instances) h = record { holds = h.holds.each }
  then_all (Err broken) h = record { holds = h.holds }

  instances_by_stand : (row : Option Row) → IfAny (RowStands P) row → Answers P (Every (InstanceStands P)) (instances_by table row)
  instances_by_stand None h = record { holds = tt }
  instances_by_stand (Some row) h = then_all (instances_in table row) (instances_in_stand row h)

  pub instances_stand : (class : ℕ) → Answers P (Every (InstanceStands P)) (instances_of table class)
  instances_stand class = instances_by_stand (row_at table class) (row_stands P table stands class)
