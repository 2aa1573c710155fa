-- What the values of the code are stays the same in later worlds.
use Rattle.std.proofs.Common.{◌≡◌, ℕ, ◌<◌, List, [], ◌∷◌, map, Ok, Option, Some, None, refl, ap, sym, subst, ◌∙◌}
use Rattle.std.specs.Prelude.{option_map, IfSome}
use Rattle.mo_syntax.specs.Outcome.{Outcome}
use Rattle.mo_scope.specs.Entries.{names_of}
use Rattle.mo_scope.specs.Frames.{Frame, class_of}
use Rattle.mo_scope.specs.Rows.{Table, number_of_classes}
use Rattle.mo_scope.specs.Instances.{Chosen, Leaf, Instance}
use Rattle.mo_scope.specs.Lookup.{Walked}
use Rattle.mo_scope.specs.Places.{Every}
use Rattle.mo_scope.specs.Names.{walk_of}
use Rattle.mo_scope.specs.Worlds.{World, Grows, IsFrame, frame_in, frames_of, sources_in, table_in}
use Rattle.mo_names.proofs.Later.{grows_refl, grows_trans, table_later, frame_later, is_frame_later, member_later, is_member_later, is_walk_later, walk_later}
use Rattle.mo_names.specs.declared.found.Child.{Child as ChildAt}
use Rattle.mo_names.specs.declared.walk.Walk.{Walk}
use Rattle.mo_names.specs.Children.{IsChild, child_seen}
use Rattle.mo_names.specs.Sights.{IsWalk, walk_seen}
use Rattle.mo_lookup.proofs.Children.{wins_later, wins_stand_later, sources_later}
use Rattle.mo_scope.specs.Sights.{redeclaration_in, source_seen}
use Rattle.mo_eval.proofs.Grown.{kept_still}
use Rattle.mo_eval.proofs.FrameBound.{bound_later}
use Rattle.mo_eval.specs.FrameBindings.{IsBoundAs, IsBoundByFrame}
use Rattle.mo_scope.specs.declared.instance.Chosen.{Chosen as ChosenAt}
use Rattle.mo_scope.specs.declared.instance.Instance.{Instance as InstanceAt}
use Rattle.mo_scope.specs.declared.instance.Leaf.{Leaf as LeafAt}
use Rattle.mo_scope.specs.Trees.{IsChosen, IsInstance, IsLeaf, attribute_in, chosen_in, instance_in, instances_in, leaf_in}
use Rattle.mo_instance.specs.steps.Sights.{IsEntered}
use Rattle.mo_instance.specs.steps.Walks.{IsWalkOrNone, walk_or_none}

-- ---- elements

-- what the elements of a frame are is what they were
pub elements_stay : (u v : World) (frame : ℕ) (o : Outcome Walked) → Grows u v → IsFrame u frame → walk_of (table_in u) (frame_in (frames_of u) frame) ≡ o → walk_of (table_in v) (frame_in (frames_of v) frame) ≡ o
elements_stay u v frame o g at is =
    ap (λ t. walk_of t (frame_in (frames_of v) frame)) (table_later u v g) ∙ (ap (λ (f : Frame). walk_of (table_in u) f) (frame_later u v frame g at) ∙ is)

pub elements_later : (u v : World) (frame : ℕ) (walk : Walk) → Grows u v → IsFrame u frame → IsWalk u walk →
    walk_of (table_in u) (frame_in (frames_of u) frame) ≡ Ok (walk_seen (frames_of u) walk) → walk_of (table_in v) (frame_in (frames_of v) frame) ≡ Ok (walk_seen (frames_of v) walk)
elements_later u v frame walk g at stands is =
    elements_stay u v frame _ g at is ∙ ap (λ (x : Walked). Ok x) (sym (walk_later u v walk g stands))

-- ---- chosen expressions

chosen_later : (u v : World) (c : ChosenAt) → Grows u v → IsChosen u c → chosen_in (frames_of v) c ≡ chosen_in (frames_of u) c
chosen_later u v c g is =
    ap (λ (frame : Frame). record { value = c.value.now; scope = record { frame = frame; iterations = c.scope.iters }; pending = c.pending }) (frame_later u v c.scope.frame.0 g is)

choice_later : (u v : World) (o : Option ChosenAt) → Grows u v → IfSome o (IsChosen u) → option_map (chosen_in (frames_of v)) o ≡ option_map (chosen_in (frames_of u)) o
choice_later u v None g is = refl
choice_later u v (Some c) g is = ap (λ (x : Chosen). Some x) (chosen_later u v c g is)

is_choice_later : (u v : World) (o : Option ChosenAt) → Grows u v → IfSome o (IsChosen u) → IfSome o (IsChosen v)
is_choice_later u v None g is = tt
is_choice_later u v (Some c) g is = is_frame_later u v c.scope.frame.0 g is

attributes_later : (u v : World) (xs : List (ℕ × ChosenAt)) → Grows u v → Every (λ attribute. IsChosen u attribute.1) xs →
    map (attribute_in (frames_of v)) xs ≡ map (attribute_in (frames_of u)) xs
attributes_later u v [] g are = refl
attributes_later u v (x ∷ xs) g are =
    ap (λ (c : Chosen). (x.0, c) ∷ map (attribute_in (frames_of v)) xs) (chosen_later u v x.1 g are.0)
    ∙ ap (λ (ys : List (ℕ × Chosen)). attribute_in (frames_of u) x ∷ ys) (attributes_later u v xs g are.1)

are_attributes_later : (u v : World) (xs : List (ℕ × ChosenAt)) → Grows u v → Every (λ attribute. IsChosen u attribute.1) xs → Every (λ attribute. IsChosen v attribute.1) xs
are_attributes_later u v [] g are = tt
are_attributes_later u v (x ∷ xs) g are = (is_frame_later u v x.1.scope.frame.0 g are.0, are_attributes_later u v xs g are.1)

-- ---- instances

leaf_later : (u v : World) (o : Option LeafAt) → Grows u v → IfSome o (IsLeaf u) → option_map (leaf_in (frames_of v)) o ≡ option_map (leaf_in (frames_of u)) o
leaf_later u v None g is = refl
leaf_later u v (Some l) g is =
    ap (λ (as_ : List (ℕ × Chosen)). Some (record { kind = l.kind; role = l.role; attributes = as_; binding = option_map (chosen_in (frames_of v)) l.binding })) (attributes_later u v l.attributes g is.attributes)
    ∙ ap (λ (b : Option Chosen). Some (record { kind = l.kind; role = l.role; attributes = map (attribute_in (frames_of u)) l.attributes; binding = b })) (choice_later u v l.binding g is.binding)

is_leaf_later : (u v : World) (o : Option LeafAt) → Grows u v → IfSome o (IsLeaf u) → IfSome o (IsLeaf v)
is_leaf_later u v None g is = tt
is_leaf_later u v (Some l) g is = record {
  attributes = are_attributes_later u v l.attributes g is.attributes;
  binding = is_choice_later u v l.binding g is.binding;
}

is_bound_later : (u v : World) (frame : ℕ) (o : Option LeafAt) → Grows u v → IsFrame u frame → IfSome o (IsLeaf u) → IfSome o (IsBoundAs u frame) → IfSome o (IsBoundAs v frame)
is_bound_later u v frame None g at is bound = tt
is_bound_later u v frame (Some l) g at is bound =
    bound_later u v frame l g at (choice_later u v l.binding g is.binding) bound

pub instance_later : (u v : World) (i : InstanceAt) → Grows u v → IsEntered u i → instance_in (frames_of v) i ≡ instance_in (frames_of u) i
instance_later u v i g is =
    ap (λ (frame : Frame). record { frame = frame; path = names_of i.path; place = i.place; dims = i.dims; leaf = option_map (leaf_in (frames_of v)) i.leaf }) (frame_later u v i.frame.0 g is.frame)
    ∙ ap (λ (l : Option Leaf). record { frame = frame_in (frames_of u) i.frame.0; path = names_of i.path; place = i.place; dims = i.dims; leaf = l }) (leaf_later u v i.leaf g is.leaf)

is_instance_later : (u v : World) (i : InstanceAt) → Grows u v → IsEntered u i → IsEntered v i
is_instance_later u v i g is = record {
  frame = is_frame_later u v i.frame.0 g is.frame;
  class =
      subst (λ (f : Frame). class_of f < number_of_classes (table_in v)) (sym (frame_later u v i.frame.0 g is.frame))
      (subst (λ (t : Table). class_of (frame_in (frames_of u) i.frame.0) < number_of_classes t) (sym (table_later u v g)) is.class);
  leaf = is_leaf_later u v i.leaf g is.leaf;
  bound = is_bound_later u v i.frame.0 i.leaf g is.frame is.leaf is.bound;
}

pub instances_later : (u v : World) (xs : List InstanceAt) → Grows u v → Every (IsEntered u) xs → instances_in v xs ≡ instances_in u xs
instances_later u v [] g are = refl
instances_later u v (x ∷ xs) g are =
    ap (λ (i : Instance). i ∷ instances_in v xs) (instance_later u v x g are.0)
    ∙ ap (λ (is : List Instance). instance_in (frames_of u) x ∷ is) (instances_later u v xs g are.1)

pub are_instances_later : (u v : World) (xs : List InstanceAt) → Grows u v → Every (IsEntered u) xs → Every (IsEntered v) xs
are_instances_later u v [] g are = tt
are_instances_later u v (x ∷ xs) g are = (is_instance_later u v x g are.0, are_instances_later u v xs g are.1)

pub are_instances : (w : World) (xs : List InstanceAt) → Every (IsEntered w) xs → Every (IsInstance w) xs
are_instances w [] are = tt
are_instances w (x ∷ xs) are = (record { frame = are.0.frame; leaf = are.0.leaf }, are_instances w xs are.1)

pub are_bound : (w : World) (xs : List InstanceAt) → Every (IsEntered w) xs → Every (IsBoundByFrame w) xs
are_bound w [] are = tt
are_bound w (x ∷ xs) are = (are.0.bound, are_bound w xs are.1)

pub classes_exist : (w : World) (xs : List InstanceAt) → Every (IsEntered w) xs → Every (λ one. class_of one.frame < number_of_classes (table_in w)) (instances_in w xs)
classes_exist w [] are = tt
classes_exist w (x ∷ xs) are = (are.0.class, classes_exist w xs are.1)

-- ---- walks

pub walk_or_none_later : (u v : World) (o : Option Walk) → Grows u v → IsWalkOrNone u o → walk_or_none (frames_of v) o ≡ walk_or_none (frames_of u) o
walk_or_none_later u v None g is = refl
walk_or_none_later u v (Some walk) g is = ap (λ (w : Walked). Some w) (walk_later u v walk g is)

pub is_walk_or_none_later : (u v : World) (o : Option Walk) → Grows u v → IsWalkOrNone u o → IsWalkOrNone v o
is_walk_or_none_later u v None g is = tt
is_walk_or_none_later u v (Some walk) g is = is_walk_later u v walk g is

-- ---- children

pub is_child_later : (u v : World) (c : ChildAt) → Grows u v → IsChild u c → IsChild v c
is_child_later u v c g is = record {
  class = is_frame_later u v c.class.0 g is.class;
  sources = λ k source at. is_frame_later u v source.frame g (is.sources k source at);
  redeclared = wins_stand_later u v c.redeclared g is.redeclared;
}

pub child_later : (u v : World) (c : ChildAt) → Grows u v → IsChild u c → child_seen (frames_of v) c ≡ child_seen (frames_of u) c
child_later u v c g is =
    let redeclared : option_map (redeclaration_in (frames_of v)) c.redeclared ≡ option_map (redeclaration_in (frames_of u)) c.redeclared = wins_later u v c.redeclared g is.redeclared in
    let class : frame_in (frames_of v) c.class.0 ≡ frame_in (frames_of u) c.class.0 = frame_later u v c.class.0 g is.class in
    let sources : sources_in (frames_of v) (map source_seen c.sources) ≡ sources_in (frames_of u) (map source_seen c.sources) = sources_later u v (map source_seen c.sources) g is.sources in
    cc

pub ruleset later = (child_later, is_child_later, grows_refl, grows_trans, table_later, frame_later, is_frame_later, member_later, is_member_later, is_walk_later, walk_later, walk_or_none_later, is_walk_or_none_later, kept_still, instances_later, are_instances_later)
