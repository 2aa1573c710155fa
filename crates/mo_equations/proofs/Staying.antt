-- What is seen of instances stays the same in later worlds, and so do the tree of instances and what stands for elements.
use Rattle.std.proofs.Common.{◌≡◌, ℕ, List, [], ◌∷◌, map, Option, Some, None, refl, ap, sym, ◌∙◌, subst}
use Rattle.std.specs.Prelude.{option_map, IfSome, Vec}
use Rattle.std.specs.Global.{Global}
use Rattle.mo_scope.specs.declared.instance.Chosen.{Chosen as ChosenAt}
use Rattle.mo_scope.specs.declared.instance.Instance.{Instance as InstanceAt}
use Rattle.mo_scope.specs.declared.instance.Leaf.{Leaf as LeafAt}
use Rattle.mo_scope.specs.Entries.{names_of}
use Rattle.mo_scope.specs.Frames.{Frame, Member}
use Rattle.mo_scope.specs.Rows.{Table}
use Rattle.mo_scope.specs.Instances.{Chosen, Leaf, Instance}
use Rattle.mo_scope.specs.Places.{Every}
use Rattle.mo_scope.specs.Trees.{IsChosen, IsInstance, IsLeaf, attribute_in, chosen_in, instance_in, instances_in, leaf_in}
use Rattle.mo_scope.specs.Worlds.{World, Grows, IsFrame, frame_in, frames_of, table_in}
use Rattle.mo_names.proofs.Later.{grows_refl, grows_trans, table_later, frame_later, is_frame_later, member_later, is_member_later}
use Rattle.mo_names.specs.Sights.{IsMember}
use Rattle.mo_eval.specs.declared.reader.Reader.{Reader}
use Rattle.mo_eval.specs.declared.virtuals.Element.{Element as ElementAt}
use Rattle.mo_eval.specs.Keeping.{IsKept}
use Rattle.mo_eval.specs.Seen.{element_seen}
use Rattle.mo_eval.specs.FrameBindings.{IsBoundAs, IsBoundByFrame}
use Rattle.mo_eval.proofs.FrameBound.{bound_later}
use Rattle.mo_eval.proofs.Grown.{kept_still}
use Rattle.mo_equations.specs.declared.desk.ArrayBinding.{ArrayBinding}
use Rattle.mo_equations.specs.declared.desk.Desk.{Desk}
use Rattle.mo_equations.specs.declared.desk.KeptConstant.{KeptConstant}
use Rattle.mo_equations.specs.declared.desk.SharedExpression.{SharedExpression}
use Rattle.mo_equations.specs.declared.desk.ValueBinding.{ValueBinding}
use Rattle.mo_equations.specs.declared.leaves.Leaves.{Leaves}
use Rattle.mo_equations.specs.Connectors.{is_connector, is_declared_flow}
use Rattle.mo_equations.specs.Counted.{IsTreeOf}
use Rattle.mo_equations.specs.Leaves.{Tree, number_of, place_of_root}
use Rattle.mo_equations.specs.Replacing.{constant, flat_variable}
use Rattle.mo_equations.specs.steps.Arrays.{IsArrayBinding, IsValueBinding}
use Rattle.mo_equations.specs.steps.Desks.{Goes, IsConstantKept, IsDesk, Stays}
use Rattle.mo_equations.specs.steps.Standing.{replacing_in, tree_in}
use Rattle.mo_equations.specs.steps.LeafTables.{AreLeaves, is_flow_by, leaves_in, paths_that}
use Rattle.mo_equations.specs.steps.Sharing.{IsShared}
use Rattle.mo_equations.proofs.ArrayBindings.{array_binding_later, value_binding_later}
use Rattle.mo_equations.proofs.SharedExpressions.{all_shared_later}

-- ---- chosen expressions

pub chosen_later : (u v : World) (c : ChosenAt) → Grows u v → IsChosen u c → chosen_in (frames_of v) c ≡ chosen_in (frames_of u) c
chosen_later u v c g is =
    ap (λ (frame : Frame). record { value = c.value.now; scope = record { frame = frame; iterations = c.scope.iters }; pending = c.pending }) (frame_later u v c.scope.frame.0 g is)

choice_later : (u v : World) (o : Option ChosenAt) → Grows u v → IfSome o (IsChosen u) → option_map (chosen_in (frames_of v)) o ≡ option_map (chosen_in (frames_of u)) o
choice_later u v None g is = refl
choice_later u v (Some c) g is = ap (λ (x : Chosen). Some x) (chosen_later u v c g is)

is_choice_later : (u v : World) (o : Option ChosenAt) → Grows u v → IfSome o (IsChosen u) → IfSome o (IsChosen v)
is_choice_later u v None g is = tt
is_choice_later u v (Some c) g is = is_frame_later u v c.scope.frame.0 g is

attributes_later : (u v : World) (xs : List (ℕ × ChosenAt)) → Grows u v → Every (λ attribute. IsChosen u attribute.1) xs →
    map (attribute_in (frames_of v)) xs ≡ map (attribute_in (frames_of u)) xs
attributes_later u v [] g are = refl
attributes_later u v (x ∷ xs) g are =
    ap (λ (c : Chosen). (x.0, c) ∷ map (attribute_in (frames_of v)) xs) (chosen_later u v x.1 g are.0)
    ∙ ap (λ (ys : List (ℕ × Chosen)). attribute_in (frames_of u) x ∷ ys) (attributes_later u v xs g are.1)

are_attributes_later : (u v : World) (xs : List (ℕ × ChosenAt)) → Grows u v → Every (λ attribute. IsChosen u attribute.1) xs → Every (λ attribute. IsChosen v attribute.1) xs
are_attributes_later u v [] g are = tt
are_attributes_later u v (x ∷ xs) g are = (is_frame_later u v x.1.scope.frame.0 g are.0, are_attributes_later u v xs g are.1)

-- ---- instances

leaf_later : (u v : World) (o : Option LeafAt) → Grows u v → IfSome o (IsLeaf u) → option_map (leaf_in (frames_of v)) o ≡ option_map (leaf_in (frames_of u)) o
leaf_later u v None g is = refl
leaf_later u v (Some l) g is =
    ap (λ (as_ : List (ℕ × Chosen)). Some (record { kind = l.kind; role = l.role; attributes = as_; binding = option_map (chosen_in (frames_of v)) l.binding })) (attributes_later u v l.attributes g is.attributes)
    ∙ ap (λ (b : Option Chosen). Some (record { kind = l.kind; role = l.role; attributes = map (attribute_in (frames_of u)) l.attributes; binding = b })) (choice_later u v l.binding g is.binding)

is_leaf_later : (u v : World) (o : Option LeafAt) → Grows u v → IfSome o (IsLeaf u) → IfSome o (IsLeaf v)
is_leaf_later u v None g is = tt
is_leaf_later u v (Some l) g is = record {
  attributes = are_attributes_later u v l.attributes g is.attributes;
  binding = is_choice_later u v l.binding g is.binding;
}

pub instance_later : (u v : World) (i : InstanceAt) → Grows u v → IsInstance u i → instance_in (frames_of v) i ≡ instance_in (frames_of u) i
instance_later u v i g is =
    ap (λ (frame : Frame). record { frame = frame; path = names_of i.path; place = i.place; dims = i.dims; leaf = option_map (leaf_in (frames_of v)) i.leaf }) (frame_later u v i.frame.0 g is.frame)
    ∙ ap (λ (l : Option Leaf). record { frame = frame_in (frames_of u) i.frame.0; path = names_of i.path; place = i.place; dims = i.dims; leaf = l }) (leaf_later u v i.leaf g is.leaf)

pub is_instance_later : (u v : World) (i : InstanceAt) → Grows u v → IsInstance u i → IsInstance v i
is_instance_later u v i g is = record { frame = is_frame_later u v i.frame.0 g is.frame; leaf = is_leaf_later u v i.leaf g is.leaf }

is_bound_later : (u v : World) (frame : ℕ) (o : Option LeafAt) → Grows u v → IsFrame u frame → IfSome o (IsLeaf u) → IfSome o (IsBoundAs u frame) → IfSome o (IsBoundAs v frame)
is_bound_later u v frame None g at is bound = tt
is_bound_later u v frame (Some l) g at is bound = bound_later u v frame l g at (choice_later u v l.binding g is.binding) bound

pub are_bound_later : (u v : World) (xs : List InstanceAt) → Grows u v → Every (IsInstance u) xs → Every (IsBoundByFrame u) xs → Every (IsBoundByFrame v) xs
are_bound_later u v [] g are bound = tt
are_bound_later u v (x ∷ xs) g are bound = (is_bound_later u v x.frame.0 x.leaf g are.0.frame are.0.leaf bound.0, are_bound_later u v xs g are.1 bound.1)

-- that of a leaf
pub leaf_bound_later : (u v : World) (frame : ℕ) (leaf : LeafAt) → Grows u v → IsFrame u frame → IsLeaf u leaf → IsBoundAs u frame leaf → IsBoundAs v frame leaf
leaf_bound_later u v frame leaf g at is bound = bound_later u v frame leaf g at (choice_later u v leaf.binding g is.binding) bound

pub instances_later : (u v : World) (xs : List InstanceAt) → Grows u v → Every (IsInstance u) xs → instances_in v xs ≡ instances_in u xs
instances_later u v [] g are = refl
instances_later u v (x ∷ xs) g are =
    ap (λ (i : Instance). i ∷ instances_in v xs) (instance_later u v x g are.0)
    ∙ ap (λ (is : List Instance). instance_in (frames_of u) x ∷ is) (instances_later u v xs g are.1)

pub are_instances_later : (u v : World) (xs : List InstanceAt) → Grows u v → Every (IsInstance u) xs → Every (IsInstance v) xs
are_instances_later u v [] g are = tt
are_instances_later u v (x ∷ xs) g are = (is_instance_later u v x g are.0, are_instances_later u v xs g are.1)

-- ---- trees

-- the tree of instances, where all of them exist
pub tree_later : (u v : World) (leaves : Leaves) → Grows u v → Every (IsInstance u) leaves.instances.now → tree_in v leaves ≡ tree_in u leaves
tree_later u v leaves g are =
    ap (λ (table : Table). record { classes = table; instances = instances_in v leaves.instances.now }) (table_later u v g)
    ∙ ap (λ (instances : List Instance). record { classes = table_in u; instances = instances }) (instances_later u v leaves.instances.now g are)

pub leaves_later : (u v : World) (leaves : Leaves) → Grows u v → AreLeaves u leaves → AreLeaves v leaves
leaves_later u v leaves g is = record {
  exist = are_instances_later u v leaves.instances.now g is.exist;
  bound = are_bound_later u v leaves.instances.now g is.exist is.bound;
  tree = subst (λ (tree : Tree). IsTreeOf tree.classes tree.instances) (sym (tree_later u v leaves g is.exist)) is.tree;
  places = is.places;
  whole = is.whole;
  all = is.all;
  table = is.table;
  numbers = is.numbers;
  flows = is.flows ∙ ap (λ (tree : Tree). map (λ (instance : InstanceAt). is_flow_by (paths_that (is_connector tree.classes) tree.instances) (paths_that (is_declared_flow tree.classes) tree.instances) instance) (leaves_in leaves.instances.now))
      (sym (tree_later u v leaves g is.exist));
  below = is.below;
}

same_element : (u v : World) → Grows u v → (element : ElementAt) → IsMember u element.member → element_seen (frames_of v) element ≡ element_seen (frames_of u) element
same_element u v g element is =
    ap (λ (member : Member). record { member = member; index = element.index; kind = element.kind; place = element.place; constant = element.constant }) (member_later u v element.member g is)

constant_later : (u v : World) (leaves : Leaves) (kept : KeptConstant) → Grows u v → Every (IsInstance u) leaves.instances.now → IsConstantKept u leaves kept → IsConstantKept v leaves kept
constant_later u v leaves kept g are is = record {
  member = is_member_later u v kept.element.member g is.member;
  e = is.e;
  is = ap (λ (tree : Tree). constant tree.classes (number_of tree) kept.left (element_seen (frames_of v) kept.element)) (tree_later u v leaves g are)
      ∙ ap (constant (table_in u) (number_of (tree_in u leaves)) kept.left) (same_element u v g kept.element is.member)
      ∙ is.is;
  flat = is.flat;
}

binding_later : (u v : World) (leaves : Leaves) (o : Option ArrayBinding) → Grows u v → tree_in v leaves ≡ tree_in u leaves → IfSome o (IsArrayBinding u leaves) → IfSome o (IsArrayBinding v leaves)
binding_later u v leaves None g same is = tt
binding_later u v leaves (Some binding) g same is = array_binding_later u v leaves leaves binding g same is

read_later : (u v : World) (o : Option ValueBinding) → Grows u v → IfSome o (IsValueBinding u) → IfSome o (IsValueBinding v)
read_later u v None g is = tt
read_later u v (Some binding) g is = value_binding_later u v binding g is

-- a desk whose reader has read more, in a later world
pub desk_later : (u v : World) (desk : Desk) (reader : Reader) → Grows u v → IsKept v reader → IsDesk u desk → IsDesk v (record desk { reader = reader })
desk_later u v desk reader g kept is = record {
  reader = kept;
  leaves = leaves_later u v desk.leaves g is.leaves;
  constants = λ k one at. constant_later u v desk.leaves one g is.leaves.exist (is.constants k one at);
  binding = binding_later u v desk.leaves desk.binding g (tree_later u v desk.leaves g is.leaves.exist) is.binding;
  read = read_later u v desk.read g is.read;
  shared = all_shared_later u v desk.leaves desk.leaves desk.shared.items g (tree_later u v desk.leaves g is.leaves.exist) is.shared;
  asked = is.asked ∙ ap place_of_root (sym (tree_later u v desk.leaves g is.leaves.exist));
}

pub reads : (u v : World) (desk : Desk) (reader : Reader) → Grows u v → IsKept v reader → IsDesk u desk → Stays u v desk (record desk { reader = reader })
reads u v desk reader g kept is = record {
  goes = record { grows = g; leaves = refl; asked = refl; desk = desk_later u v desk reader g kept is };
  turns = refl;
}

-- that of a desk that has gone on
pub same_tree : (u v : World) (before after : Desk) → IsDesk u before → Goes u v before after → tree_in v after.leaves ≡ tree_in u before.leaves
same_tree u v before after is goes =
    ap (tree_in v) goes.leaves ∙ tree_later u v before.leaves goes.grows is.leaves.exist

pub same_replacing : (u v : World) (before after : Desk) (left : ℕ) → IsDesk u before → Goes u v before after →
    replacing_in v after.leaves left ≡ replacing_in u before.leaves left
same_replacing u v before after left is goes =
    ap (λ (tree : Tree). flat_variable tree.classes (number_of tree) left) (same_tree u v before after is goes)

-- ---- one after another

pub goes_on : (u v w : World) (a b c : Desk) → Goes u v a b → Goes v w b c → Goes u w a c
goes_on u v w a b c one two = record {
  grows = grows_trans u v w one.grows two.grows;
  leaves = two.leaves ∙ one.leaves;
  asked = two.asked ∙ one.asked;
  desk = two.desk;
}

pub stays_on : (u v w : World) (a b c : Desk) → Stays u v a b → Stays v w b c → Stays u w a c
stays_on u v w a b c one two = record { goes = goes_on u v w a b c one.goes two.goes; turns = two.turns ∙ one.turns }

pub stays_still : (u : World) (a : Desk) → IsDesk u a → Stays u u a a
stays_still u a is = record {
  goes = record { grows = grows_refl u; leaves = refl; asked = refl; desk = is };
  turns = refl;
}

-- the binding of an array, taken out and put back
pub without_binding : (u : World) (a : Desk) → IsDesk u a → Stays u u a (record a { binding = None })
without_binding u a is = record {
  goes = record {
    grows = grows_refl u;
    leaves = refl;
    asked = refl;
    desk = record { reader = is.reader; leaves = is.leaves; constants = is.constants; binding = tt; read = is.read; shared = is.shared; asked = is.asked };
  };
  turns = refl;
}

pub with_binding : (u v : World) (a b : Desk) (binding : ArrayBinding) → Stays u v a b → IsArrayBinding v b.leaves binding → Stays u v a (record b { binding = Some binding })
with_binding u v a b binding stays is = record {
  goes = record {
    grows = stays.goes.grows;
    leaves = stays.goes.leaves;
    asked = stays.goes.asked;
    desk = record { reader = stays.goes.desk.reader; leaves = stays.goes.desk.leaves; constants = stays.goes.desk.constants; binding = is; read = stays.goes.desk.read; shared = stays.goes.desk.shared; asked = stays.goes.desk.asked };
  };
  turns = stays.turns;
}

-- what was read for its value, taken out and put back
pub without_read : (u : World) (a : Desk) → IsDesk u a → Stays u u a (record a { read = None })
without_read u a is = record {
  goes = record {
    grows = grows_refl u;
    leaves = refl;
    asked = refl;
    desk = record { reader = is.reader; leaves = is.leaves; constants = is.constants; binding = is.binding; read = tt; shared = is.shared; asked = is.asked };
  };
  turns = refl;
}

pub with_read : (u v : World) (a b : Desk) (binding : ValueBinding) → Stays u v a b → IsValueBinding v binding → Stays u v a (record b { read = Some binding })
with_read u v a b binding stays is = record {
  goes = record {
    grows = stays.goes.grows;
    leaves = stays.goes.leaves;
    asked = stays.goes.asked;
    desk = record { reader = stays.goes.desk.reader; leaves = stays.goes.desk.leaves; constants = stays.goes.desk.constants; binding = stays.goes.desk.binding; read = is; shared = stays.goes.desk.shared; asked = stays.goes.desk.asked };
  };
  turns = stays.turns;
}

-- other expressions that are shared
pub with_shared : (u : World) (a : Desk) (shared : Vec SharedExpression Global) → IsDesk u a → Every (IsShared u a.leaves) shared.items → Stays u u a (record a { shared = shared })
with_shared u a shared is are = record {
  goes = record {
    grows = grows_refl u;
    leaves = refl;
    asked = refl;
    desk = record { reader = is.reader; leaves = is.leaves; constants = is.constants; binding = is.binding; read = is.read; shared = are; asked = is.asked };
  };
  turns = refl;
}

pub constant_now : (u v : World) (before after : Desk) (left : ℕ) (element : ElementAt) → IsDesk u before → Goes u v before after → IsMember u element.member →
    constant (table_in v) (number_of (tree_in v after.leaves)) left (element_seen (frames_of v) element) ≡ constant (table_in u) (number_of (tree_in u before.leaves)) left (element_seen (frames_of u) element)
constant_now u v before after left element is goes member =
    ap (λ (tree : Tree). constant tree.classes (number_of tree) left (element_seen (frames_of v) element)) (same_tree u v before after is goes)
    ∙ ap (constant (table_in u) (number_of (tree_in u before.leaves)) left) (same_element u v goes.grows element member)

-- a desk in a later world
pub desk_grown : (u v : World) (desk : Desk) → Grows u v → IsDesk u desk → IsDesk v desk
desk_grown u v desk g is = desk_later u v desk desk.reader g (kept_still u v g desk.reader is.reader) is

pub stays_grown : (u v : World) (desk : Desk) → Grows u v → IsDesk u desk → Stays u v desk desk
stays_grown u v desk g is = reads u v desk desk.reader g (kept_still u v g desk.reader is.reader) is

pub is_there : (u : World) (a : Desk) → IsDesk u a → IsKept u a.reader
is_there u a is = is.reader

-- what goes on, without the turns
pub goes : (u v : World) (a b : Desk) → Stays u v a b → Goes u v a b
goes u v a b is = is.goes

pub ruleset staying = (grows_refl, grows_trans, table_later, frame_later, is_frame_later, member_later, is_member_later, reads, stays_grown, stays_on, stays_still)
