-- The paths of instances are named, where the names that the classes declare pass a test.
use Rattle.std.proofs.Common.{◌≡◌, ℕ, zero, suc, ◌+◌, ◌<◌, ◌≤◌, Bool, true, false, List, [], ◌∷◌, ◌++◌, length, map, Option, Some, None, Ok, Err, All, IsTrue, refl, ap, sym, ◌∙◌, subst, arith}
use Rattle.std.specs.Prelude.{if◌then◌else◌, option_map}
use Rattle.std.specs.List.{list_all}
use Rattle.mo_syntax.specs.Outcome.{Outcome, and_then}
use Rattle.mo_syntax.specs.declared.class.FileTree.{FileTree}
use Rattle.mo_syntax.specs.declared.place.Place.{Place}
use Rattle.mo_syntax.specs.SoundTree.{IsSoundNamedTree, Naming, any_name, is_sound_file}
use Rattle.mo_scope.specs.Compatible.{prefix_of}
use Rattle.mo_scope.specs.Frames.{Frame, Indexed, Member, at_of}
use Rattle.mo_scope.specs.Instances.{Follow, Instance, IsInstanceTree, tree}
use Rattle.mo_scope.specs.Lookup.{Inherited, Walked, members_in}
use Rattle.mo_scope.specs.Names.{child_of_member, component_frame, walk_of}
use Rattle.mo_scope.specs.Places.{Every}
use Rattle.mo_scope.specs.Redeclarations.{Checked}
use Rattle.mo_scope.specs.Rows.{Row, Table, is_class, row_at, table_of}
use Rattle.mo_scope.proofs.laws.Standing.{every_append, every_weaker}
use Rattle.mo_typing.specs.Dims.{Dims}
use Rattle.mo_typing.specs.Indices.{Index, indices}
use Rattle.mo_eval.specs.Values.{component_dims, most_references, there_of}
use Rattle.mo_instance.specs.Checks.{frame_checked, type_checked}
use Rattle.mo_instance.specs.Elements.{Around, around_parts, class_place, instance_of, leaf_of, most_instances, or_root, room_for_one}
use Rattle.mo_instance.specs.Instances.{Adding, Deeper, Parts, adding_each, around_root, component_entered, deeper, element_entered, instances_by, instances_in, instances_of, member_entered, most_names, parts_entered, root_frame, root_instance}
use Rattle.mo_instance.specs.Outer.{outer_checked}
use Rattle.mo_instance.specs.Prefixes.{prefix_in_profile}
use Rattle.mo_instance.proofs.Members.{IsWalkedOf, RowNamed, walk_has}
use Rattle.mo_instance.proofs.Trees.{checked_walk, type_walk}
use Rattle.mo_path_names.specs.Laws.{InstancesNamed}
use Rattle.mo_path_names.specs.Named.{IsNamed}
use Rattle.mo_path_names.proofs.laws.Growing.{DeeperGrows, Grows, NoGreater, PartsGrow, deeper_grows, element_grows, elements_fit, every_if_some, indices_fit, longer_by_one, member_grows, no_greater, no_longer, parts_grow, same_value, then_inverse}
use Rattle.mo_path_names.proofs.laws.Tables.{table_named}
use Rattle.mo_path_names.proofs.laws.Testing.{all_last, every_all}

module _ (naming : Naming) where
  -- the names pass, and no index is too great
  pub record PathNamed (path : Indexed) : Type 0 where
    pub names : IsTrue (list_all (λ step. naming step.0) path)
    pub indices : Every (λ step. NoGreater most_instances step.1) path

  abbrev pub InstanceNamed : Instance → Type 0
  InstanceNamed instance = PathNamed instance.path

  path_longer : (p : Indexed) (name : List ℕ) (index : Index) → PathNamed p → IsTrue (naming name) → NoGreater most_instances index → PathNamed (p ++ (name, index) ∷ [])
  path_longer p name index h passes fits = record {
    names = all_last (λ (step : List ℕ × List ℕ). naming step.0) p (name, index) h.names passes;
    indices = every_append (λ (step : List ℕ × List ℕ). NoGreater most_instances step.1) p ((name, index) ∷ []) h.indices (fits, tt);
  }

  pub path_named : (path : Indexed) → PathNamed path → IsNamed naming path
  path_named path h = record {
    names = h.names;
    indices = every_all _ path (each path h.indices);
  }
    where
      each : (p : Indexed) → Every (λ step. NoGreater most_instances step.1) p → Every (λ step. All (λ k. k ≤ most_instances) step.1) p
      each [] all = tt
      each (step ∷ p) all = (every_all (λ k. k ≤ most_instances) step.1 all.0, each p all.1)

  module _ (table : Table) (named : Every (RowNamed naming) table) where
    -- what is added stays named, behind what is
    abbrev Keeps : Adding → Type 0
    Keeps add = (so_far more : List Instance) → 0 < length so_far → Every InstanceNamed so_far → add so_far ≡ Ok more → Every InstanceNamed more

    record PartsKeep (parts : Parts) : Type 0 where
      grow : PartsGrow parts
      law : (around : Around) (frame : Frame) (walked : Walked) (p : Indexed) → walk_of table frame ≡ Ok walked → at_of frame ≡ Some p → PathNamed p → Keeps (parts around walked)

    abbrev DeeperKeeps : Outcome Parts → Type 0
    DeeperKeeps (Ok parts) = PartsKeep parts
    DeeperKeeps (Err broken) = Unit {0}

    each_keeps : {A : Type 0} (add : A → Adding) (Good : A → Type 0) → ((x : A) → Grows (add x)) → ((x : A) → Good x → Keeps (add x)) → (xs : List A) → Every Good xs → Keeps (adding_each add xs)
    each_keeps add Good grow keep [] good so_far more some h made = subst (Every InstanceNamed) (same_value so_far more made) h
    each_keeps add Good grow keep (x ∷ xs) good so_far more some h made =
        let one = then_inverse (add x so_far) (adding_each add xs) more made in
        let longer : length so_far ≤ length one.0 = no_longer so_far one.0 (grow x so_far one.0 one.1) in
        each_keeps add Good grow keep xs good.1 one.0 more (omega (arith, some, longer)) (keep x good.0 so_far one.0 some h one.1) one.2

    element_keeps : (parts : Parts) → PartsKeep parts → (around : Around) (member : Member) (dims : Dims) (p : Indexed) → at_of member.home ≡ Some p → PathNamed p → IsTrue (naming member.name) →
        (index : Index) → NoGreater most_instances index → Keeps (element_entered table parts around member dims index)
    element_keeps parts keep around member dims p home path name index fits so_far more some h made =
        let room = then_inverse (room_for_one around.asked so_far) _ more made in
        let child = then_inverse (child_of_member table member index) _ more room.2 in
        let frame : Frame = component_frame member index child.0 in
        let checked = then_inverse (type_checked table (class_place member child.0.redeclared) frame) _ more child.2 in
        let leaf = then_inverse (leaf_of table around member frame checked.0) _ more checked.2 in
        let one : Instance = instance_of member dims frame leaf.0 in
        let here : Indexed = p ++ (member.name, index) ∷ [] in
        let at : at_of frame ≡ Some here = ap (option_map (λ names. names ++ (member.name, index) ∷ [])) home in
        let longer : PathNamed here = path_longer p member.name index path name fits in
        keep.law around frame checked.0 here (type_walk table (class_place member child.0.redeclared) frame checked.0 checked.1) at longer (so_far ++ one ∷ []) more
        (omega (arith, longer_by_one so_far one))
        (every_append InstanceNamed so_far (one ∷ []) h (subst PathNamed (sym (ap or_root at)) longer, tt)) leaf.2

    component_keeps : (deep : Deeper) → ((place : Place) → DeeperKeeps (deep place)) → (around : Around) (member : Member) (p : Indexed) → at_of member.home ≡ Some p → PathNamed p →
        IsTrue (naming member.name) → Keeps (component_entered table deep around member)
    component_keeps deep keep around member p home path name so_far more some h made =
        let prefix = then_inverse (prefix_in_profile member.declares.place (prefix_of table member)) _ more made in
        let child = then_inverse (child_of_member table member []) _ more prefix.2 in
        let dims = then_inverse (component_dims table most_references member) _ more child.2 in
        let parts = then_inverse (deep member.declares.place) _ more dims.2 in
        let law : PartsKeep parts.0 = subst DeeperKeeps parts.1 (keep member.declares.place) in
        let inside : Around = around_parts table around member child.0.class in
        each_keeps (element_entered table parts.0 inside member dims.0) (NoGreater most_instances)
        (λ index before after one. (element_grows table parts.0 law.grow inside member dims.0 index before after one).2)
        (λ index fits. element_keeps parts.0 law inside member dims.0 p home path name index fits)
        (indices dims.0)
        (every_if_some (NoGreater most_instances) (indices dims.0) (λ few.
        let room : length so_far + length (indices dims.0) ≤ most_instances + 1 = elements_fit table parts.0 law.grow inside member dims.0 (indices dims.0) so_far more parts.2 few in
        no_greater (length (indices dims.0)) most_instances (omega (arith, room, some)) (indices dims.0) (indices_fit dims.0)))
        so_far more some h parts.2

    member_keeps : (deep : Deeper) → ((place : Place) → DeeperKeeps (deep place)) → (around : Around) (p : Indexed) → PathNamed p → (member : Member) → (at_of member.home ≡ Some p) × IsTrue (naming member.name) →
        Keeps (member_entered table deep around member)
    member_keeps deep keep around p path member good so_far more some h made =
        by (is_class member.declares) member.declares.flags.outer (outer_checked table member) (there_of table most_references member) made
      where
        same : ◌≡◌ {A = Outcome (List Instance)} (Ok so_far) (Ok more) → Every InstanceNamed more
        same e = subst (Every InstanceNamed) (same_value so_far more e) h

        by : (class outer : Bool) (checked : Checked) (there : Outcome Bool) →
            (if class then Ok so_far else
            (if outer then and_then checked (λ _. Ok so_far) else
            and_then there (λ is_there. if is_there then component_entered table deep around member so_far else Ok so_far))) ≡ Ok more → Every InstanceNamed more
        by true outer checked there e = same e
        by false true (Ok u) there e = same e
        by false true (Err b) there e = absurd cc
        by false false checked (Err b) e = absurd cc
        by false false checked (Ok true) e = component_keeps deep keep around member p good.0 path good.1 so_far more some h e
        by false false checked (Ok false) e = same e

    both_good : (p : Indexed) (frame : Frame) (xs : List Inherited) → at_of frame ≡ Some p → Every (λ inherited. at_of inherited.member.home ≡ at_of frame) xs →
        Every (λ inherited. IsTrue (naming inherited.member.name)) xs → Every (λ member. (at_of member.home ≡ Some p) × IsTrue (naming member.name)) (map (λ inherited. inherited.member) xs)
    both_good p frame [] at homes names = tt
    both_good p frame (x ∷ xs) at homes names = ((homes.0 ∙ at, names.0), both_good p frame xs at homes.1 names.1)

    parts_keep : (deep : Deeper) → ((place : Place) → DeeperGrows (deep place)) → ((place : Place) → DeeperKeeps (deep place)) → PartsKeep (parts_entered table deep)
    parts_keep deep grow keep = record {
      grow = parts_grow table deep grow;
      law = λ around frame walked p found at path.
          let has : IsWalkedOf naming frame walked = walk_has naming table named frame walked found in
          each_keeps (member_entered table deep around) (λ member. (at_of member.home ≡ Some p) × IsTrue (naming member.name)) (member_grows table deep grow around)
          (member_keeps deep keep around p path) (members_in walked) (both_good p frame walked.members at has.homes has.names);
    }

    deeper_keeps : (left : ℕ) (place : Place) → DeeperKeeps (deeper table left place)
    unfolding deeper
    deeper_keeps zero place = tt
    deeper_keeps (suc left) place = parts_keep (deeper table left) (deeper_grows table left) (deeper_keeps left)

    -- ---- the asked class

    instances_named : (row : Row) (instances : List Instance) → instances_in table row ≡ Ok instances → Every InstanceNamed instances
    instances_named row instances made =
        let checked = then_inverse (frame_checked table row.class.place (root_frame table row)) _ instances made in
        let found : walk_of table (root_frame table row) ≡ Ok checked.0 = checked_walk table row.class.place (root_frame table row) checked.0 checked.1 in
        (parts_keep (deeper table most_names) (deeper_grows table most_names) (deeper_keeps most_names)).law (around_root row) (root_frame table row) checked.0 [] found refl root
        (root_instance table row ∷ []) instances (omega arith) (root, tt) checked.2
      where
        root : PathNamed []
        root = record { names = refl; indices = tt }

    pub by_row : (found : Option Row) (instances : List Instance) → instances_by table found ≡ Ok instances → Every InstanceNamed instances
    by_row None instances made = subst (Every InstanceNamed) (same_value [] instances made) tt
    by_row (Some row) instances made = instances_named row instances made

  -- the instances of each class of files whose names pass
  pub all_named : (files : List FileTree) → IsTrue (list_all (is_sound_file naming) files) → (class : ℕ) (instances : List Instance) → instances_of (table_of files) class ≡ Ok instances →
      Every InstanceNamed instances
  all_named files h class instances made = by_row (table_of files) (table_named naming files h) (row_at (table_of files) class) instances made

  -- a tree of instances, each of which is named
  tree_named : (table : Table) (instances : List Instance) → Every InstanceNamed instances → IsInstanceTree any_name table instances → IsInstanceTree naming table instances
  tree_named table instances h (tree {root} {others} is follow) = tree is (each (root ∷ []) others h.1 follow)
    where
      each : (before xs : List Instance) → Every InstanceNamed xs → Follow any_name table before xs → Follow naming table before xs
      each before [] all f = tt
      each before (x ∷ xs) all f = (
        record {
          new = f.0.new;
          below = f.0.below;
          frame = f.0.frame;
          class = f.0.class;
          names = all.0.names;
        },
        each (before ++ x ∷ []) xs all.1 f.1,
      )

  pub instances_law : (files : List FileTree) → IsSoundNamedTree naming files → InstancesNamed naming files
  instances_law files h = record {
    paths = λ class instances made.
        every_all (λ instance. IsNamed naming instance.path) instances (every_weaker InstanceNamed _ (λ instance. path_named instance.path) instances (all_named files h class instances made));
    tree = λ class instances made. tree_named (table_of files) instances (all_named files h class instances made);
  }
