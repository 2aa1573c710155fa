-- A flat model has the path of its class as its name, and printed paths as the names of its variables.
use Rattle.std.proofs.Common.{◌≡◌, ◌≢◌, ℕ, Bool, true, false, List, [], ◌∷◌, map, Some, Ok, Err, IsTrue, refl, ap, sym, ◌∙◌, subst}
use Rattle.std.specs.Prelude.{AllPairs, if◌then◌else◌}
use Rattle.std.specs.List.{list_all}
use Rattle.mo_syntax.specs.Outcome.{Outcome, breaks}
use Rattle.mo_syntax.specs.declared.class.FileTree.{FileTree}
use Rattle.mo_syntax.specs.Classes.{ClassRow}
use Rattle.mo_syntax.specs.ClassTable.{class_of_path}
use Rattle.mo_syntax.specs.SoundTree.{IsSoundNamedTree, Naming}
use Rattle.mo_flat.specs.declared.connect.Expanded.{Expanded}
use Rattle.mo_flat.specs.declared.connect.FaceSet.{FaceSet}
use Rattle.mo_flat.specs.declared.model.FlatModel.{FlatModel}
use Rattle.mo_flat.specs.declared.model.FlatVar.{FlatVar}
use Rattle.mo_scope.specs.Frames.{Indexed}
use Rattle.mo_scope.specs.Instances.{Instance}
use Rattle.mo_scope.specs.Places.{Every}
use Rattle.mo_scope.specs.Rows.{Row, Table, row_at, table_of}
use Rattle.mo_scope.proofs.laws.Standing.{every_map, every_weaker}
use Rattle.mo_eval.specs.Resolving.{dotted, path_of_class}
use Rattle.mo_instance.specs.Checks.{frame_checked}
use Rattle.mo_instance.specs.Instances.{around_root, deeper, instances_by, instances_in, instances_of, most_names, root_frame, root_instance}
use Rattle.mo_instance.proofs.Trees.{DistinctPaths, distinct_of}
use Rattle.mo_equations.specs.Expansion.{all_sections, expansion_of, made_placed, name_of_root}
use Rattle.mo_equations.specs.Gathering.{turn_each}
use Rattle.mo_equations.specs.Leaves.{Tree, path_text, variables_of}
use Rattle.mo_equations.specs.Size.{is_too_large}
use Rattle.mo_equations.specs.Variables.{Declared, all_declared}
use Rattle.mo_flatten.specs.Flat.{Flattens, no_class, not_expanded, not_connected, joined, model_of, within_size}
use Rattle.mo_flatten.specs.Named.{HasNames, IsDotted, IsPath}
use Rattle.mo_path_names.specs.Delimited.{IsDelimited}
use Rattle.mo_path_names.specs.Laws.{ModelsNamed}
use Rattle.mo_path_names.specs.Named.{IsPrinted, IsPrintedModel}
use Rattle.mo_path_names.proofs.laws.Asked.{IsClassOf, class_is}
use Rattle.mo_path_names.proofs.laws.Growing.{IsFront, deeper_grows, parts_grow, same_value, then_inverse}
use Rattle.mo_path_names.proofs.laws.Instancing.{PathNamed, all_named, path_named}
use Rattle.mo_path_names.proofs.laws.Printing.{paths_apart}
use Rattle.mo_path_names.proofs.laws.Tables.{own_number, path_passes, table_passes}
use Rattle.mo_path_names.proofs.laws.Testing.{every_all}
use Rattle.mo_path_names.proofs.laws.Variables.{PathsDiffer, TextsDiffer, leaf_paths, leaves_differ, leaves_have, named_all, names_are, pairs_differ}
use Rattle.mo_syntax.specs.declared.rules.TheConstants.{FLAT_MODEL_TOO_LARGE}

-- ---- the asked class

-- the instances of a class begin with the class itself
root_first : (table : Table) (row : Row) (instances : List Instance) → instances_in table row ≡ Ok instances → IsFront (root_instance table row ∷ []) instances
root_first table row instances made =
    let checked = then_inverse (frame_checked table row.class.place (root_frame table row)) _ instances made in
    (parts_grow table (deeper table most_names) (deeper_grows table most_names)).law (around_root row) checked.0 (root_instance table row ∷ []) instances checked.2

class_first : (table : Table) (class : ℕ) (row : Row) (instances : List Instance) → row_at table class ≡ Some row → instances_of table class ≡ Ok instances → IsFront (root_instance table row ∷ []) instances
class_first table class row instances at made = root_first table row instances (sym (ap (instances_by table) at) ∙ made)

-- ---- the whole

-- what the instances give, as far as names go
pub record Expands (tree : Tree) (e : Expanded) : Type 0 where
  pub name : e.name ≡ name_of_root tree
  pub variables : map (λ v. v.name) e.vars ≡ map path_text (leaf_paths (variables_of tree))

map_map : {A B C : Type 0} (f : B → C) (g : A → B) (xs : List A) → map f (map g xs) ≡ map (λ x. f (g x)) xs
map_map f g [] = refl
map_map f g (x ∷ xs) = ap (λ ys. f (g x) ∷ ys) (map_map f g xs)

expands : (tree : Tree) (e : Expanded) → expansion_of tree ≡ Ok e → Expands tree e
expands tree e made =
    let declared = then_inverse (all_declared tree) _ e made in
    let sections = then_inverse (all_sections tree) _ e declared.2 in
    let turned = then_inverse (turn_each (made_placed tree) sections.0 0) _ e sections.2 in
    let is : e ≡ _ = sym (same_value _ e turned.2) in
    record {
      name = ap (λ (x : Expanded). x.name) is;
      variables = ap (λ (x : Expanded). map (λ v. v.name) x.vars) is ∙ map_map (λ (v : FlatVar). v.name) (λ (one : Declared). one.variable) declared.0 ∙ names_are tree declared.0 declared.1;
    }

-- a flat model of the right size is that of its connection sets
within : (e : Expanded) (sets : List FaceSet) (m : FlatModel) → within_size (model_of e sets) ≡ Ok m → model_of e sets ≡ m
within e sets m is = by (is_too_large (model_of e sets)) is
  where
    by : (large : Bool) → (if large then breaks FLAT_MODEL_TOO_LARGE e.place else Ok (model_of e sets)) ≡ Ok m → model_of e sets ≡ m
    by true is = absurd cc
    by false is = same_value (model_of e sets) m is

-- a flat model comes of the instances of the class of the path
pub record ComesOf (files : List FileTree) (path : List (List ℕ)) (m : FlatModel) : Type 0 where
  pub row : ClassRow
  pub found : class_of_path files path ≡ Some row
  pub instances : List Instance
  pub are : instances_of (table_of files) row.number ≡ Ok instances
  pub name : m.name ≡ name_of_root (record { classes = table_of files; instances = instances })
  pub variables : map (λ v. v.name) m.vars ≡ map path_text (leaf_paths (variables_of (record { classes = table_of files; instances = instances })))

pub comes_of : (files : List FileTree) (path : List (List ℕ)) (m : FlatModel) (told : Outcome FlatModel) → Flattens files path told → told ≡ Ok m → ComesOf files path m
comes_of files path m told (no_class b is at) e = let clash : ◌≡◌ {A = Outcome FlatModel} (Err b) (Ok m) = sym at ∙ e in absurd cc
comes_of files path m told (not_expanded row b found fine is at) e = let clash : ◌≡◌ {A = Outcome FlatModel} (Err b) (Ok m) = sym at ∙ e in absurd cc
comes_of files path m told (not_connected row x b found fine is first at) e = let clash : ◌≡◌ {A = Outcome FlatModel} (Err b) (Ok m) = sym at ∙ e in absurd cc
comes_of files path m told (joined row x found fine is joins) e =
    let instances = then_inverse (instances_of (table_of files) row.number) _ x is in
    let made : Expands (record { classes = table_of files; instances = instances.0 }) x = expands (record { classes = table_of files; instances = instances.0 }) x instances.2 in
    let same : model_of x joins.sets ≡ m = within x joins.sets m (sym joins.is ∙ e) in
    record {
      row = row;
      found = found;
      instances = instances.0;
      are = instances.1;
      name = ap (λ (model : FlatModel). model.name) (sym same) ∙ made.name;
      variables = ap (λ (model : FlatModel). map (λ v. v.name) model.vars) (sym same) ∙ made.variables;
    }

-- ---- names

-- the paths of leaves are no path of the asked class
abbrev pub Inner : Indexed → Type 0
Inner path = path ≢ []

module _ (naming : Naming) (files : List FileTree) (sound : IsSoundNamedTree naming files) where
  abbrev tree_of : List Instance → Tree
  tree_of instances = record { classes = table_of files; instances = instances }

  asked : (path : List (List ℕ)) (row : ClassRow) → class_of_path files path ≡ Some row → IsClassOf files path row
  asked path row found = class_is naming files path row sound found

  front_of : (path : List (List ℕ)) (m : FlatModel) (from : ComesOf files path m) → IsFront (root_instance (table_of files) (asked path from.row from.found).found ∷ []) from.instances
  front_of path m from = class_first (table_of files) from.row.number (asked path from.row from.found).found from.instances (asked path from.row from.found).at from.are

  pub name_is : (path : List (List ℕ)) (m : FlatModel) → ComesOf files path m → m.name ≡ dotted path
  name_is path m from =
      let class = asked path from.row from.found in
      from.name ∙ ap (λ (instances : List Instance). name_of_root (tree_of instances)) (front_of path m from).is
      ∙ ap (λ (n : ℕ). dotted (path_of_class (table_of files) n)) (own_number (table_of files) from.row.number class.found class.at) ∙ ap dotted class.is

  pub path_has : (path : List (List ℕ)) (m : FlatModel) → ComesOf files path m → IsTrue (list_all naming path)
  path_has path m from =
      let class = asked path from.row from.found in
      subst (λ (names : List (List ℕ)). IsTrue (list_all naming names)) class.is (path_passes naming (table_of files) (table_passes naming files sound) from.row.number class.found class.at)

  pub path_some : (path : List (List ℕ)) (m : FlatModel) → ComesOf files path m → path ≢ []
  path_some path m from = (asked path from.row from.found).some

  name_has : (path : List (List ℕ)) (m : FlatModel) → ComesOf files path m → IsDotted naming m.name
  name_has path m from = record { names = path; is = name_is path m from; pass = path_has path m from }

  abbrev pub leaves : (path : List (List ℕ)) (m : FlatModel) (from : ComesOf files path m) → List Indexed
  leaves path m from = leaf_paths (variables_of (tree_of from.instances))

  pub leaves_named : (path : List (List ℕ)) (m : FlatModel) (from : ComesOf files path m) → Every (PathNamed naming) (leaves path m from)
  leaves_named path m from = leaves_have (PathNamed naming) 1 from.instances (all_named naming files sound from.row.number from.instances from.are)

  printed_each : (texts : List (List ℕ)) (paths : List Indexed) → texts ≡ map path_text paths → Every (PathNamed naming) paths → Every (IsPrinted naming) texts
  printed_each texts paths is h =
      subst (Every (IsPrinted naming)) (sym is)
      (every_map (IsPrinted naming) path_text paths (every_weaker (PathNamed naming) _ (λ path named. record { path = path; is = refl; named = path_named naming path named }) paths h))

  model_printed : (path : List (List ℕ)) (m : FlatModel) → ComesOf files path m → IsPrintedModel naming m
  model_printed path m from = record {
    name = name_has path m from;
    variables = every_all (λ v. IsPrinted naming v.name) m.vars (named_all (λ (v : FlatVar). v.name) (IsPrinted naming) m.vars (printed_each (map (λ v. v.name) m.vars) (leaves path m from) from.variables (leaves_named path m from)));
  }

  -- ---- variables differ

  pub leaves_inner : (path : List (List ℕ)) (m : FlatModel) (from : ComesOf files path m) → Every Inner (leaves path m from)
  leaves_inner path m from =
      let front = front_of path m from in
      let apart : DistinctPaths (root_instance (table_of files) (asked path from.row from.found).found ∷ front.added) = subst DistinctPaths front.is (distinct_of (table_of files) from.row.number from.instances from.are) in
      subst (λ (instances : List Instance). Every Inner (leaf_paths (variables_of (tree_of instances)))) (sym front.is) (leaves_have Inner 1 front.added apart.0)

  texts_differ : IsDelimited naming → (paths : List Indexed) → Every (PathNamed naming) paths → Every Inner paths → PathsDiffer paths → TextsDiffer (map path_text paths)
  texts_differ delimited [] named inner differ = tt
  texts_differ delimited (path ∷ paths) named inner differ = (others paths named.1 inner.1 differ.0, texts_differ delimited paths named.1 inner.1 differ.1)
    where
      others : (rest : List Indexed) → Every (PathNamed naming) rest → Every Inner rest → Every (λ other. other ≡ path → ⊥) rest → Every (λ other. path_text path ≢ other) (map path_text rest)
      others [] n i d = tt
      others (other ∷ rest) n i d = ((λ same. d.0 (sym (paths_apart naming delimited path other named.0 n.0 inner.0 i.0 same))), others rest n.1 i.1 d.1)

  pub names_differ : IsDelimited naming → (path : List (List ℕ)) (m : FlatModel) → ComesOf files path m → AllPairs (λ v w. v.name ≢ w.name) m.vars
  names_differ delimited path m from =
      pairs_differ (λ (v : FlatVar). v.name) m.vars
      (subst TextsDiffer (sym from.variables)
      (texts_differ delimited (leaves path m from) (leaves_named path m from) (leaves_inner path m from) (leaves_differ 1 from.instances (distinct_of (table_of files) from.row.number from.instances from.are))))

  model_named : IsDelimited naming → (path : List (List ℕ)) (m : FlatModel) → ComesOf files path m → HasNames naming m
  model_named delimited path m from = record {
    name = name_has path m from;
    variables = every_all (λ v. IsPath naming v.name) m.vars (named_all (λ (v : FlatVar). v.name) (IsPath naming) m.vars
        (every_weaker (IsPrinted naming) (IsPath naming) (λ text printed. record { path = printed.path; is = printed.is; pass = printed.named.names }) (map (λ v. v.name) m.vars)
        (printed_each (map (λ v. v.name) m.vars) (leaves path m from) from.variables (leaves_named path m from))));
    different = names_differ delimited path m from;
  }

  pub models_law : ModelsNamed naming files
  models_law = record {
    asked = λ path m tells. name_is path m (comes_of files path m (Ok m) tells refl);
    printed = λ path m tells. model_printed path m (comes_of files path m (Ok m) tells refl);
    named = λ delimited path m tells. model_named delimited path m (comes_of files path m (Ok m) tells refl);
  }
