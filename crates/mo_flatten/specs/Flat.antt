-- The flat model of the class of a path, or the first rule that is broken (Modelica Language Specification 3.5, sections 5.6 and 9.2).
--
-- The phases come in this order: the asked class; its instances; variables and equations; connections; the size of the flat model.
use Rattle.std.specs.Prelude.{◌≡◌, ℕ, true, List, ◌++◌, flat_map, All, Some, None, Ok, Err, if◌then◌else◌}
use Rattle.mo_syntax.specs.Outcome.{Outcome, and_then, breaks}
use Rattle.mo_syntax.specs.declared.class.FileTree.{FileTree}
use Rattle.mo_syntax.specs.declared.place.Broken.{Broken}
use Rattle.mo_syntax.specs.Classes.{ClassRow}
use Rattle.mo_syntax.specs.ClassTable.{class_of_path, broken_class}
use Rattle.mo_flat.specs.declared.connect.Expanded.{Expanded}
use Rattle.mo_flat.specs.declared.connect.FaceSet.{FaceSet}
use Rattle.mo_flat.specs.declared.model.FlatModel.{FlatModel}
use Rattle.mo_scope.specs.Rows.{table_of}
use Rattle.mo_instance.specs.Instances.{instances_of}
use Rattle.mo_connect.specs.Alike.{IsConnectable, IsFirstBroken}
use Rattle.mo_connect.specs.Equations.{equations_of}
use Rattle.mo_connect.specs.Sets.{AreConnectionSets}
use Rattle.mo_equations.specs.Expansion.{expansion_of}
use Rattle.mo_equations.specs.Size.{is_past, is_too_large}
use Rattle.mo_syntax.specs.declared.rules.TheConstants.{FLAT_MODEL_TOO_LARGE}

-- ---- instances, variables and equations

-- what the class with that number gives before its connection sets are known
abbrev pub expansion_in : List FileTree → (class : ℕ) → Outcome Expanded
expansion_in files class =
    and_then (instances_of (table_of files) class) (λ instances.
    expansion_of (record { classes = table_of files; instances = instances }))

-- ---- connections

-- The equations of connection sets stand behind all others.
abbrev pub model_of : Expanded → List FaceSet → FlatModel
model_of e sets = record {
  name = e.name;
  place = e.place;
  vars = e.vars;
  first = e.first;
  first_asserts = e.first_asserts;
  equations = e.equations ++ flat_map equations_of sets;
  asserts = e.asserts;
}

-- ---- the size

-- rule 41 at the name of the class
abbrev pub within_size : FlatModel → Outcome FlatModel
within_size m = if is_too_large m then breaks FLAT_MODEL_TOO_LARGE m.place else Ok m

-- The flat model with these connection sets, if its connects break no rule.
pub record Joins (e : Expanded) (told : Outcome FlatModel) : Type 0 where
  pub connectable : All IsConnectable e.connects.list
  pub sets : List FaceSet
  pub are : AreConnectionSets e.connects sets
  pub is : told ≡ within_size (model_of e sets)

-- ---- all phases

-- What is told of the class of a path in the trees of files that break no rule of the class tree.
pub data Flattens (files : List FileTree) (path : List (List ℕ)) (told : Outcome FlatModel) : Type 0 where
  -- no class has the path, or one that has no flat model
  no_class : (b : Broken) → broken_class (class_of_path files path) ≡ Some b → told ≡ Err b → Flattens files path told
  -- its instances break a rule, or its variables and equations do
  not_expanded : (row : ClassRow) (b : Broken) → class_of_path files path ≡ Some row → broken_class (Some row) ≡ None →
      expansion_in files row.number ≡ Err b → told ≡ Err b → Flattens files path told
  not_connected : (row : ClassRow) (e : Expanded) (b : Broken) → class_of_path files path ≡ Some row → broken_class (Some row) ≡ None →
      expansion_in files row.number ≡ Ok e → IsFirstBroken e.connects.list b → told ≡ Err b → Flattens files path told
  joined : (row : ClassRow) (e : Expanded) → class_of_path files path ≡ Some row → broken_class (Some row) ≡ None →
      expansion_in files row.number ≡ Ok e → Joins e told → Flattens files path told

-- ---- laws

-- What is told leaves no choice.
abbrev pub FlattensOnce : Type 0
FlattensOnce = (files : List FileTree) (path : List (List ℕ)) (told other : Outcome FlatModel) → Flattens files path told → Flattens files path other → told ≡ other

-- What is too large before its connection sets are known is too large with them, so that it need not be built.
abbrev pub PastStaysPast : Type 0
PastStaysPast = (e : Expanded) (sets : List FaceSet) → is_past e ≡ true → is_too_large (model_of e sets) ≡ true
