-- The names in the paths of instances and of flat models are those of the files, and printed paths differ where paths do.
use Rattle.std.specs.Prelude.{◌≡◌, ◌≢◌, ℕ, List, [], All, Ok, IsTrue}
use Rattle.mo_syntax.specs.declared.class.FileTree.{FileTree}
use Rattle.mo_syntax.specs.declared.token.TokenKind.TheVariants.{Ident}
use Rattle.mo_syntax.specs.SoundTree.{Naming, IsSoundNamedTree, any_name}
use Rattle.mo_lexer.specs.Spelling.{Spells}
use Rattle.mo_flat.specs.declared.model.FlatModel.{FlatModel}
use Rattle.mo_scope.specs.Frames.{Indexed}
use Rattle.mo_scope.specs.Instances.{Instance, IsInstanceTree}
use Rattle.mo_scope.specs.Rows.{table_of}
use Rattle.mo_eval.specs.Resolving.{dotted}
use Rattle.mo_instance.specs.Instances.{instances_of}
use Rattle.mo_equations.specs.Leaves.{path_text}
use Rattle.mo_flatten.specs.Named.{HasNames}
use Rattle.mo_flatten.specs.Told.{Tells}
use Rattle.mo_path_names.specs.Delimited.{IsDelimited, is_unmarked}
use Rattle.mo_path_names.specs.Identifiers.{is_identifier}
use Rattle.mo_path_names.specs.Named.{HasReportNames, IsNamed, IsPrintedModel}

-- ---- tests of names

-- The test of identifiers is that of their spellings.
pub record TestsIdentifiers (text : List ℕ) : Type 0 where
  pub spelled : IsTrue (is_identifier text) → Spells Ident text
  pub passes : Spells Ident text → IsTrue (is_identifier text)

-- Identifiers end where they are followed by a dot, a bracket or nothing, and so do names without dots and brackets; of such names fewer
-- may pass.
pub record AreDelimited : Type 0 where
  pub identifiers : IsDelimited is_identifier
  pub unmarked : IsDelimited is_unmarked
  pub fewer : (naming wider : Naming) → ((name : List ℕ) → IsTrue (naming name) → IsTrue (wider name)) → IsDelimited wider → IsDelimited naming

-- Paths with one text are one path.
abbrev pub PathsPrintApart : Type 0
PathsPrintApart =
    (naming : Naming) → IsDelimited naming → (path other : Indexed) → IsNamed naming path → IsNamed naming other → path ≢ [] → other ≢ [] →
    path_text path ≡ path_text other → path ≡ other

-- ---- instances and flat models of files whose names pass a test

-- The paths of the instances of each class are named, and what is known of a tree of instances with any names holds of one with these.
pub record InstancesNamed (naming : Naming) (files : List FileTree) : Type 0 where
  pub paths : (class : ℕ) (instances : List Instance) → instances_of (table_of files) class ≡ Ok instances →
      All (λ instance. IsNamed naming instance.path) instances
  pub tree : (class : ℕ) (instances : List Instance) → instances_of (table_of files) class ≡ Ok instances →
      IsInstanceTree any_name (table_of files) instances → IsInstanceTree naming (table_of files) instances

abbrev pub InstancesHaveNames : Type 0
InstancesHaveNames = (naming : Naming) (files : List FileTree) → IsSoundNamedTree naming files → InstancesNamed naming files

-- The flat model of each class has the path of the class as its name, and printed paths as the names of its variables. These differ where
-- the test tells where a name ends.
pub record ModelsNamed (naming : Naming) (files : List FileTree) : Type 0 where
  pub asked : (path : List (List ℕ)) (m : FlatModel) → Tells files path (Ok m) → m.name ≡ dotted path
  pub printed : (path : List (List ℕ)) (m : FlatModel) → Tells files path (Ok m) → IsPrintedModel naming m
  pub named : IsDelimited naming → (path : List (List ℕ)) (m : FlatModel) → Tells files path (Ok m) → HasNames naming m

abbrev pub ModelsHaveNames : Type 0
ModelsHaveNames = (naming : Naming) (files : List FileTree) → IsSoundNamedTree naming files → ModelsNamed naming files

-- Where the names are identifiers, those of the model and of its variables may stand in printed reports.
abbrev pub ModelsHaveReportNames : Type 0
ModelsHaveReportNames =
    (files : List FileTree) → IsSoundNamedTree is_identifier files → (path : List (List ℕ)) (m : FlatModel) → Tells files path (Ok m) → HasReportNames m
