-- The names of what is told of texts and of named files are identifiers of these (Modelica Language Specification 3.5, section 2.3.1).
use Rattle.std.specs.Prelude.{◌≡◌, ℕ, List, All, Ok}
use Rattle.mo_syntax.specs.Lexeme.{Lexeme}
use Rattle.mo_syntax.specs.SoundTree.{Naming}
use Rattle.mo_ports.specs.Contents.{Contents}
use Rattle.mo_grammar.specs.Naming.{IdentifiersPass}
use Rattle.mo_flat.specs.declared.model.FlatModel.{FlatModel}
use Rattle.mo_eval.specs.Resolving.{dotted}
use Rattle.mo_flatten.specs.Named.{HasNames}
use Rattle.mo_front.specs.Files.{Tokens}
use Rattle.mo_front.specs.Told.{FilesGive, TextsGive, flat}
use Rattle.mo_path_names.specs.Identifiers.{is_identifier}
use Rattle.mo_path_names.specs.Named.{HasReportNames, IsPrintedModel}

-- The identifiers among the tokens of texts pass a test.
abbrev pub TextsPass : Naming → List (List ℕ) → Type 0
TextsPass naming texts = (tokens : List (List Lexeme)) → Tokens texts (Ok tokens) → All (IdentifiersPass naming) tokens

-- Each name in the flat model of a class in texts passes each test that the identifiers among their tokens pass: it is one of these.
abbrev pub TextsHaveNames : Type 0
TextsHaveNames =
    (naming : Naming) (path texts : List (List ℕ)) (m : FlatModel) → TextsPass naming texts → TextsGive path texts (flat m) → IsPrintedModel naming m

-- A flat model that is named by the path of its class; its variables have printed paths of identifiers as their names, which differ and may
-- stand in the lines of printed reports.
pub record IsNamedModel (path : List (List ℕ)) (m : FlatModel) : Type 0 where
  pub asked : m.name ≡ dotted path
  pub names : HasNames is_identifier m
  pub readable : HasReportNames m

-- the flat model of a class in texts
abbrev pub TextsName : Type 0
TextsName = (path texts : List (List ℕ)) (m : FlatModel) → TextsGive path texts (flat m) → IsNamedModel path m

-- the flat model of a class in named files
abbrev pub FilesName : Type 0
FilesName = (path names : List (List ℕ)) (contents : Contents) (m : FlatModel) → FilesGive path names contents (flat m) → IsNamedModel path m
