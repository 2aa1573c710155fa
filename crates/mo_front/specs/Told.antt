-- What is told of a class and the named files: the text of its flat model, or the line of the first broken rule.
use Rattle.std.specs.Prelude.{◌≡◌, ℕ, ◌-◌, List, [], map, Some, None, unwrap_or, Ok, Err, slice_index_or}
use Rattle.mo_syntax.specs.declared.class.FileTree.{FileTree}
use Rattle.mo_syntax.specs.declared.place.Broken.{Broken}
use Rattle.mo_syntax.specs.ClassTable.{broken_tree}
use Rattle.mo_syntax.specs.Lexeme.{Lexeme}
use Rattle.mo_flat.specs.declared.model.FlatModel.{FlatModel}
use Rattle.mo_flatten.specs.Flat.{Flattens}
use Rattle.mo_ports.specs.Contents.{Contents}
use Rattle.mo_front.specs.declared.status.Status.{Status}
use Rattle.mo_front.specs.declared.status.Status.TheVariants.{Refused}
use Rattle.mo_front.specs.declared.words.Emit.{Emit}
use Rattle.mo_front.specs.Emitted.{Refuses, Writes}
use Rattle.mo_front.specs.Files.{Reads, Tokens, Trees}
use Rattle.mo_front.specs.Limits.{all_files_limit}
use Rattle.mo_front.specs.Refusal.{refusal_line}

-- a flat model, or the first broken rule with its place
pub data Outcome : Type 0 where
  flat : FlatModel → Outcome
  broken : Broken → Outcome

-- ---- what files give

-- What trees give, asked for the class of a path: the first broken rule of the class tree, or what flattening tells of the class.
pub data TreesGive (path : List (List ℕ)) (files : List FileTree) (o : Outcome) : Type 0 where
  no_tree : (b : Broken) → broken_tree files ≡ Some b → o ≡ broken b → TreesGive path files o
  not_flattened : (b : Broken) → broken_tree files ≡ None → Flattens files path (Err b) → o ≡ broken b → TreesGive path files o
  flattened : (m : FlatModel) → broken_tree files ≡ None → Flattens files path (Ok m) → o ≡ flat m → TreesGive path files o

-- What texts give: rules 3 to 5 of all files are asked before rules 6 to 8 of any, and these before those of the class tree.
pub data TextsGive (path texts : List (List ℕ)) (o : Outcome) : Type 0 where
  no_tokens : (b : Broken) → Tokens texts (Err b) → o ≡ broken b → TextsGive path texts o
  no_trees : (b : Broken) (tokens : List (List Lexeme)) → Tokens texts (Ok tokens) → Trees tokens (Err b) → o ≡ broken b → TextsGive path texts o
  trees : (tokens : List (List Lexeme)) (files : List FileTree) → Tokens texts (Ok tokens) → Trees tokens (Ok files) → TreesGive path files o → TextsGive path texts o

-- What the named files give: all are read before any is cut into tokens.
pub data FilesGive (path names : List (List ℕ)) (contents : Contents) (o : Outcome) : Type 0 where
  unread : (b : Broken) → Reads contents 1 all_files_limit names (Err b) → o ≡ broken b → FilesGive path names contents o
  read : (texts : List (List ℕ)) → Reads contents 1 all_files_limit names (Ok texts) → TextsGive path texts o → FilesGive path names contents o

-- it gives at most one outcome
abbrev pub GivesOne : (Outcome → Type 0) → Type 0
GivesOne gives = (o p : Outcome) → gives o → gives p → o ≡ p

-- ---- what is told

-- what belongs to the file of that number, from 1
abbrev pub of_file : List (List ℕ) → ℕ → List ℕ
of_file all file = slice_index_or all (file - 1) []

-- the bytes of the named files; an absent file has none
abbrev pub bytes_of_all : Contents → List (List ℕ) → List (List ℕ)
bytes_of_all contents names = map (λ name. unwrap_or (contents name) []) names

-- the line of a broken rule in the files of these names with these bytes
abbrev pub line_of_broken : (names bytes : List (List ℕ)) → Broken → List ℕ
line_of_broken names bytes b = refusal_line (of_file names b.place.file) (of_file bytes b.place.file) b

-- the text that is written with this status of the model that is given
pub record WritesGiven (Gives : Outcome → Type 0) (emit : Emit) (status : Status) (text : List ℕ) : Type 0 where
  pub m : FlatModel
  pub given : Gives (flat m)
  pub writes : Writes emit m status text

-- A rule is broken on the way to what is asked for: none is given, or it breaks one as it is written.
pub data Breaks (Gives : Outcome → Type 0) (emit : Emit) (b : Broken) : Type 0 where
  no_model : Gives (broken b) → Breaks Gives emit b
  no_text : (m : FlatModel) → Gives (flat m) → Refuses emit m b → Breaks Gives emit b

-- What is told by this text with this status: what is asked for of the model that is given, or the line of the first broken
-- rule.
pub data TellsOf (Gives : Outcome → Type 0) (line : Broken → List ℕ) (emit : Emit) (status : Status) (text : List ℕ) : Type 0 where
  written : WritesGiven Gives emit status text → TellsOf Gives line emit status text
  refused : (b : Broken) → Breaks Gives emit b → status ≡ Refused → text ≡ line b → TellsOf Gives line emit status text

-- what is told of the class of the path in the named files, by what is asked for
abbrev pub Tells : (path : List (List ℕ)) → Emit → (names : List (List ℕ)) → Contents → Status → List ℕ → Type 0
Tells path emit names contents = TellsOf (FilesGive path names contents) (line_of_broken names (bytes_of_all contents names)) emit
