-- The words of the command line: the name of a class, what is to be written or the name of a printed report, and the files; or the number of
-- rungs of a ladder.
use Rattle.std.specs.Prelude.{◌≡◌, ℕ, ◌==◌, ◌&&◌, ◌≤◌, Bool, true, false, List, [], ◌∷◌, ◌++◌, length, codes, IsTrue, Option, Some}
use Rattle.std.specs.Prelude.{None, if◌then◌else◌}
use Rattle.std.specs.List.{flat_map}
use Rattle.clap.specs.declared.builder.action.ArgAction.TheVariants.{Append}
use Rattle.clap.specs.Simple.{new_shape}
use Rattle.clap.specs.Words.{App, Row, Rule, all_of, fault_of, first_of, matches_of, new_rule}
use Rattle.mo_syntax.specs.declared.token.TokenKind.TheVariants.{Ident, Operator, End}
use Rattle.mo_syntax.specs.declared.token.TokenKind.{TokenKind}
use Rattle.mo_syntax.specs.Lexeme.{Lexeme}
use Rattle.mo_lexer.specs.Lexing.{Lexes}
use Rattle.mo_lexer.specs.Spelling.{are_digits}
use Rattle.mo_grammar.specs.Trees.{digits_after}
use Rattle.mo_front.specs.declared.words.Emit.{Emit}
use Rattle.mo_front.specs.declared.words.Emit.TheVariants as emit
use Rattle.mo_front.specs.declared.words.Words.{Words}
use Rattle.mo_front.specs.declared.words.Words.TheVariants.{Job, Make}
use Rattle.mo_front.specs.Limits.{most_files}

-- ---- the class

abbrev pub is_ident : TokenKind → Bool
is_ident Ident = true
is_ident kind = false

-- the dot, by its code in the table of operators
abbrev pub is_dot : TokenKind → Bool
is_dot (Operator code) = code == 6
is_dot kind = false

abbrev pub is_end : TokenKind → Bool
is_end End = true
is_end kind = false

-- the identifier that stands at the front with a dot behind it
abbrev pub name_before_dot : List Lexeme → Option (List ℕ)
name_before_dot (name ∷ dot ∷ rest) = if is_ident name.kind && is_dot dot.kind then Some name.text else None
name_before_dot tokens = None

-- the identifier, where it stands alone before the end of the word
abbrev pub name_alone : List Lexeme → Option (List ℕ)
name_alone (name ∷ end ∷ []) = if is_ident name.kind && is_end end.kind then Some name.text else None
name_alone tokens = None

abbrev pub before : Option (List ℕ) → Option (List (List ℕ)) → Option (List (List ℕ))
before (Some name) (Some names) = Some (name ∷ names)
before name names = None

-- the names of tokens that are one identifier, or some with dots between them (Modelica Language Specification 3.5,
-- appendix A.1), and None of others
abbrev pub dotted_names : List Lexeme → Option (List (List ℕ))
dotted_names [] = None
dotted_names (name ∷ []) = None
dotted_names (name ∷ end ∷ []) = before (name_alone (name ∷ end ∷ [])) (Some [])
dotted_names (name ∷ dot ∷ next ∷ rest) = before (name_before_dot (name ∷ dot ∷ next ∷ rest)) (dotted_names (next ∷ rest))

-- the names with dots between them
abbrev pub with_dots : List (List ℕ) → List ℕ
with_dots [] = []
with_dots (name ∷ names) = name ++ flat_map (λ more. 46 ∷ more) names

-- The word names the class of that path: identifiers with dots between them, and no blank or comment.
pub record NamesClass (word : List ℕ) (path : List (List ℕ)) : Type 0 where
  pub tokens : List Lexeme
  pub lexes : Lexes 0 word tokens
  pub dotted : dotted_names tokens ≡ Some path
  pub whole : word ≡ with_dots path

-- ---- what is to be written

-- the word for it
abbrev pub word_of : Emit → List ℕ
word_of emit.Flat = codes "flat"
word_of emit.Reduced = codes "reduced"
word_of emit.Report = codes "report"
word_of emit.All = codes "all"
word_of emit.Json = codes "json"
word_of emit.States = codes "states"
word_of emit.Alias = codes "alias"

-- a word that is given says what is to be written; with none all is written
abbrev pub AsksFor : Option (List ℕ) → Emit → Type 0
AsksFor None e = e ≡ emit.All
AsksFor (Some word) e = word ≡ word_of e

-- ---- the rungs of a ladder

-- from one to four decimal digits, whose value is a number from 1 to 1000
pub record NamesRungs (word : List ℕ) (n : ℕ) : Type 0 where
  pub digits : IsTrue (are_digits word)
  pub few : length word ≤ 4
  pub is : n ≡ digits_after 0 word
  pub low : 1 ≤ n
  pub high : n ≤ 1000

-- ---- the command

-- `--class NAME`, which may be given
abbrev pub class_option : Rule
class_option = record (new_rule (codes "class")) { long = Some (codes "class") }

-- `--emit WORD`, which may be given
abbrev pub emit_option : Rule
emit_option = record (new_rule (codes "emit")) { long = Some (codes "emit") }

-- `--verify REPORT`, which may be given
abbrev pub verify_option : Rule
verify_option = record (new_rule (codes "verify")) { long = Some (codes "verify") }

-- `--make N`, which may be given
abbrev pub make_option : Rule
make_option = record (new_rule (codes "make")) { long = Some (codes "make") }

-- `FILE..`
abbrev pub file_words : Rule
file_words = record (new_rule (codes "file")) { action = Some Append }

-- The command, as the crate `clap` reads one: `[--class NAME] [--emit WORD] [--verify REPORT] [--make N] FILE..`, where no word is the program's own name
-- and none asks for help or for a version. An option has one value and stands once, before, between or behind the files.
abbrev pub command : App
command = record {
  top = record (new_shape (codes "mofront")) {
    rules = class_option ∷ emit_option ∷ verify_option ∷ make_option ∷ file_words ∷ [];
    no_binary_name = true;
    disable_help_flag = true;
  };
  subs = [];
}

-- The class of that path, and from 1 to 64 files.
pub record NamesJob (given : List Row) (path files : List (List ℕ)) : Type 0 where
  pub class : List ℕ
  pub class_given : first_of (codes "class") given ≡ Some class
  pub names_class : NamesClass class path
  pub no_ladder : first_of (codes "make") given ≡ None
  pub files_given : all_of (codes "file") given ≡ Some files
  pub some : 1 ≤ length files
  pub few : length files ≤ most_files

-- The first form: a class in files, and what is to be written of it.
pub record AsksForClass (given : List Row) (path : List (List ℕ)) (emit : Emit) (files : List (List ℕ)) : Type 0 where
  pub job : NamesJob given path files
  pub asks_for : AsksFor (first_of (codes "emit") given) emit
  pub no_report : first_of (codes "verify") given ≡ None

-- The third form: a class in files, and a printed report. What would be written is that report, and nothing says so.
pub record AsksForVerdict (given : List Row) (path : List (List ℕ)) (what : Emit) (files : List (List ℕ)) (report : List ℕ) : Type 0 where
  pub job : NamesJob given path files
  pub as_report : what ≡ emit.Report
  pub no_emit : first_of (codes "emit") given ≡ None
  pub report_given : first_of (codes "verify") given ≡ Some report

-- The second form: a ladder of so many rungs, and nothing else.
pub record AsksForLadder (given : List Row) (n : ℕ) : Type 0 where
  pub word : List ℕ
  pub ladder_given : first_of (codes "make") given ≡ Some word
  pub names_rungs : NamesRungs word n
  pub no_class : first_of (codes "class") given ≡ None
  pub no_emit : first_of (codes "emit") given ≡ None
  pub no_report : first_of (codes "verify") given ≡ None
  pub no_files : all_of (codes "file") given ≡ None

-- What the command's options and files, by what was given of each, ask for.
abbrev pub Asks : List Row → Words → Type 0
Asks given (Job class emit files None) = AsksForClass given class.0 emit files
Asks given (Job class emit files (Some report)) = AsksForVerdict given class.0 emit files report
Asks given (Make n) = AsksForLadder given n

-- The words are those of the command, without a fault, and ask for that.
pub record Names (words : List (List ℕ)) (asked : Words) : Type 0 where
  pub no_fault : fault_of command words ≡ []
  pub asks : Asks (matches_of command words) asked
