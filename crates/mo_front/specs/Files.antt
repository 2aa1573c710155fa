-- What the named files are: their texts, their tokens and their trees, or the first broken rule with its place. Each phase
-- goes file by file, and a phase is asked of all files before the next one is.
use Rattle.std.specs.Prelude.{◌≡◌, ℕ, ◌+◌, ◌-◌, ◌<◌, ◌≤◌, min, List, [], ◌∷◌, length, Some, IsUtf8, Result, Ok, Err}
use Rattle.std.specs.Str.Lossy.{utf8_valid_len}
use Rattle.mo_syntax.specs.declared.class.FileTree.{FileTree}
use Rattle.mo_syntax.specs.declared.place.Broken.{Broken}
use Rattle.mo_syntax.specs.Lexeme.{Lexeme}
use Rattle.mo_lexer.specs.Lexing.{Lexes, IsRefused}
use Rattle.mo_grammar.specs.Symbols.{Files}
use Rattle.mo_grammar.specs.Language.{whole_limits, Spells}
use Rattle.mo_parse_class.specs.WholeFiles.{IsAtImpossible}
use Rattle.mo_ports.specs.Contents.{Contents}
use Rattle.mo_front.specs.Limits.{file_limit}
use Rattle.mo_syntax.specs.declared.rules.TheConstants.{FILE_TOO_LONG, NOT_UTF_8}

-- a rule at that byte of a file
abbrev pub breaks_at : ℕ → ℕ → ℕ → Broken
breaks_at rule file byte = record { rule = rule; place = record { file = file; byte = byte } }

-- The named file has that text, where so many bytes are left of the limit of all files.
pub record IsText (contents : Contents) (left : ℕ) (name text : List ℕ) : Type 0 where
  pub holds : contents name ≡ Some text
  pub within : length text ≤ min file_limit left
  pub utf8 : IsUtf8 text

-- The named file, which has the number k, breaks a rule: past a limit rule 1 at its first byte, otherwise, where it is no
-- UTF-8, rule 2 behind its longest valid front.
pub data BreaksFile (contents : Contents) (k left : ℕ) (name : List ℕ) (b : Broken) : Type 0 where
  too_long : (bytes : List ℕ) → contents name ≡ Some bytes → min file_limit left < length bytes → b ≡ breaks_at FILE_TOO_LONG k 0 → BreaksFile contents k left name b
  not_utf8 : (bytes : List ℕ) → contents name ≡ Some bytes → length bytes ≤ min file_limit left → (IsUtf8 bytes → ⊥) → b ≡ breaks_at NOT_UTF_8 k (utf8_valid_len bytes) → BreaksFile contents k left name b

-- Reading the files of these names, the first of which has the number k, where so many bytes are left of the limit of all
-- files. Nothing is told of an absent file.
pub data Reads (contents : Contents) : ℕ → ℕ → List (List ℕ) → Result (List (List ℕ)) Broken → Type 0 where
  none : {k left : ℕ} → Reads contents k left [] (Ok [])
  broken : {k left : ℕ} {name : List ℕ} {names : List (List ℕ)} {b : Broken} → BreaksFile contents k left name b → Reads contents k left (name ∷ names) (Err b)
  text : {k left : ℕ} {name text : List ℕ} {names texts : List (List ℕ)} → IsText contents left name text
      → Reads contents (k + 1) (left - length text) names (Ok texts) → Reads contents k left (name ∷ names) (Ok (text ∷ texts))
  later : {k left : ℕ} {name : List ℕ} {names : List (List ℕ)} {b : Broken} (text : List ℕ) → IsText contents left name text
      → Reads contents (k + 1) (left - length text) names (Err b) → Reads contents k left (name ∷ names) (Err b)

-- A phase that is asked of one file after another, the first of which has the number k: what each gives, or what the first
-- that gives nothing breaks.
pub data Each {A B : Type 0} (gives : ℕ → A → B → Type 0) (breaks : ℕ → A → Broken → Type 0) : ℕ → List A → Result (List B) Broken → Type 0 where
  none : {k : ℕ} → Each gives breaks k [] (Ok [])
  broken : {k : ℕ} {x : A} {xs : List A} {b : Broken} → breaks k x b → Each gives breaks k (x ∷ xs) (Err b)
  given : {k : ℕ} {x : A} {xs : List A} {y : B} {ys : List B} → gives k x y → Each gives breaks (k + 1) xs (Ok ys) → Each gives breaks k (x ∷ xs) (Ok (y ∷ ys))
  later : {k : ℕ} {x : A} {xs : List A} {b : Broken} (y : B) → gives k x y → Each gives breaks (k + 1) xs (Err b) → Each gives breaks k (x ∷ xs) (Err b)

-- the tokens of texts, or rules 3 to 5
abbrev pub Tokens : List (List ℕ) → Result (List (List Lexeme)) Broken → Type 0
Tokens = Each Lexes IsRefused 1

-- the trees of tokens, or rules 6 to 8
abbrev pub HasTree : ℕ → List Lexeme → FileTree → Type 0
HasTree k tokens tree = Spells Files whole_limits tokens tree

abbrev pub HasNoTree : ℕ → List Lexeme → Broken → Type 0
HasNoTree k tokens b = IsAtImpossible tokens b

abbrev pub Trees : List (List Lexeme) → Result (List FileTree) Broken → Type 0
Trees = Each HasTree HasNoTree 1
