-- A test that the names among tokens pass.
use Rattle.std.specs.Prelude.{◌≡◌, IfOk, IsTrue, List, Result}
use Rattle.std.specs.List.{All}
use Rattle.mo_syntax.specs.declared.class.FileTree.{FileTree}
use Rattle.mo_syntax.specs.declared.place.Stop.{Stop}
use Rattle.mo_syntax.specs.declared.token.TokenKind.TheVariants.{Ident}
use Rattle.mo_syntax.specs.SoundTree.{Naming, is_sound_file}
use Rattle.mo_grammar.specs.Grammar.{Limits}
use Rattle.mo_grammar.specs.Language.{Spells}
use Rattle.mo_grammar.specs.Lexeme.{Lexeme}
use Rattle.mo_grammar.specs.Symbols.{Files}

-- the text of each identifier among the tokens passes
abbrev pub IdentifiersPass : Naming → List Lexeme → Type 0
IdentifiersPass is_name tokens = All (λ t. t.kind ≡ Ident → IsTrue (is_name t.text)) tokens

-- A file that tokens spell is sound, and each name in it passes the test, where the identifiers among the tokens pass it.
abbrev pub SpellsSoundFiles : Naming → Type 0
SpellsSoundFiles is_name =
    (l : Limits) (tokens : List Lexeme) (file : FileTree) → Spells Files l tokens file → IdentifiersPass is_name tokens → IsTrue (is_sound_file is_name file)

-- The tree that is answered is sound, and its names pass each test that the identifiers among the tokens pass.
abbrev pub IsSoundByNames : List Lexeme → Result FileTree Stop → Type 0
IsSoundByNames tokens result = (is_name : Naming) → IdentifiersPass is_name tokens → IfOk result (λ tree. IsTrue (is_sound_file is_name tree))
