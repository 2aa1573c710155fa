-- The identifiers among the tokens of texts are spelled as identifiers, and the names in their trees pass each test that these pass.
use Rattle.std.proofs.Common.{◌≡◌, ℕ, ◌+◌, List, [], ◌∷◌, ◌++◌, Ok, All, IsTrue, refl, sym, subst}
use Rattle.std.specs.List.{list_all}
use Rattle.mo_syntax.specs.declared.class.FileTree.{FileTree}
use Rattle.mo_syntax.specs.declared.token.TokenKind.{TokenKind}
use Rattle.mo_syntax.specs.declared.token.TokenKind.TheVariants.{Ident}
use Rattle.mo_syntax.specs.Lexeme.{Lexeme}
use Rattle.mo_syntax.specs.SoundTree.{IsSoundNamedTree, Naming, is_sound_file}
use Rattle.mo_lexer.specs.Lexing.{IsRefused, Lexes, Reads, end_of, skips, takes}
use Rattle.mo_lexer.specs.Spelling.{Spells}
use Rattle.mo_grammar.specs.Language.{whole_limits}
use Rattle.mo_grammar.specs.Naming.{IdentifiersPass}
use Rattle.mo_grammar.proofs.SoundTrees.{file_sound}
use Rattle.mo_front.specs.Files.{Each, HasNoTree, HasTree, Trees, given, none}
use Rattle.mo_path_names.specs.Identifiers.{is_identifier}
use Rattle.mo_path_names.proofs.laws.Splitting.{tests_identifiers}
use Rattle.mo_path_names.proofs.laws.Testing.{all_every, both_pass, every_all}
use Rattle.mo_told_names.specs.Laws.{TextsPass}
use Rattle.mo_scope.specs.Places.{Every}
use Rattle.mo_scope.proofs.laws.Standing.{every_append}

-- ---- tokens

abbrev Passes : Lexeme → Type 0
Passes token = token.kind ≡ Ident → IsTrue (is_identifier token.text)

passes_spelled : (token : Lexeme) → Spells token.kind token.text → Passes token
passes_spelled token spells is = (tests_identifiers token.text).passes (subst (λ (kind : TokenKind). Spells kind token.text) is spells)

each_passes : (file : ℕ) (whole rest left : List ℕ) (tokens : List Lexeme) → Reads file whole rest tokens left → Every Passes tokens
each_passes file whole rest left [] reads = tt
each_passes file whole rest left (token ∷ tokens) (skips piece after is separator fits reads) = each_passes file whole after left (token ∷ tokens) reads
each_passes file whole rest left (token ∷ tokens) (takes after is spells fits within at reads) = (passes_spelled token spells, each_passes file whole after left tokens reads)

end_passes : (file : ℕ) (text : List ℕ) → Passes (end_of file text)
end_passes file text is = absurd cc

text_passes : (file : ℕ) (text : List ℕ) (tokens : List Lexeme) → Lexes file text tokens → IdentifiersPass is_identifier tokens
text_passes file text tokens lexes =
    subst (IdentifiersPass is_identifier) (sym lexes.closed)
    (every_all Passes (lexes.before_end ++ end_of file text ∷ [])
    (every_append Passes lexes.before_end (end_of file text ∷ []) (each_passes file text _ [] lexes.before_end lexes.all) (end_passes file text, tt)))

all_pass : (k : ℕ) (texts : List (List ℕ)) (tokens : List (List Lexeme)) → Each Lexes IsRefused k texts (Ok tokens) → Every (IdentifiersPass is_identifier) tokens
all_pass k [] [] none = tt
all_pass k [] (list ∷ tokens) are = elim are [ ]
all_pass k (text ∷ texts) [] are = elim are [ ]
all_pass k (text ∷ texts) (list ∷ tokens) (given lexes rest) = (text_passes k text list lexes, all_pass (k + 1) texts tokens rest)

pub texts_pass : (texts : List (List ℕ)) → TextsPass is_identifier texts
texts_pass texts tokens lexed = every_all (IdentifiersPass is_identifier) tokens (all_pass 1 texts tokens lexed)

-- ---- trees

module _ (naming : Naming) where
  all_sound : (k : ℕ) (tokens : List (List Lexeme)) (files : List FileTree) → Every (IdentifiersPass naming) tokens → Each HasTree HasNoTree k tokens (Ok files) → IsSoundNamedTree naming files
  all_sound k [] [] pass none = refl
  all_sound k [] (file ∷ files) pass are = elim are [ ]
  all_sound k (list ∷ tokens) [] pass are = elim are [ ]
  all_sound k (list ∷ tokens) (file ∷ files) pass (given spells rest) =
      both_pass (is_sound_file naming file) (list_all (is_sound_file naming) files) (file_sound naming whole_limits list file spells pass.0) (all_sound (k + 1) tokens files pass.1 rest)

  pub trees_sound : (tokens : List (List Lexeme)) (files : List FileTree) → All (IdentifiersPass naming) tokens → Trees tokens (Ok files) → IsSoundNamedTree naming files
  trees_sound tokens files pass read = all_sound 1 tokens files (all_every (IdentifiersPass naming) tokens pass) read
