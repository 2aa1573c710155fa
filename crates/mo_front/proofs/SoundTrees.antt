-- The trees of files are sound, as the grammar makes every tree.
use Rattle.std.proofs.Common.{ℕ, ◌+◌, Bool, ◌&&◌, List, [], ◌∷◌, Ok, IsTrue, refl}
use Rattle.std.specs.List.{list_all}
use Rattle.mo_syntax.specs.declared.class.FileTree.{FileTree}
use Rattle.mo_syntax.specs.Lexeme.{Lexeme}
use Rattle.mo_syntax.specs.SoundTree.{IsSoundTree, any_name, is_sound_file}
use Rattle.mo_grammar.specs.Language.{whole_limits}
use Rattle.mo_grammar.specs.Naming.{IdentifiersPass}
use Rattle.mo_grammar.proofs.SoundTrees.{file_sound}
use Rattle.mo_front.specs.Files.{Each, none, given, HasTree, HasNoTree, Trees}

any_passes : (tokens : List Lexeme) → IdentifiersPass any_name tokens
any_passes tokens = λ k d within is. refl

both : (a b : Bool) → IsTrue a → IsTrue b → IsTrue (a && b)
both a b p q = rw (p, q) refl

each_sound : (k : ℕ) (tokens : List (List Lexeme)) (files : List FileTree) → Each HasTree HasNoTree k tokens (Ok files) → IsSoundTree files
each_sound k [] [] none = refl
each_sound k [] (file ∷ files) are = elim are [ ]
each_sound k (list ∷ tokens) [] are = elim are [ ]
each_sound k (list ∷ tokens) (file ∷ files) (given spells rest) =
    both (is_sound_file any_name file) (list_all (is_sound_file any_name) files) (file_sound any_name whole_limits list file spells (any_passes list)) (each_sound (k + 1) tokens files rest)

pub trees_sound : (tokens : List (List Lexeme)) (files : List FileTree) → Trees tokens (Ok files) → IsSoundTree files
trees_sound tokens files are = each_sound 1 tokens files are
