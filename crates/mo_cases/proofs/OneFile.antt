-- The tree of one file is sound, as the grammar makes every tree.
use Rattle.std.proofs.Common.{List, [], ◌∷◌, Ok, refl}
use Rattle.mo_syntax.specs.declared.class.FileTree.{FileTree}
use Rattle.mo_syntax.specs.Lexeme.{Lexeme}
use Rattle.mo_syntax.specs.SoundTree.{IsSoundTree, any_name}
use Rattle.mo_grammar.specs.Naming.{IsSoundByNames}

pub one_sound : (tokens : List Lexeme) (file : FileTree) → IsSoundByNames tokens (Ok file) → IsSoundTree (file ∷ [])
one_sound tokens file sound = rw (sound any_name (λ k d within is. refl)) refl
