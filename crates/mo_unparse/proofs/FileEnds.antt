-- A file is what stands before its end, and the token that ends it, which is a token of no text.
use Rattle.std.proofs.Common.{◌≡◌, ℕ, zero, suc, true, List, [], ◌∷◌, ◌++◌, Option, refl, sym, ap, ◌∙◌, append_assoc}
use Rattle.mo_syntax.specs.declared.place.Place.{Place}
use Rattle.mo_syntax.specs.declared.class.Body.{Body}
use Rattle.mo_syntax.specs.declared.class.ClassDefOf.{ClassDefOf}
use Rattle.mo_syntax.specs.declared.class.FileTree.{FileTree}
use Rattle.mo_grammar.specs.Lexeme.{Lexeme, code_of}
use Rattle.mo_grammar.specs.Codes.{end_of_file, within_word, semicolon, final_word}
use Rattle.mo_grammar.specs.Grammar.{Limits, seq, many, made, placed, symbol, has, SpelledBy, SpelledIn, SpelledAs}
use Rattle.mo_grammar.specs.Forms.{second_of, optional, flag, behind, before}
use Rattle.mo_grammar.specs.ClassTrees.{file_tree}
use Rattle.mo_grammar.specs.Symbols.{Form, Names, ClassDefinitions, Files}
use Rattle.mo_grammar.specs.Productions.{rule}
use Rattle.mo_grammar.specs.Language.{Spells}
use Rattle.mo_grammar.proofs.Limits.{below_same, spelled_rises}
use Rattle.mo_grammar.proofs.Checked.{in_rises}
use Rattle.mo_pieces.specs.Pieces.{Piece, tokens_of}
use Rattle.mo_unparse.proofs.Building.{IsPrinted, one_height}

-- the name behind `within`, and the classes
abbrev pub FileParts : Type 0
FileParts = Option (Option (Place × List Lexeme)) × List (ClassDefOf Body)

-- [within [name] ";"] { [final] class_def ";" }
abbrev pub file_parts : Form FileParts
file_parts = seq (optional (behind within_word (before (optional (placed (symbol Names))) semicolon))) (many (made second_of (seq (flag final_word) (before (symbol ClassDefinitions) semicolon))))

abbrev pub file_of : FileParts → Lexeme → FileTree
file_of parts t = file_tree (parts.0, (parts.1, t))

-- what is spelled within n productions is spelled
pub spelled_at_last : {A : Type 0} (g : Form A) (n : ℕ) (l : Limits) (w : List Lexeme) (a : A) → SpelledBy (SpelledIn rule n) g l w a → SpelledBy (SpelledAs rule) g l w a
spelled_at_last g n l w a s = spelled_rises (SpelledIn rule n) (SpelledAs rule) (λ x l m w a b s. (n, in_rises rule n x l m w a b s)) g l l (below_same l) w a s

in_file : (n : ℕ) (l : Limits) (w : List Lexeme) (tree : FileTree) → SpelledIn rule n Files l w tree → (parts : FileParts) × (t : Lexeme) × (front : List Lexeme) × (w ≡ front ++ t ∷ []) × (tree ≡ file_of parts t) × (has (end_of_file ∷ []) (code_of t) ≡ true) × SpelledBy (SpelledAs rule) file_parts l front parts
unfolding rule
in_file zero l w tree s = absurd s
in_file (suc n) l w tree ((within, (classes, t)), (f, r, cut, sw, (g, end, cut2, sc, (one, code))), q) = (
  (within, classes),
  t,
  f ++ g,
  cut ∙ ap (λ v. f ++ v) (cut2 ∙ ap (λ v. g ++ v) one) ∙ sym (append_assoc f g (t ∷ [])),
  sym q,
  code,
  spelled_at_last file_parts n l (f ++ g) (within, classes) (f, g, refl, sw, sc),
)

-- what spells a file is what spells its parts, and its end
pub spelled_file : (l : Limits) (w : List Lexeme) (tree : FileTree) → Spells Files l w tree → (parts : FileParts) × (t : Lexeme) × (front : List Lexeme) × (w ≡ front ++ t ∷ []) × (tree ≡ file_of parts t) × (has (end_of_file ∷ []) (code_of t) ≡ true) × SpelledBy (SpelledAs rule) file_parts l front parts
spelled_file l w tree s = in_file s.0 l w tree s.1

-- and the other way round, for pieces
pub file_printed : (l : Limits) (ps : List Piece) (parts : FileParts) (t : Lexeme) → IsPrinted file_parts l ps parts → has (end_of_file ∷ []) (code_of t) ≡ true → Spells Files l (tokens_of ps ++ t ∷ []) (file_of parts t)
unfolding rule
file_printed l ps parts t p e =
    let s = p.spelled in
    let whole = one_height rule (rule Files) l (tokens_of ps ++ t ∷ []) (file_of parts t)
    ((parts.0, (parts.1, t)), (s.0, s.1 ++ t ∷ [], ap (λ v. v ++ t ∷ []) s.2 ∙ append_assoc s.0 s.1 (t ∷ []), s.3, (s.1, t ∷ [], refl, s.4, (refl, e))), refl) in
    (suc whole.0, whole.1)
