-- The text of a class, with a semicolon behind it, is read again as a file of that class, places aside.
use Rattle.std.proofs.Common.{◌≡◌, ℕ, List, [], ◌∷◌, ◌++◌, map, None, refl, sym, ap, ◌∙◌, subst}
use Rattle.std.proofs.lemmas.List.{append-nil, map-append}
use Rattle.std.specs.Prelude.{codes}
use Rattle.mo_syntax.specs.declared.class.Body.{Body}
use Rattle.mo_syntax.specs.declared.class.ClassDefOf.{ClassDefOf}
use Rattle.mo_lexer.specs.Lexing.{end_of}
use Rattle.mo_grammar.specs.Lexeme.{Lexeme}
use Rattle.mo_grammar.specs.Grammar.{Limits, at_most, this_name, symbol}
use Rattle.mo_grammar.specs.Language.{Spells, whole_limits}
use Rattle.mo_grammar.specs.Productions.{rule}
use Rattle.mo_grammar.specs.Symbols.{ClassDefinitions, Files}
use Rattle.mo_grammar.proofs.Checked.{in_rises}
use Rattle.mo_pieces.specs.Pieces.{Piece, a_mark, placeless_token, tokens_of, AreTokens}
use Rattle.mo_unparse.specs.PlacelessClasses.{placeless_class}
use Rattle.mo_pieces.specs.ShownClasses.{pieces_of_class}
use Rattle.mo_pieces.specs.Text.{text_of}
use Rattle.mo_unparse.specs.ReadAgain.{HoldsClass, IsReadAsFile}
use Rattle.mo_unparse.proofs.Building.{IsPrinted, by_absent, by_before, by_made, by_more, by_no_flag, by_none, by_pieces, by_seq}
use Rattle.mo_unparse.proofs.FileEnds.{file_parts, file_of, file_printed}
use Rattle.mo_unparse.proofs.OuterNames.{class_renamed}
use Rattle.mo_unparse.proofs.PlacingLaw.{places_do_not_matter}
use Rattle.mo_unparse.proofs.Semicolon.{text_before_semicolon}
use Rattle.mo_unparse.proofs.TextRead.{text_is_read}
use Rattle.mo_unparse.proofs.WordPieces.{semicolon_is}

-- what is wanted of a class: where tokens spell it, its pieces do
abbrev pub PiecesSpell : ClassDefOf Body → Type 0
PiecesSpell class = (tokens : List Lexeme) → Spells ClassDefinitions whole_limits tokens class → AreTokens tokens → IsPrinted (symbol ClassDefinitions) whole_limits (pieces_of_class class) (placeless_class class)

abbrev with_semicolon : ClassDefOf Body → List Piece
with_semicolon class = pieces_of_class class ++ a_mark (codes ";") ∷ []

-- a file of one class in pieces
in_file : {l : Limits} (class : ClassDefOf Body) → IsPrinted (symbol ClassDefinitions) l (pieces_of_class class) (placeless_class class) → IsPrinted file_parts l (with_semicolon class) (None, placeless_class class ∷ [])
in_file class p = by_pieces (append-nil (with_semicolon class)) (by_seq by_absent (by_more (by_made refl (by_seq by_no_flag (by_before p semicolon_is))) by_none))

file_read : (class : ClassDefOf Body) (file : ℕ) → IsPrinted file_parts whole_limits (with_semicolon class) (None, placeless_class class ∷ []) → HoldsClass (text_of (with_semicolon class)) file class
file_read class file p =
    let ps = with_semicolon class in
    let lexed = text_is_read file ps p.tokens in
    let last = end_of file (text_of ps) in
    let same : map placeless_token (lexed.0 ++ last ∷ []) ≡ tokens_of ps ++ placeless_token last ∷ [] = map-append placeless_token lexed.0 (last ∷ []) ∙ ap (λ w. w ++ placeless_token last ∷ []) lexed.2 in
    let whole = file_printed whole_limits ps (None, placeless_class class ∷ []) (placeless_token last) p refl in
    let again = places_do_not_matter Files whole_limits (lexed.0 ++ last ∷ []) (file_of (None, placeless_class class ∷ []) (placeless_token last)) (subst (λ w. Spells Files whole_limits w (file_of (None, placeless_class class ∷ []) (placeless_token last))) (sym same) whole) in
    record { tokens = lexed.0 ++ last ∷ []; tree = again.0; lexed = lexed.1; spelled = again.1; same = again.2 }

pub class_read : (class : ClassDefOf Body) → PiecesSpell class → IsReadAsFile (text_of (pieces_of_class class)) class
class_read class printed file constructs classes outer tokens few fewer all spelled =
    let wide : Spells ClassDefinitions (at_most 128 32 (this_name outer)) tokens class = (spelled.0, in_rises rule spelled.0 ClassDefinitions (at_most constructs classes (this_name outer)) (at_most 128 32 (this_name outer)) tokens class (few, fewer, refl) spelled.1) in
    let p = printed tokens (class_renamed outer [] 128 32 tokens class wide) all in
    subst (λ text. HoldsClass text file class) (text_before_semicolon (pieces_of_class class)) (file_read class file (in_file class p))
