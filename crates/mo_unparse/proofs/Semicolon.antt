-- A semicolon stands directly behind any text of pieces.
use Rattle.std.proofs.Common.{◌≡◌, ℕ, Bool, true, false, not, List, [], ◌∷◌, ◌++◌, Option, Some, None, is_some, eqb, refl, sym, ap, ◌∙◌, append_assoc}
use mathlib.Core.Bool.{false≢true}
use Rattle.std.specs.Prelude.{codes}
use Rattle.std.specs.List.{list_all}
use Rattle.mo_tables.specs.Words.{code_in, operators}
use Rattle.mo_pieces.specs.declared.text.Ending.{Ending}
use Rattle.mo_pieces.specs.declared.text.Ending.TheVariants.{Closed, Word, Number, Mark}
use Rattle.mo_pieces.specs.Pieces.{Piece, a_mark}
use Rattle.mo_pieces.specs.Text.{joins, spaced, ending_after, depth_after, piece_text, text_from, text_of}
use Rattle.mo_lexer.proofs.Shapes.{among}
use Rattle.mo_unparse.proofs.TokenFits.{mark_apart}

is_second : ℕ → List ℕ → Bool
is_second x (a ∷ b ∷ t) = eqb b x
is_second x _ = false

no_operator_ends_so : list_all (λ word. not (is_second 59 word)) operators ≡ true
unfolding is_second operators
no_operator_ends_so = refl

semicolon_apart : (before : Ending) → joins before 59 ≡ false
unfolding is_second
semicolon_apart Closed = refl
semicolon_apart Word = refl
semicolon_apart Number = refl
semicolon_apart (Mark a) = mark_apart a 59 (none _ refl) refl refl
  where
    none : (o : Option ℕ) → code_in operators (a ∷ 59 ∷ []) ≡ o → is_some o ≡ false
    none None e = refl
    none (Some code) e = absurd (false≢true (among (λ word. not (is_second 59 word)) (a ∷ 59 ∷ []) operators 0 code e no_operator_ends_so))

behind : (before : Ending) (depth : ℕ) (ps : List Piece) → text_from before depth (ps ++ a_mark (codes ";") ∷ []) ≡ text_from before depth ps ++ codes ";"
behind before depth [] = let apart : joins before 59 ≡ false = semicolon_apart before in rw apart refl
behind before depth (p ∷ ps) =
    let here = spaced before (piece_text depth p) in
    ap (λ t. here ++ t) (behind (ending_after before p) (depth_after depth p) ps) ∙ sym (append_assoc here _ (codes ";"))

pub text_before_semicolon : (ps : List Piece) → text_of (ps ++ a_mark (codes ";") ∷ []) ≡ text_of ps ++ codes ";"
text_before_semicolon ps = behind Closed 0 ps
