-- What a class is in pieces that stands for derivatives of a function spells it, behind `=`.
use Rattle.std.proofs.Common.{◌≡◌, List, [], ◌∷◌, ◌++◌, map, refl, sym, ap, subst, ◌∙◌, codes}
use Rattle.std.specs.Prelude.{if◌then◌else◌}
use Rattle.mo_syntax.specs.declared.expr.Expr.{Expr}
use Rattle.mo_syntax.specs.declared.expr.ReferenceOf.{ReferenceOf}
use Rattle.mo_syntax.specs.declared.class.Body.{Body}
use Rattle.mo_syntax.specs.declared.class.Body.TheVariants.{Der}
use Rattle.mo_grammar.specs.Codes.{ident, comma, open_paren, close_paren, der_word}
use Rattle.mo_grammar.specs.Lexeme.{Lexeme}
use Rattle.mo_grammar.specs.Grammar.{Limits, seq, symbol, token}
use Rattle.mo_grammar.specs.Forms.{behind, between, separated}
use Rattle.mo_grammar.specs.ClassTrees.{text_of}
use Rattle.mo_grammar.specs.Symbols.{Symbol, ValueOf, Form, TypeSpecs}
use Rattle.mo_grammar.specs.Classes.{der_spec}
use Rattle.mo_pieces.specs.Pieces.{a_word, IsToken, placeless_token}
use Rattle.mo_unparse.specs.Placeless.{placeless_reference}
use Rattle.mo_unparse.specs.PlacelessClasses.{placeless_body}
use Rattle.mo_pieces.specs.ShownExpressions.{a_comma, commas, in_parentheses, pieces_of_reference}
use Rattle.mo_pieces.specs.ShownModifiers.{pieces_of_name}
use Rattle.mo_unparse.proofs.ClassLayers as layers
use Rattle.mo_unparse.proofs.PlacelessClassForms as placeless_forms
use Rattle.mo_unparse.proofs.PlacelessForms.{map_twice}
use Rattle.mo_unparse.proofs.Rows.{in_row_map}
use Rattle.mo_unparse.proofs.Holding.{Fact, HoldsBy, each_follows}
use Rattle.mo_unparse.proofs.Building.{IsPrinted, after_blank, by_behind, by_between, by_made, by_name, by_pieces, by_seq}
use Rattle.mo_unparse.proofs.WordPieces.{close_paren_is, comma_is, der_word_is, open_paren_is}
use Rattle.mo_unparse.proofs.Inverting.{behind_holds, between_holds, commented_holds, separated_holds}
use Rattle.mo_unparse.proofs.PrintingClassParts.{TypesPrinted}
use Rattle.mo_unparse.proofs.PrintingForms.{by_commented, by_joined}
use Rattle.mo_unparse.proofs.PrintingParts.{name_of}
use Rattle.mo_unparse.proofs.PrintingShort.{BodyPrinted}

abbrev identifiers : Form (List Lexeme)
identifiers = separated comma (token (ident ∷ []))

-- a function, and the variables that it is derived by
abbrev function_by : Form (ReferenceOf Expr × List Lexeme)
function_by = seq (symbol TypeSpecs) (behind comma identifiers)

module _ (P : Fact Symbol ValueOf) (types : TypesPrinted P) where
  identifier_printed : (l : Limits) (t : Lexeme) → HoldsBy P IsToken (token (ident ∷ [])) l t → IsPrinted (token (ident ∷ [])) l (name_of t) (placeless_token t)
  identifier_printed l t h = by_name t h.0 h.1

  identifiers_printed : (l : Limits) (names : List Lexeme) → HoldsBy P IsToken identifiers l names → IsPrinted identifiers l (commas pieces_of_name (map text_of names)) (map placeless_token names)
  identifiers_printed l names h =
      let parts = separated_holds P IsToken comma (token (ident ∷ [])) l names h in
      by_pieces (sym (in_row_map (λ first n. (if first then [] else a_comma) ++ pieces_of_name n) (λ first t. (if first then [] else a_comma) ++ name_of t) text_of (λ first t. refl) names))
      (subst (λ v. IsPrinted identifiers l (commas name_of v) (map placeless_token v)) parts.2
      (by_joined a_comma name_of placeless_token (λ t p. by_behind comma_is (after_blank p)) parts.0 parts.1 (identifier_printed l parts.0 parts.3)
      (each_follows (HoldsBy P IsToken (token (ident ∷ [])) l) (λ t. IsPrinted (token (ident ∷ [])) l (name_of t) (placeless_token t)) (identifier_printed l) parts.1 parts.4)))

  pub der_printed : (l : Limits) (b : Body) → HoldsBy P IsToken der_spec l b → BodyPrinted der_spec l b
  der_printed l b (y, h, e) =
      let inner = between_holds P IsToken open_paren close_paren function_by l y (behind_holds P IsToken der_word (between open_paren close_paren function_by) l y (commented_holds P IsToken (behind der_word (between open_paren close_paren function_by)) l y h)) in
      let names = behind_holds P IsToken comma identifiers inner.0 y.1 inner.2.1 in
      let value : Der (placeless_reference y.0) (map text_of (map placeless_token y.1)) ≡ placeless_body (Der y.0 (map text_of y.1)) =
      ap (Der (placeless_reference y.0)) (map_twice placeless_token text_of text_of (λ t. refl) y.1) ∙ sym (placeless_forms.at_Der y.0 (map text_of y.1)) in
      subst (BodyPrinted der_spec l) e (record {
        pieces = a_word (codes "der") ∷ in_parentheses (pieces_of_reference y.0 ++ (a_comma ++ commas pieces_of_name (map text_of y.1)));
        named = layers.at_Der y.0 (map text_of y.1);
        printed = by_made value (by_commented (by_behind der_word_is (by_between inner.1 open_paren_is close_paren_is (by_seq (types.type_spec inner.0 y.0 inner.2.0) (by_behind comma_is (after_blank (identifiers_printed inner.0 y.1 names)))))));
      })
