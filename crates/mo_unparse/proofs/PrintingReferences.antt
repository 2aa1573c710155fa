-- Names, references and their subscripts, and iterators, in pieces.
use Rattle.std.proofs.Common.{◌≡◌, Bool, true, false, List, [], ◌∷◌, ◌++◌, inl, inr, map, Option, Some, None, refl, sym, ap, subst, ◌∙◌}
use Rattle.std.specs.Prelude.{codes}
use Rattle.std.specs.Option.{option_map}
use Rattle.mo_syntax.specs.declared.expr.PartOf.{PartOf}
use Rattle.mo_syntax.specs.declared.expr.ReferenceOf.{ReferenceOf}
use Rattle.mo_syntax.specs.declared.expr.IndexOf.{IndexOf}
use Rattle.mo_syntax.specs.declared.expr.Expr.{Expr}
use Rattle.mo_grammar.specs.Lexeme.{Lexeme}
use Rattle.mo_grammar.specs.Codes.{ident, dot as dot_code, comma as comma_code, open_bracket, close_bracket, in_word}
use Rattle.mo_grammar.specs.Grammar.{Limits, token, symbol}
use Rattle.mo_grammar.specs.Forms.{optional, flag, behind, separated}
use Rattle.mo_grammar.specs.Symbols.{Expressions, Subscripts, References, TypeSpecs, Names, Indices}
use Rattle.mo_grammar.specs.Productions.{rule}
use Rattle.mo_grammar.specs.Expressions.{name, type_spec, part, reference, subscript, subscripts, index, indices}
use Rattle.mo_grammar.specs.Trees.{plain_part, part_of, or_nothing, name_reference}
use Rattle.mo_pieces.specs.Pieces.{a_name, a_mark, a_word, IsToken, placeless_token}
use Rattle.mo_unparse.specs.Placeless.{placeless_option, placeless_options, placeless_part, placeless_reference, placeless_index, placeless_indices}
use Rattle.mo_pieces.specs.ShownExpressions.{shown_expr, pieces_of_reference, pieces_of_subscripts, pieces_of_indices, part_pieces, top_pieces, subscript_pieces, range_pieces, index_pieces, iterators_pieces, a_comma, spaced, joined_by, in_brackets}
use Rattle.mo_unparse.proofs.PlacelessForms.{map_twice}
use Rattle.mo_unparse.proofs.ExpressionForms.{joined_map}
use Rattle.mo_unparse.proofs.Holding.{HoldsBy}
use Rattle.mo_unparse.proofs.Building.{IsPrinted, by_pieces, by_name, by_one, by_made, by_seq, by_rule, by_left, by_right, by_between, by_present, by_absent, by_flag, by_no_flag}
use Rattle.mo_unparse.proofs.WordPieces.{dot_is, comma_is, colon_is, open_bracket_is, close_bracket_is, in_word_is}
use Rattle.mo_unparse.proofs.PrintingLevels.{expression_printed}
use Rattle.mo_unparse.proofs.PrintingLists.{HoldsOption, optional_held, behind_held, between_held, by_mark, separated_printed, IsSome, separated_some}
use Rattle.mo_unparse.proofs.ExpressionFacts.{ExpressionFact, pieces_of_names}

-- ---- names

pub names_step : (l : Limits) (names : List Lexeme) → HoldsBy ExpressionFact IsToken name l names → IsPrinted (symbol Names) l (pieces_of_names names) (map placeless_token names)
unfolding rule
names_step l names h = by_rule Names (separated_printed ExpressionFact (token (ident ∷ [])) l (a_mark (codes ".") ∷ []) dot_is refl (λ t. a_name t.text ∷ []) placeless_token (λ t k. by_name t k.0 k.1) names h)

top_printed : {l : Limits} (top : Bool) → IsPrinted (flag dot_code) l (top_pieces top) top
top_printed true = by_flag dot_is
top_printed false = by_no_flag

names_in_reference : (names : List Lexeme) → pieces_of_names names ≡ joined_by (a_mark (codes ".") ∷ []) (part_pieces shown_expr) (map plain_part names)
names_in_reference names = sym (joined_map (a_mark (codes ".") ∷ []) (part_pieces shown_expr) (λ t. a_name t.text ∷ []) plain_part (λ t. refl) names)

placeless_names : (names : List Lexeme) → map plain_part (map placeless_token names) ≡ map placeless_part (map plain_part names)
placeless_names names = map_twice placeless_token plain_part (λ t. plain_part (placeless_token t)) (λ t. refl) names ∙ sym (map_twice plain_part placeless_part (λ t. plain_part (placeless_token t)) (λ t. refl) names)

type_printed : (l : Limits) (top : Bool) (names : List Lexeme) → IsPrinted (symbol Names) l (pieces_of_names names) (map placeless_token names) →
    IsPrinted (symbol TypeSpecs) l (pieces_of_reference (name_reference (top, names))) (placeless_reference (name_reference (top, names)))
unfolding rule
type_printed l top names p =
    by_rule TypeSpecs (by_made (ap (λ parts. record { top = top; parts = parts }) (placeless_names names)) (by_pieces (ap (λ ps. top_pieces top ++ ps) (names_in_reference names)) (by_seq (top_printed top) p)))

pub type_specs_step : (l : Limits) (r : ReferenceOf Expr) → HoldsBy ExpressionFact IsToken type_spec l r → IsPrinted (symbol TypeSpecs) l (pieces_of_reference r) (placeless_reference r)
type_specs_step l r ((top, names), (mark, p), same) = subst (λ v. IsPrinted (symbol TypeSpecs) l (pieces_of_reference v) (placeless_reference v)) same (type_printed l top names p)

-- ---- references

subscripts_printed : (l : Limits) (o : Option (List (Option Expr))) → HoldsOption (λ s. IsPrinted (symbol Subscripts) l (pieces_of_subscripts s) (placeless_options s)) o →
    IsPrinted (optional (symbol Subscripts)) l (pieces_of_subscripts (or_nothing o)) (option_map placeless_options o)
subscripts_printed l None h = by_absent
subscripts_printed l (Some s) h = by_present h

part_value : (t : Lexeme) (o : Option (List (Option Expr))) → part_of (placeless_token t, option_map placeless_options o) ≡ placeless_part (part_of (t, o))
part_value t None = refl
part_value t (Some s) = refl

part_held : (l : Limits) (p : PartOf Expr) → HoldsBy ExpressionFact IsToken part l p → IsPrinted part l (part_pieces shown_expr p) (placeless_part p)
part_held l p ((t, o), ((is_token, code), subs), same) =
    subst (λ v. IsPrinted part l (part_pieces shown_expr v) (placeless_part v)) same
    (by_made (part_value t o) (by_seq (by_name t is_token code) (subscripts_printed l o (optional_held ExpressionFact (symbol Subscripts) l o subs))))

pub references_step : (l : Limits) (r : ReferenceOf Expr) → HoldsBy ExpressionFact IsToken reference l r → IsPrinted (symbol References) l (pieces_of_reference r) (placeless_reference r)
unfolding rule
references_step l r ((top, parts), (mark, others), same) =
    subst (λ v. IsPrinted (symbol References) l (pieces_of_reference v) (placeless_reference v)) same
    (by_rule References (by_made refl (by_seq (top_printed top) (separated_printed ExpressionFact part l (a_mark (codes ".") ∷ []) dot_is refl (part_pieces shown_expr) placeless_part (part_held l) parts others))))

-- ---- subscripts

subscript_held : (l : Limits) (o : Option Expr) → HoldsBy ExpressionFact IsToken subscript l o → IsPrinted subscript l (subscript_pieces shown_expr o) (placeless_option o)
subscript_held l o (inl (t, mark, same)) = subst (λ v. IsPrinted subscript l (subscript_pieces shown_expr v) (placeless_option v)) same (by_left (by_made refl (by_one colon_is)))
subscript_held l o (inr (e, p, same)) = subst (λ v. IsPrinted subscript l (subscript_pieces shown_expr v) (placeless_option v)) same (by_right (by_made refl (expression_printed l e p)))

bracketed : (subs : List (Option Expr)) → IsSome subs → in_brackets (joined_by a_comma (subscript_pieces shown_expr) subs) ≡ pieces_of_subscripts subs
bracketed [] h = elim h [ ]
bracketed (x ∷ xs) h = refl

pub subscripts_step : (l : Limits) (subs : List (Option Expr)) → HoldsBy ExpressionFact IsToken subscripts l subs → IsPrinted (symbol Subscripts) l (pieces_of_subscripts subs) (placeless_options subs)
unfolding rule
subscripts_step l subs h =
    let inside = between_held ExpressionFact open_bracket close_bracket (separated comma_code subscript) l subs h in
    by_rule Subscripts (by_pieces (bracketed subs (separated_some ExpressionFact comma_code subscript inside.0 subs inside.2))
    (by_between inside.1 open_bracket_is close_bracket_is (separated_printed ExpressionFact subscript inside.0 a_comma comma_is refl (subscript_pieces shown_expr) placeless_option (subscript_held inside.0) subs inside.2)))

-- ---- iterators

range_printed : (l : Limits) (o : Option Expr) → HoldsOption (HoldsBy ExpressionFact IsToken (behind in_word (symbol Expressions)) l) o → IsPrinted (optional (behind in_word (symbol Expressions))) l (range_pieces shown_expr o) (placeless_option o)
range_printed l None h = by_absent
range_printed l (Some e) h = by_present (by_mark (spaced (a_word (codes "in"))) in_word_is refl (expression_printed l e (behind_held ExpressionFact in_word (symbol Expressions) l e h)))

index_held : (l : Limits) (i : IndexOf Expr) → HoldsBy ExpressionFact IsToken index l i → IsPrinted index l (index_pieces shown_expr i) (placeless_index i)
index_held l i ((t, o), ((is_token, code), range), same) =
    subst (λ v. IsPrinted index l (index_pieces shown_expr v) (placeless_index v)) same
    (by_made refl (by_seq (by_name t is_token code) (range_printed l o (optional_held ExpressionFact (behind in_word (symbol Expressions)) l o range))))

pub indices_step : (l : Limits) (is : List (IndexOf Expr)) → HoldsBy ExpressionFact IsToken indices l is → IsPrinted (symbol Indices) l (pieces_of_indices is) (placeless_indices is) × IsSome is
unfolding rule
indices_step l is h =
    (by_rule Indices (separated_printed ExpressionFact index l a_comma comma_is refl (index_pieces shown_expr) placeless_index (index_held l) is h), separated_some ExpressionFact comma_code index l is h)

-- iterators behind their `for`
pub iterators_some : (is : List (IndexOf Expr)) → IsSome is → spaced (a_word (codes "for")) ++ pieces_of_indices is ≡ iterators_pieces shown_expr is
iterators_some [] h = elim h [ ]
iterators_some (i ∷ is) h = refl
