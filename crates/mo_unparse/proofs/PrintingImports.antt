-- What imports are in pieces spells them.
use Rattle.std.proofs.Common.{◌≡◌, ◌++◌, zero, suc, List, [], ◌∷◌, map, inl, inr, Option, Some, None, refl, sym, ap, subst, ◌∙◌, append-nil, codes}
use Rattle.std.specs.Option.{option_map}
use Rattle.mo_syntax.specs.declared.class.Import.{Import}
use Rattle.mo_syntax.specs.declared.class.Import.TheVariants.{Renamed, Named, Group, All}
use Rattle.mo_grammar.specs.ClassTrees.{Imported, Taken, from_all, from_group, import_of, imported, path_of, place_of_names, renamed_import, text_of}
use Rattle.mo_grammar.specs.Classes.{commented, import_clause}
use Rattle.mo_grammar.specs.Codes.{close_brace, comma, dot, dot_times, equals, ident, import_word, open_brace, times}
use Rattle.mo_grammar.specs.Forms.{behind, between, separated}
use Rattle.mo_grammar.specs.Grammar.{Limits, either, either2, made, seq, symbol, token}
use Rattle.mo_grammar.specs.Language.{Spells}
use Rattle.mo_grammar.specs.Lexeme.{Lexeme}
use Rattle.mo_grammar.specs.Productions.{rule}
use Rattle.mo_grammar.specs.Symbols.{Form, ImportNames, Names, Symbol, ValueOf}
use Rattle.mo_pieces.specs.Pieces.{IsToken, Piece, a_mark, a_name, nowhere, placeless_token, tokens_of}
use Rattle.mo_unparse.specs.PlacelessClasses.{placeless_import}
use Rattle.mo_pieces.specs.ShownElements.{in_import, pieces_of_import}
use Rattle.mo_pieces.specs.ShownExpressions.{a_comma, commas, in_braces, spaced}
use Rattle.mo_pieces.specs.ShownModifiers.{pieces_of_name, pieces_of_path}
use Rattle.mo_unparse.proofs.Building.{IsPrinted, after_blank, by_absent, by_behind, by_between, by_left, by_left2, by_made, by_name, by_one, by_pieces, by_present, by_right, by_right2, by_rule, by_seq}
use Rattle.mo_unparse.proofs.ExpressionForms.{joined_map}
use Rattle.mo_unparse.proofs.Holding.{Fact, HoldsBy, each_follows}
use Rattle.mo_unparse.proofs.Inverting.{HoldsOption, behind_holds, between_holds, commented_holds, optional_holds, separated_holds}
use Rattle.mo_unparse.proofs.PlacelessForms.{both_same, map_twice}
use Rattle.mo_unparse.proofs.PrintingForms.{by_commented, by_joined}
use Rattle.mo_unparse.proofs.PrintingParts.{ExpressionsPrinted, name_of, pieces_of_names}
use Rattle.mo_unparse.proofs.WordPieces.{close_brace_is, comma_is, dot_is, dot_times_is, equals_is, import_word_is, open_brace_is}

-- ---- what is taken from a name

abbrev pub pieces_of_taken : Taken → List Piece
pieces_of_taken None = []
pieces_of_taken (Some None) = a_mark (codes ".*") ∷ []
pieces_of_taken (Some (Some group)) = a_mark (codes ".") ∷ in_braces (commas name_of group)

abbrev pub pieces_of_imported : Imported → List Piece
pieces_of_imported x = pieces_of_names x.0 ++ pieces_of_taken x.1

abbrev pub placeless_imported : Imported → Imported
placeless_imported x = (map placeless_token x.0, option_map (option_map (map placeless_token)) x.1)

abbrev pub ImportPrinted : Limits → Imported → Type 0
ImportPrinted l x = IsPrinted (symbol ImportNames) l (pieces_of_imported x) (placeless_imported x)

-- names that tokens spell begin with one
names_filled : (l : Limits) (w : List Lexeme) (x : Imported) → Spells ImportNames l w x → (t : Lexeme) × (more : List Lexeme) × (x.0 ≡ t ∷ more)
unfolding rule
names_filled l w x (zero, s) = absurd s
names_filled l w x (suc n, ((t, None), s, e)) = (t, [], ap (λ v. v.0) (sym e))
names_filled l w x (suc n, ((t, Some y), s, e)) = (t, y.0, ap (λ v. v.0) (sym e))

-- ---- the names of an import

abbrev name_token : Form Lexeme
name_token = token (ident ∷ [])

abbrev group_form : Form (List Lexeme)
group_form = separated comma name_token

abbrev behind_dot : Form Imported
behind_dot = either (made from_all (token (times ∷ []))) (either (made from_group (between open_brace close_brace group_form)) (symbol ImportNames))

abbrev behind_name : Form Imported
behind_name = either (made from_all (token (dot_times ∷ []))) (behind dot behind_dot)

-- a name in front of what stands behind it
abbrev BehindPrinted : Limits → Lexeme → Imported → Type 0
BehindPrinted l t z = IsPrinted (symbol ImportNames) l (pieces_of_imported (t ∷ z.0, z.1)) (placeless_imported (t ∷ z.0, z.1))

-- ---- imports by their names

path_pieces : (names : List Lexeme) → pieces_of_names names ≡ pieces_of_path (path_of names)
path_pieces names = sym (joined_map (a_mark (codes ".") ∷ []) pieces_of_name name_of text_of (λ t. refl) names)

-- an import in pieces, by the names that it is made of
import_pieces : (x : Imported) → pieces_of_imported x ≡ in_import (import_of x)
import_pieces (names, None) = append-nil (pieces_of_names names) ∙ path_pieces names
import_pieces (names, Some None) = ap (λ v. v ++ a_mark (codes ".*") ∷ []) (path_pieces names)
import_pieces (names, Some (Some group)) =
    ap (λ v. v ++ (a_mark (codes ".") ∷ in_braces (commas name_of group))) (path_pieces names)
    ∙ ap (λ v. pieces_of_path (path_of names) ++ (a_mark (codes ".") ∷ in_braces v)) (sym (joined_map a_comma pieces_of_name name_of text_of (λ t. refl) group))

path_placeless : (names : List Lexeme) → path_of (map placeless_token names) ≡ path_of names
path_placeless names = ap (λ v. record { 0 = v }) (map_twice placeless_token text_of text_of (λ t. refl) names)

names_nowhere : (names : List Lexeme) → place_of_names (map placeless_token names) ≡ nowhere
names_nowhere [] = refl
names_nowhere (t ∷ names) = refl

renamed_placeless : (t : Lexeme) (names : List Lexeme) → renamed_import (placeless_token t, map placeless_token names) ≡ placeless_import (renamed_import (t, names))
renamed_placeless t names = both_same (Renamed t.text) _ _ _ _ (path_placeless names) (names_nowhere names)

import_placeless : (x : Imported) → import_of (placeless_imported x) ≡ placeless_import (import_of x)
import_placeless (names, None) = both_same Named _ _ _ _ (path_placeless names) (names_nowhere names)
import_placeless (names, Some None) = both_same All _ _ _ _ (path_placeless names) (names_nowhere names)
import_placeless (names, Some (Some group)) =
    both_same (λ path place. Group path (map text_of (map placeless_token group)) place) _ _ _ _ (path_placeless names) (names_nowhere names)
    ∙ ap (λ texts. Group (path_of names) texts nowhere) (map_twice placeless_token text_of text_of (λ t. refl) group)

module _ (P : Fact Symbol ValueOf) (expressions : ExpressionsPrinted P) (inside : (l : Limits) (x : Imported) → P ImportNames l x → ImportPrinted l x) where
  name_printed : (l : Limits) (t : Lexeme) → HoldsBy P IsToken name_token l t → IsPrinted name_token l (name_of t) (placeless_token t)
  name_printed l t h = by_name t h.0 h.1

  group_printed : (l : Limits) (list : List Lexeme) → HoldsBy P IsToken group_form l list → IsPrinted group_form l (commas name_of list) (map placeless_token list)
  group_printed l list h =
      let parts = separated_holds P IsToken comma name_token l list h in
      subst (λ v. IsPrinted group_form l (commas name_of v) (map placeless_token v)) parts.2
      (by_joined a_comma name_of placeless_token (λ t p. by_behind comma_is (after_blank p)) parts.0 parts.1 (name_printed l parts.0 parts.3)
      (each_follows (HoldsBy P IsToken name_token l) (λ t. IsPrinted name_token l (name_of t) (placeless_token t)) (name_printed l) parts.1 parts.4))

  -- all that stands in a name
  all_printed : (l : Limits) (t : Lexeme) → HoldsBy P IsToken name_token l t → (z : Imported) → (let all : Imported = ([], Some None) in all) ≡ z → BehindPrinted l t z
  unfolding rule
  all_printed l t h z e = subst (BehindPrinted l t) e (by_rule ImportNames (by_made refl (by_seq (name_printed l t h) (by_present (by_left (by_made refl (by_one dot_times_is)))))))

  -- one more name
  further_printed : (l : Limits) (t : Lexeme) → HoldsBy P IsToken name_token l t → (z : Imported) → ImportPrinted l z → BehindPrinted l t z
  unfolding rule
  further_printed l t h (names, taken) p = go names p (names_filled l (tokens_of (pieces_of_imported (names, taken))) (placeless_imported (names, taken)) p.spelled)
    where
      go : (names : List Lexeme) → ImportPrinted l (names, taken) → (u : Lexeme) × (more : List Lexeme) × (map placeless_token names ≡ u ∷ more) → BehindPrinted l t (names, taken)
      go [] p (u, more, e) = cc
      go (v ∷ names) p filled = by_rule ImportNames (by_made refl (by_seq (name_printed l t h) (by_present (by_right (by_behind dot_is (by_right (by_right p)))))))

  behind_printed : (l : Limits) (t : Lexeme) → HoldsBy P IsToken name_token l t → (z : Imported) → HoldsBy P IsToken behind_name l z → BehindPrinted l t z
  unfolding rule
  behind_printed l t h z (inl (all, one, e)) = all_printed l t h z e
  behind_printed l t h z (inr later) = go (behind_holds P IsToken dot behind_dot l z later)
    where
      go : HoldsBy P IsToken behind_dot l z → BehindPrinted l t z
      go (inl (all, one, e)) = all_printed l t h z e
      go (inr (inl (group, listed, e))) =
          let names = between_holds P IsToken open_brace close_brace group_form l group listed in
          subst (BehindPrinted l t) e
          (by_rule ImportNames (by_made refl (by_seq (name_printed l t h) (by_present (by_right (by_behind dot_is (by_right (by_left (by_made refl (by_between names.1 open_brace_is close_brace_is (group_printed names.0 group names.2)))))))))))
      go (inr (inr p)) = further_printed l t h z (inside l z p)

  pub import_names_step : (l : Limits) (x : Imported) → HoldsBy P IsToken (rule ImportNames) l x → ImportPrinted l x
  unfolding rule
  import_names_step l x ((t, o), h, e) = subst (ImportPrinted l) e (go o (optional_holds P IsToken behind_name l o h.1))
    where
      go : (o : Option Imported) → HoldsOption (HoldsBy P IsToken behind_name l) o → ImportPrinted l (imported (t, o))
      go None later = by_rule ImportNames (by_made refl (by_seq (name_printed l t h.0) by_absent))
      go (Some z) later = behind_printed l t h.0 z later

  -- ---- import clauses

  abbrev clause : Form Import
  clause = either2 ident (equals ∷ []) (made renamed_import (seq name_token (behind equals (symbol Names)))) (made import_of (symbol ImportNames))

  clause_printed : (l : Limits) (a : Import) → HoldsBy P IsToken clause l a → IsPrinted clause l (in_import a) (placeless_import a)
  clause_printed l a (inl ((t, names), h, e)) =
      let path = behind_holds P IsToken equals (symbol Names) l names h.1 in
      subst (λ v. IsPrinted clause l (in_import v) (placeless_import v)) e
      (by_left2 (by_made (renamed_placeless t names) (by_pieces (ap (λ v. a_name t.text ∷ spaced (a_mark (codes "=")) ++ v) (path_pieces names)) (by_seq (name_printed l t h.0) (after_blank (by_behind equals_is (after_blank (expressions.names l names path))))))))
  clause_printed l a (inr (x, h, e)) =
      subst (λ v. IsPrinted clause l (in_import v) (placeless_import v)) e (by_right2 (by_made (import_placeless x) (by_pieces (import_pieces x) (inside l x h))))

  pub import_clause_printed : (l : Limits) (a : Import) → HoldsBy P IsToken import_clause l a → IsPrinted import_clause l (pieces_of_import a) (placeless_import a)
  import_clause_printed l a h = by_behind import_word_is (after_blank (by_commented (clause_printed l a (commented_holds P IsToken clause l a (behind_holds P IsToken import_word (commented clause) l a h)))))
