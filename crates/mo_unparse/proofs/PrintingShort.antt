-- What short classes are in pieces spells them.
use Rattle.std.proofs.Common.{◌≡◌, ◌++◌, ℕ, List, [], ◌∷◌, inl, inr, map, Option, Some, None, refl, sym, ap, subst, ◌∙◌, codes}
use Rattle.mo_syntax.specs.declared.class.Body.{Body}
use Rattle.mo_syntax.specs.declared.class.Body.TheVariants.{Short}
use Rattle.mo_grammar.specs.Lexeme.{Lexeme}
use Rattle.mo_grammar.specs.Codes.{close_paren, colon, comma, enumeration_word, equals, ident, open_paren}
use Rattle.mo_grammar.specs.Grammar.{Limits, either, made, symbol, token}
use Rattle.mo_grammar.specs.Forms.{behind, between, optional}
use Rattle.mo_grammar.specs.Trees.{or_nothing}
use Rattle.mo_grammar.specs.ClassTrees.{listed_enumeration, mods_or_none, open_enumeration, short_body, text_of, way_or_neither}
use Rattle.mo_grammar.specs.Symbols.{Symbol, ValueOf, Form, ClassMods}
use Rattle.mo_grammar.specs.Classes.{commented, enumeration, literals, short_class, short_spec}
use Rattle.mo_pieces.specs.Pieces.{Piece, a_name, a_word, a_mark, IsToken}
use Rattle.mo_unparse.specs.Placeless.{placeless_reference}
use Rattle.mo_unparse.specs.PlacelessClasses.{placeless_body}
use Rattle.mo_pieces.specs.Pieces.{placeless_token}
use Rattle.mo_pieces.specs.ShownExpressions.{a_comma, in_parentheses, pieces_of_reference, pieces_of_subscripts, spaced}
use Rattle.mo_pieces.specs.ShownModifiers.{pieces_of_name}
use Rattle.mo_pieces.specs.ShownElements.{pieces_of_causal}
use Rattle.mo_pieces.specs.ShownClasses.{pieces_of_literals, pieces_of_mods, shown_body}
use Rattle.mo_unparse.proofs.ClassLayers as layers
use Rattle.mo_unparse.proofs.PlacelessClassForms as placeless_forms
use Rattle.mo_unparse.proofs.PlacelessForms.{both_same}
use Rattle.mo_unparse.proofs.Holding.{Fact, HoldsBy, each_follows}
use Rattle.mo_unparse.proofs.Building.{IsPrinted, after_blank, by_absent, by_behind, by_between, by_left, by_made, by_name, by_one, by_pieces, by_present, by_right, by_seq, by_value}
use Rattle.mo_unparse.proofs.WordPieces.{close_paren_is, colon_is, comma_is, enumeration_word_is, equals_is, open_paren_is}
use Rattle.mo_unparse.proofs.Inverting.{HoldsOption, behind_holds, between_holds, commented_holds, optional_holds, separated_holds}
use Rattle.mo_unparse.proofs.PrintingForms.{by_commented, by_joined}
use Rattle.mo_unparse.proofs.PrintingClassParts.{ModifiersPrinted, TypesPrinted, optional_mods, optional_subscripts}
use Rattle.mo_unparse.proofs.PrintingHeads.{way_printed}

-- A body in pieces, behind the name of the class and `=`.
pub record BodyPrinted (g : Form Body) (l : Limits) (b : Body) : Type 0 where
  pub pieces : List Piece
  pub named : (name : List ℕ) → shown_body b name ≡ a_name name ∷ spaced (a_mark (codes "=")) ++ pieces
  pub printed : IsPrinted g l pieces (placeless_body b)

-- ---- enumerations

abbrev listing : Form (Option (List (List ℕ)))
listing = either (made open_enumeration (token (colon ∷ []))) (made listed_enumeration (optional literals))

abbrev one_literal : Form (List ℕ)
one_literal = commented (made text_of (token (ident ∷ [])))

all_same : {A : Type 0} (xs : List A) → map (λ x. x) xs ≡ xs
all_same [] = refl
all_same (x ∷ xs) = ap (λ v. x ∷ v) (all_same xs)

module _ (P : Fact Symbol ValueOf) where
  literal_printed : (l : Limits) (text : List ℕ) → HoldsBy P IsToken one_literal l text → IsPrinted one_literal l (pieces_of_name text) text
  literal_printed l text h = go (commented_holds P IsToken (made text_of (token (ident ∷ []))) l text h)
    where
      go : HoldsBy P IsToken (made text_of (token (ident ∷ []))) l text → IsPrinted one_literal l (pieces_of_name text) text
      go (t, h, e) = subst (λ v. IsPrinted one_literal l (pieces_of_name v) v) e (by_commented (by_made refl (by_name t h.0 h.1)))

  literals_printed : (l : Limits) (list : List (List ℕ)) → HoldsBy P IsToken literals l list → IsPrinted literals l (pieces_of_literals (Some list)) list
  literals_printed l list h =
      let parts = separated_holds P IsToken comma one_literal l list h in
      subst (λ v. IsPrinted literals l (pieces_of_literals (Some v)) v) parts.2
      (by_value (all_same (parts.0 ∷ parts.1)) (by_joined a_comma pieces_of_name (λ text. text) (λ text p. by_behind comma_is (after_blank p)) parts.0 parts.1 (literal_printed l parts.0 parts.3)
      (each_follows (HoldsBy P IsToken one_literal l) (λ text. IsPrinted one_literal l (pieces_of_name text) text) (literal_printed l) parts.1 parts.4)))

  listing_printed : (l : Limits) (o : Option (List (List ℕ))) → HoldsBy P IsToken listing l o → IsPrinted listing l (pieces_of_literals o) o
  listing_printed l o (inl (t, h, e)) = subst (λ v. IsPrinted listing l (pieces_of_literals v) v) e (by_left (by_made refl (by_one colon_is)))
  listing_printed l o (inr (list, h, e)) = subst (λ v. IsPrinted listing l (pieces_of_literals v) v) e (go list (optional_holds P IsToken literals l list h))
    where
      go : (list : Option (List (List ℕ))) → HoldsOption (HoldsBy P IsToken literals l) list → IsPrinted listing l (pieces_of_literals (listed_enumeration list)) (listed_enumeration list)
      go None h = by_right (by_made refl by_absent)
      go (Some list) h = by_right (by_made refl (by_present (literals_printed l list h)))

  pub enumeration_printed : (l : Limits) (b : Body) → HoldsBy P IsToken enumeration l b → BodyPrinted enumeration l b
  enumeration_printed l b (o, h, e) =
      let inside = between_holds P IsToken open_paren close_paren listing l o (behind_holds P IsToken enumeration_word (between open_paren close_paren listing) l o (commented_holds P IsToken (behind enumeration_word (between open_paren close_paren listing)) l o h)) in
      subst (BodyPrinted enumeration l) e (record {
        pieces = a_word (codes "enumeration") ∷ in_parentheses (pieces_of_literals o);
        named = layers.at_Enumeration o;
        printed = by_made (sym (placeless_forms.at_Enumeration o)) (by_commented (by_behind enumeration_word_is (by_between inside.1 open_paren_is close_paren_is (listing_printed inside.0 o inside.2))));
      })

-- ---- classes by the name of another

module _ (P : Fact Symbol ValueOf) (types : TypesPrinted P) (modifiers : ModifiersPrinted P) where
  pub short_printed : (l : Limits) (b : Body) → HoldsBy P IsToken short_class l b → BodyPrinted short_class l b
  short_printed l b (y, h, e) =
      let subs = optional_subscripts P types modifiers l y.1.1.0 h.1.1.0 in
      let mods = optional_mods P types modifiers l y.1.1.1 (commented_holds P IsToken (optional (symbol ClassMods)) l y.1.1.1 h.1.1.1) in
      let same : Short (way_or_neither y.0) (placeless_reference y.1.0) (or_nothing subs.0) (mods_or_none mods.0) ≡ placeless_body (short_body y) =
      both_same (Short (way_or_neither y.0) (placeless_reference y.1.0)) _ _ _ _ subs.1 mods.1 ∙ sym (placeless_forms.at_Short (way_or_neither y.0) y.1.0 (or_nothing y.1.1.0) (mods_or_none y.1.1.1)) in
      subst (BodyPrinted short_class l) e (record {
        pieces = pieces_of_causal (way_or_neither y.0) ++ (pieces_of_reference y.1.0 ++ (pieces_of_subscripts (or_nothing y.1.1.0) ++ pieces_of_mods (mods_or_none y.1.1.1)));
        named = layers.at_Short (way_or_neither y.0) y.1.0 (or_nothing y.1.1.0) (mods_or_none y.1.1.1);
        printed = by_made same (by_seq (way_printed P l y.0 h.0) (by_seq (types.type_spec l y.1.0 h.1.0) (by_seq subs.2 (by_commented mods.2))));
      })

  -- what stands behind `=` in an argument
  pub body_printed : (l : Limits) (b : Body) → HoldsBy P IsToken (either enumeration short_class) l b → BodyPrinted (either enumeration short_class) l b
  body_printed l b (inl h) = let body = enumeration_printed P l b h in record { pieces = body.pieces; named = body.named; printed = by_left body.printed }
  body_printed l b (inr h) = let body = short_printed l b h in record { pieces = body.pieces; named = body.named; printed = by_right body.printed }

  pub short_spec_printed : (l : Limits) (x : Lexeme × Body) → HoldsBy P IsToken short_spec l x → IsPrinted short_spec l (shown_body x.1 x.0.text) (placeless_token x.0, placeless_body x.1)
  short_spec_printed l x h =
      let body = body_printed l x.1 (behind_holds P IsToken equals (either enumeration short_class) l x.1 h.1) in
      by_pieces (sym (body.named x.0.text)) (by_seq (by_name x.0 h.0.0 h.0.1) (after_blank (by_behind equals_is (after_blank body.printed))))
