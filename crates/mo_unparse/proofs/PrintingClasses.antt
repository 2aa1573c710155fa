-- What a class is in pieces spells it.
use Rattle.std.proofs.Common.{◌≡◌, IsTrue, [], ◌∷◌, map, inl, inr, Some, None, refl, sym, ap, subst, ◌∙◌, append_assoc, codes}
use Rattle.std.proofs.lemmas.Slice.Eq.{bytes_eq-Decides}
use Rattle.mo_syntax.specs.declared.class.Body.{Body}
use Rattle.mo_syntax.specs.declared.class.Body.TheVariants.{Long}
use Rattle.mo_syntax.specs.declared.class.ClassDefOf.{ClassDefOf}
use Rattle.mo_grammar.specs.Codes.{ident, extends_word, equals}
use Rattle.mo_grammar.specs.Lexeme.{Lexeme}
use Rattle.mo_grammar.specs.Grammar.{any_name, this_name, Limits, at_most, end_name_in, renamed, suits, either, token}
use Rattle.mo_grammar.specs.ClassTrees.{Inside, mods_or_none, text_of}
use Rattle.mo_grammar.specs.Symbols.{Symbol, ValueOf, Form, Compositions, ClassDefinitions}
use Rattle.mo_grammar.specs.Classes.{strings, long_spec, extends_spec, equals_spec, class_spec, der_spec, enumeration, short_class}
use Rattle.mo_grammar.specs.Productions.{rule}
use Rattle.mo_pieces.specs.Pieces.{IsToken, placeless_token}
use Rattle.mo_pieces.specs.Lines.{word_if}
use Rattle.mo_unparse.specs.PlacelessClasses.{placeless_body, placeless_item}
use Rattle.mo_pieces.specs.ShownClasses.{shown_body}
use Rattle.mo_unparse.proofs.ClassLayers as layers
use Rattle.mo_unparse.proofs.PlacelessClassForms as placeless_forms
use Rattle.mo_unparse.proofs.Holding.{Fact, HoldsBy}
use Rattle.mo_unparse.proofs.Building.{IsPrinted, after_blank, by_behind, by_empty, by_left, by_left2, by_made, by_name, by_nested, by_pieces, by_right, by_right2, by_rule, by_seq, by_under, by_value}
use Rattle.mo_unparse.proofs.WordPieces.{encapsulated_word_is, equals_is, extends_word_is}
use Rattle.mo_unparse.proofs.Inverting.{behind_holds}
use Rattle.mo_unparse.proofs.PrintingClassParts.{ClassPrinted, ModifiersPrinted, TypesPrinted, optional_mods}
use Rattle.mo_unparse.proofs.PrintingDerivatives.{der_printed}
use Rattle.mo_unparse.proofs.PrintingHeads.{by_word, kind_printed, kind_words}
use Rattle.mo_unparse.proofs.PrintingSections.{InsidePrinted, composition_printed}
use Rattle.mo_unparse.proofs.PrintingShort.{BodyPrinted, body_printed}

-- ---- the name of a class ends it

suits_itself : (l : Limits) (t : Lexeme) → IsTrue (suits (end_name_in (renamed t.text l)) t)
suits_itself (at_most n k any_name) t = refl
suits_itself (at_most n k (this_name outer)) t = (bytes_eq-Decides t.text t.text).1 refl

-- ---- what stands behind the head

abbrev SpecPrinted : Form (Lexeme × Body) → Limits → Lexeme × Body → Type 0
SpecPrinted g l x = IsPrinted g l (shown_body x.1 x.0.text) (placeless_token x.0, placeless_body x.1)

-- What is known of the parts of classes: what holds of what tokens spell (P) gives that the pieces spell it.
pub record ClassPartsPrinted (P : Fact Symbol ValueOf) : Type 0 where
  pub types : TypesPrinted P
  pub modifiers : ModifiersPrinted P
  pub inside : (l : Limits) (x : Inside) → P Compositions l x → InsidePrinted l x

no_strings : {l : Limits} → IsPrinted strings l [] tt
no_strings = by_right by_empty

module _ (P : Fact Symbol ValueOf) (parts : ClassPartsPrinted P) where
  long_printed : (l : Limits) (x : Lexeme × Body) → HoldsBy P IsToken long_spec l x → SpecPrinted long_spec l x
  long_printed l x ((t, inside), (h, (y, (hs, hc), same)), e) =
      let name = t.text in
      let whole = composition_printed (renamed name l) inside (parts.inside (renamed name l) inside (subst (P Compositions (renamed name l)) same hc)) t (h.0, h.1, suits_itself l t) in
      subst (SpecPrinted long_spec l) e
      (by_pieces (sym (layers.at_Long None inside.0 inside.1 name)) (by_value (ap (λ b. (placeless_token t, b)) (sym (placeless_forms.at_Long None inside.0 inside.1)))
      (by_made refl (by_under {called = text_of} (by_name t h.0 h.1) (by_made refl (by_seq no_strings whole))))))

  extends_printed : (l : Limits) (x : Lexeme × Body) → HoldsBy P IsToken extends_spec l x → SpecPrinted extends_spec l x
  extends_printed l x ((t, (o, inside)), (h, (hm, (y, (hs, hc), same))), e) =
      let name = t.text in
      let inner = renamed name l in
      let is = behind_holds P IsToken extends_word (token (ident ∷ [])) l t h in
      let mods = optional_mods P parts.types parts.modifiers inner o hm in
      let whole = composition_printed inner inside (parts.inside inner inside (subst (P Compositions inner) same hc)) t (is.0, is.1, suits_itself l t) in
      let value : Long (Some (mods_or_none mods.0)) (map placeless_item inside.0) inside.1 ≡ placeless_body (Long (Some (mods_or_none o)) inside.0 inside.1) =
      ap (λ m. Long (Some m) (map placeless_item inside.0) inside.1) mods.1 ∙ sym (placeless_forms.at_Long (Some (mods_or_none o)) inside.0 inside.1) in
      subst (SpecPrinted extends_spec l) e
      (by_pieces (sym (layers.at_Long (Some (mods_or_none o)) inside.0 inside.1 name))
      (by_made (ap (λ b. (placeless_token t, b)) value) (by_under {called = text_of} (by_behind extends_word_is (after_blank (by_name t is.0 is.1))) (by_seq mods.2 (by_made refl (by_seq no_strings whole))))))

  -- behind `=`
  body_behind : (l : Limits) (b : Body) → HoldsBy P IsToken (either der_spec (either enumeration short_class)) l b → BodyPrinted (either der_spec (either enumeration short_class)) l b
  body_behind l b (inl h) = let body = der_printed P parts.types l b h in record { pieces = body.pieces; named = body.named; printed = by_left body.printed }
  body_behind l b (inr h) = let body = body_printed P parts.types parts.modifiers l b h in record { pieces = body.pieces; named = body.named; printed = by_right body.printed }

  equals_printed : (l : Limits) (x : Lexeme × Body) → HoldsBy P IsToken equals_spec l x → SpecPrinted equals_spec l x
  equals_printed l x h =
      let body = body_behind l x.1 (behind_holds P IsToken equals (either der_spec (either enumeration short_class)) l x.1 h.1) in
      by_pieces (sym (body.named x.0.text)) (by_seq (by_name x.0 h.0.0 h.0.1) (after_blank (by_behind equals_is (after_blank body.printed))))

  spec_printed : (l : Limits) (x : Lexeme × Body) → HoldsBy P IsToken class_spec l x → SpecPrinted class_spec l x
  spec_printed l x (inl h) = by_left (extends_printed l x h)
  spec_printed l x (inr (inl h)) = by_right (by_left2 (equals_printed l x h))
  spec_printed l x (inr (inr h)) = by_right (by_right2 (long_printed l x h))

  pub class_step : (l : Limits) (class : ClassDefOf Body) → HoldsBy P IsToken (rule ClassDefinitions) l class → ClassPrinted l class
  unfolding rule
  class_step l class (inner, left, (y, h, e)) =
      let encapsulated = y.0 in
      let kind = y.1.0 in
      let spec = y.1.1 in
      subst (ClassPrinted l) e
      (by_rule ClassDefinitions (by_nested left
      (by_pieces (sym (append_assoc (word_if (codes "encapsulated") encapsulated) (kind_words kind) (shown_body spec.1 spec.0.text)))
      (by_made refl (by_seq (by_word encapsulated encapsulated_word_is) (by_seq (kind_printed P inner kind h.1.0) (spec_printed inner spec h.1.1)))))))
