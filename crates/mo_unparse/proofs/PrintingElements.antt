-- What the elements of a class are in pieces spells them, each by itself.
use Rattle.std.proofs.Common.{◌≡◌, ◌++◌, Bool, true, false, List, [], ◌∷◌, inl, inr, map, Option, Some, None, refl, sym, ap, subst, ◌∙◌, append-nil, append_assoc, codes}
use Rattle.std.specs.Option.{option_map}
use Rattle.mo_syntax.specs.declared.expr.Expr.{Expr}
use Rattle.mo_syntax.specs.declared.expr.ReferenceOf.{ReferenceOf}
use Rattle.mo_syntax.specs.declared.class.Body.{Body}
use Rattle.mo_syntax.specs.declared.class.ClassDefOf.{ClassDefOf}
use Rattle.mo_syntax.specs.declared.class.Element.{Element}
use Rattle.mo_syntax.specs.declared.class.ElementFlags.{ElementFlags}
use Rattle.mo_syntax.specs.declared.class.ExtendsOf.{ExtendsOf}
use Rattle.mo_syntax.specs.declared.class.Give.{Give}
use Rattle.mo_syntax.specs.declared.class.Import.{Import}
use Rattle.mo_syntax.specs.declared.class.Item.{Item}
use Rattle.mo_syntax.specs.declared.class.Item.TheVariants.{Import as import_item, Extends as extends_item, Member}
use Rattle.mo_syntax.specs.declared.class.Prefix.{Prefix}
use Rattle.mo_syntax.specs.declared.class.What.{What}
use Rattle.mo_syntax.specs.declared.class.What.TheVariants.{Class, Component}
use Rattle.mo_grammar.specs.Codes.{comma, extends_word, final_word, if_word, inner_word, outer_word, redeclare_word, replaceable_word}
use Rattle.mo_grammar.specs.Grammar.{Limits, either, made, seq, symbol}
use Rattle.mo_grammar.specs.Forms.{behind, first_of, flag, optional}
use Rattle.mo_grammar.specs.Trees.{or_nothing}
use Rattle.mo_grammar.specs.ClassTrees.{Components, Declared, Imported, Limit, Mods, Placed, binding_or_none, component_of, elements_of, extends_items, kept_whats, mods_or_none, replaceable_whats, whats_of_components}
use Rattle.mo_grammar.specs.Symbols.{Symbol, ValueOf, Form, ClassDefinitions, ClassMods, ElementItems, Expressions, ImportNames, Subscripts, TypeSpecs}
use Rattle.mo_grammar.specs.Classes.{annotation_part, commented, component, components, constraint, declaration, declares, import_clause, prefix}
use Rattle.mo_grammar.specs.Productions.{rule}
use Rattle.mo_pieces.specs.Pieces.{Piece, a_name, a_word, a_blank, placeless_token, IsToken}
use Rattle.mo_pieces.specs.Lines.{on_a_line, word_if}
use Rattle.mo_unparse.specs.Placeless.{placeless_option, placeless_reference}
use Rattle.mo_unparse.specs.PlacelessClasses.{placeless_component, placeless_extends, placeless_item, placeless_limit, placeless_what}
use Rattle.mo_pieces.specs.ShownExpressions.{pieces_of_reference, pieces_of_subscripts}
use Rattle.mo_pieces.specs.ShownModifiers.{pieces_of_binding}
use Rattle.mo_pieces.specs.ShownElements.{limit_with, pieces_of_condition, pieces_of_prefix, section_of}
use Rattle.mo_pieces.specs.ShownClasses.{pieces_of_element, pieces_of_mods, pieces_of_what, shown_give, shown_item}
use Rattle.mo_unparse.proofs.ClassLayers as layers
use Rattle.mo_unparse.proofs.PlacelessClassForms as placeless_forms
use Rattle.mo_unparse.proofs.Holding.{Fact, HoldsBy, HoldsEach, each_follows}
use Rattle.mo_unparse.proofs.Building.{IsPrinted, after_blank, after_line, by_absent, by_before, by_behind, by_left, by_made, by_none, by_pieces, by_present, by_right, by_rule, by_separated, by_seq, by_value}
use Rattle.mo_unparse.proofs.WordPieces.{extends_word_is, final_word_is, if_word_is, inner_word_is, outer_word_is, redeclare_word_is, replaceable_word_is, semicolon_is}
use Rattle.mo_unparse.proofs.Inverting.{HoldsOption, behind_holds, commented_holds, optional_holds, separated_holds}
use Rattle.mo_unparse.proofs.PrintingForms.{by_commented}
use Rattle.mo_unparse.proofs.PrintingParts.{ExpressionsPrinted}
use Rattle.mo_unparse.proofs.PrintingClassParts.{ClassPrinted, ModifiersPrinted, TypesPrinted, optional_mods, optional_subscripts}
use Rattle.mo_unparse.proofs.PrintingHeads.{by_word, prefix_printed}
use Rattle.mo_unparse.proofs.PrintingImports.{ImportPrinted, import_clause_printed}
use Rattle.mo_unparse.proofs.PrintingModifiers.{by_limit, component_same, constraint_printed, declaration_printed}
use Rattle.mo_unparse.proofs.PrintingSections.{ItemPrinted}

each_mapped : {A B : Type 0} (H : B → Type 0) (f : A → B) (list : List A) → HoldsEach (λ a. H (f a)) list → HoldsEach H (map f list)
each_mapped H f [] h = tt
each_mapped H f (a ∷ list) h = (h.0, each_mapped H f list h.1)

-- ---- what elements declare

-- what an element declares, by itself
abbrev WhatPrinted : Limits → What → Type 0
WhatPrinted l what = IsPrinted declares l (pieces_of_what what) (placeless_what what ∷ [])

-- the components of a list, behind what they share
abbrev whats_behind : (prefixes : Prefix) (base : ReferenceOf Expr) (base_subs : List (Option Expr)) → Declared × Option Expr → What
whats_behind prefixes base base_subs d = Component (component_of prefixes base base_subs d.0 d.1)

in_order : (t s m b c : List Piece) (n : Piece) → t ++ ((a_blank ∷ (n ∷ s ++ (m ++ b)) ++ c) ++ []) ≡ t ++ (a_blank ∷ n ∷ s ++ (m ++ (b ++ c)))
in_order t s m b c n =
    let alone : (a_blank ∷ (n ∷ s ++ (m ++ b)) ++ c) ++ [] ≡ a_blank ∷ (n ∷ s ++ (m ++ b)) ++ c = append-nil (a_blank ∷ (n ∷ s ++ (m ++ b)) ++ c) in
    let rest : (s ++ (m ++ b)) ++ c ≡ s ++ (m ++ (b ++ c)) = append_assoc s (m ++ b) c ∙ ap (λ v. s ++ v) (append_assoc m b c) in
    ap (λ v. t ++ v) (alone ∙ ap (λ v. a_blank ∷ n ∷ v) rest)

module _ (P : Fact Symbol ValueOf) (expressions : ExpressionsPrinted P) (types : TypesPrinted P) (modifiers : ModifiersPrinted P) where
  condition_printed : (l : Limits) (o : Option Expr) → HoldsBy P IsToken (optional (behind if_word (symbol Expressions))) l o → IsPrinted (optional (behind if_word (symbol Expressions))) l (pieces_of_condition o) (placeless_option o)
  condition_printed l o h = go o (optional_holds P IsToken (behind if_word (symbol Expressions)) l o h)
    where
      go : (o : Option Expr) → HoldsOption (HoldsBy P IsToken (behind if_word (symbol Expressions)) l) o → IsPrinted (optional (behind if_word (symbol Expressions))) l (pieces_of_condition o) (placeless_option o)
      go None h = by_absent
      go (Some e) h = by_present (after_blank (by_behind if_word_is (after_blank (expressions.expression l e (behind_holds P IsToken if_word (symbol Expressions) l e h)))))

  -- one component by itself, by what is known of all
  component_printed : (l : Limits) (x : Prefix × (ReferenceOf Expr × Option (List (Option Expr)))) → HoldsBy P IsToken (seq prefix (seq (symbol TypeSpecs) (optional (symbol Subscripts)))) l x → (d : Declared × Option Expr) → HoldsBy P IsToken component l d → WhatPrinted l (whats_behind x.0 x.1.0 (or_nothing x.1.1) d)
  component_printed l x shared d h =
      let parts = commented_holds P IsToken (seq declaration (optional (behind if_word (symbol Expressions)))) l d h in
      let declared = declaration_printed P expressions types modifiers l d.0 parts.0 in
      let condition = condition_printed l d.1 parts.1 in
      let base_subs = optional_subscripts P types modifiers l x.1.1 shared.1.1 in
      let binding = binding_or_none d.0.1.1 in
      let whole = component_of x.0 x.1.0 (or_nothing x.1.1) d.0 d.1 in
      let same : component_of x.0 (placeless_reference x.1.0) (or_nothing base_subs.0) (placeless_token d.0.0, (declared.subs, declared.binding)) (placeless_option d.1) ≡ placeless_component whole =
      ap (λ list. component_of x.0 (placeless_reference x.1.0) list (placeless_token d.0.0, (declared.subs, declared.binding)) (placeless_option d.1)) base_subs.1
      ∙ component_same x.0 x.1.0 (or_nothing x.1.1) d.0 d.1 declared.subs declared.binding declared.same_subs declared.same_binding in
      by_pieces (in_order (pieces_of_prefix x.0 ++ (pieces_of_reference x.1.0 ++ pieces_of_subscripts (or_nothing x.1.1))) (pieces_of_subscripts (or_nothing d.0.1.0)) (pieces_of_mods binding.0) (pieces_of_binding binding.1) (pieces_of_condition d.1) (a_name d.0.0.text) ∙ sym (layers.at_Component whole))
      (by_right (by_made (ap (λ what. what ∷ []) (ap Component same ∙ sym (placeless_forms.at_Component whole)))
      (by_seq (by_seq (prefix_printed P l x.0 shared.0) (by_seq (types.type_spec l x.1.0 shared.1.0) base_subs.2)) (by_separated (by_commented (by_seq (after_blank declared.printed) condition)) by_none))))

  components_printed : (l : Limits) (x : Components) → HoldsBy P IsToken components l x → HoldsEach (WhatPrinted l) (whats_of_components x)
  components_printed l (x, list) (shared, h) =
      let parts = separated_holds P IsToken comma component l list h in
      let each : HoldsEach (λ d. WhatPrinted l (whats_behind x.0 x.1.0 (or_nothing x.1.1) d)) (parts.0 ∷ parts.1) =
      (component_printed l x shared parts.0 parts.3, each_follows (HoldsBy P IsToken component l) (λ d. WhatPrinted l (whats_behind x.0 x.1.0 (or_nothing x.1.1) d)) (component_printed l x shared) parts.1 parts.4) in
      subst (λ v. HoldsEach (WhatPrinted l) (whats_of_components (x, v))) parts.2 (each_mapped (WhatPrinted l) (whats_behind x.0 x.1.0 (or_nothing x.1.1)) (parts.0 ∷ parts.1) each)

  declares_printed : (l : Limits) → ((class : ClassDefOf Body) → P ClassDefinitions l class → ClassPrinted l class) → (whats : List What) → HoldsBy P IsToken declares l whats → HoldsEach (WhatPrinted l) whats
  declares_printed l classes whats (inl (class, h, e)) =
      let printed : WhatPrinted l (Class class) = by_pieces (sym (layers.at_Class class)) (by_left (by_made (ap (λ what. what ∷ []) (sym (placeless_forms.at_Class class))) (classes class h))) in
      subst (HoldsEach (WhatPrinted l)) e (printed, tt)
  declares_printed l classes whats (inr (x, h, e)) = subst (HoldsEach (WhatPrinted l)) e (components_printed l x h)

-- ---- elements

abbrev flag_words : Form (Bool × (Bool × (Bool × Bool)))
flag_words = seq (flag redeclare_word) (seq (flag final_word) (seq (flag inner_word) (flag outer_word)))

abbrev FlagWords : Type 0
FlagWords = Bool × (Bool × (Bool × Bool))

abbrev flags_of : (hidden : Bool) → FlagWords → (replaceable : Bool) → ElementFlags
flags_of hidden flags replaceable = record { redeclare = flags.0; last = flags.1.0; inner = flags.1.1.0; outer = flags.1.1.1; replaceable = replaceable; hidden = hidden }

abbrev member_of : (hidden : Bool) → FlagWords → (replaceable : Bool) → Option Limit → What → Item
member_of hidden flags replaceable limit what = Member (record { flags = flags_of hidden flags replaceable; what = what; limit = limit })

abbrev flag_pieces : FlagWords → List Piece
flag_pieces flags = word_if (codes "redeclare") flags.0 ++ (word_if (codes "final") flags.1.0 ++ (word_if (codes "inner") flags.1.1.0 ++ word_if (codes "outer") flags.1.1.1))

flags_printed : (l : Limits) (flags : FlagWords) → IsPrinted flag_words l (flag_pieces flags) flags
flags_printed l flags = by_seq (by_word flags.0 redeclare_word_is) (by_seq (by_word flags.1.0 final_word_is) (by_seq (by_word flags.1.1.0 inner_word_is) (by_word flags.1.1.1 outer_word_is)))

flags_first : (a b c d e t : List Piece) → (a ++ (b ++ (c ++ d))) ++ (e ++ t) ≡ (a ++ (b ++ (c ++ (d ++ e)))) ++ t
flags_first a b c d e t = simp append_assoc

-- an item on its line, in the section that it wants
item_printed : (hidden : Bool) (l : Limits) (item placeless : Item) (ps : List Piece) → (shown_item item).section ≡ Some (section_of hidden) → (shown_item item).pieces ≡ on_a_line ps → placeless_item item ≡ placeless → IsPrinted (symbol (ElementItems hidden)) l ps (placeless ∷ []) → ItemPrinted hidden l item
item_printed hidden l item placeless ps s e q p = inl (s, by_pieces (sym e) (by_value (ap (λ i. i ∷ []) (sym q)) (after_line (by_before p semicolon_is))))

member_pieces : (hidden : Bool) (flags : FlagWords) (replaceable : Bool) (limit : Option Limit) (what : What) → flag_pieces flags ++ (word_if (codes "replaceable") replaceable ++ (pieces_of_what what ++ limit_with shown_give limit)) ≡ pieces_of_element (record { flags = flags_of hidden flags replaceable; what = what; limit = limit })
member_pieces hidden flags replaceable limit what =
    flags_first (word_if (codes "redeclare") flags.0) (word_if (codes "final") flags.1.0) (word_if (codes "inner") flags.1.1.0) (word_if (codes "outer") flags.1.1.1) (word_if (codes "replaceable") replaceable) (pieces_of_what what ++ limit_with shown_give limit)
    ∙ sym (layers.at_Element (record { flags = flags_of hidden flags replaceable; what = what; limit = limit }))

abbrev member_form : Form Placed
member_form = either (made replaceable_whats (behind replaceable_word (seq declares (optional (commented constraint))))) (made kept_whats declares)

-- a class or component by itself, where its parts are printed
member_printed : (hidden : Bool) (l : Limits) (flags : FlagWords) (replaceable : Bool) (limit : Option Limit) (what : What) → IsPrinted member_form l (word_if (codes "replaceable") replaceable ++ (pieces_of_what what ++ limit_with shown_give limit)) (placeless_what what ∷ [], (replaceable, option_map placeless_limit limit)) → ItemPrinted hidden l (member_of hidden flags replaceable limit what)
unfolding rule
member_printed hidden l flags replaceable limit what p =
    let whole : Element = record { flags = flags_of hidden flags replaceable; what = what; limit = limit } in
    item_printed hidden l (Member whole) (member_of hidden flags replaceable (option_map placeless_limit limit) (placeless_what what)) (pieces_of_element whole) (ap (λ s. s.section) (layers.at_Member whole) ∙ ap Some (layers.at_section whole)) (ap (λ s. s.pieces) (layers.at_Member whole))
    (placeless_forms.at_Member whole ∙ ap Member (placeless_forms.at_element (flags_of hidden flags replaceable) what limit))
    (by_rule (ElementItems hidden) (by_right (by_right (by_pieces (member_pieces hidden flags replaceable limit what) (by_made refl (by_seq (flags_printed l flags) p))))))

module _ (P : Fact Symbol ValueOf) (expressions : ExpressionsPrinted P) (types : TypesPrinted P) (modifiers : ModifiersPrinted P) (imports : (l : Limits) (x : Imported) → P ImportNames l x → ImportPrinted l x) where
  -- classes and components that are not replaceable
  kept_printed : (hidden : Bool) (l : Limits) (flags : FlagWords) (whats : List What) → HoldsEach (WhatPrinted l) whats → HoldsEach (ItemPrinted hidden l) (elements_of hidden (flags, kept_whats whats))
  kept_printed hidden l flags whats h =
      each_mapped (ItemPrinted hidden l) (member_of hidden flags false None) whats
      (each_follows (WhatPrinted l) (λ what. ItemPrinted hidden l (member_of hidden flags false None what)) (λ what p. member_printed hidden l flags false None what (by_pieces (sym (append-nil (pieces_of_what what))) (by_right (by_made refl p)))) whats h)

  -- those that are
  replaceable_printed : (hidden : Bool) (l : Limits) (flags : FlagWords) (limit : Option Limit) → HoldsBy P IsToken (optional (commented constraint)) l limit → (whats : List What) → HoldsEach (WhatPrinted l) whats → HoldsEach (ItemPrinted hidden l) (elements_of hidden (flags, replaceable_whats (whats, limit)))
  replaceable_printed hidden l flags limit hl whats h =
      let clause = by_limit (commented constraint) l (HoldsBy P IsToken (commented constraint) l) (λ limit h. by_commented (constraint_printed P expressions types modifiers l limit (commented_holds P IsToken constraint l limit h))) limit (optional_holds P IsToken (commented constraint) l limit hl) in
      each_mapped (ItemPrinted hidden l) (member_of hidden flags true limit) whats
      (each_follows (WhatPrinted l) (λ what. ItemPrinted hidden l (member_of hidden flags true limit what)) (λ what p. member_printed hidden l flags true limit what (by_left (by_made refl (by_behind replaceable_word_is (after_blank (by_seq p clause)))))) whats h)

  members_printed : (hidden : Bool) (l : Limits) → ((class : ClassDefOf Body) → P ClassDefinitions l class → ClassPrinted l class) → (flags : FlagWords) (x : Placed) → HoldsBy P IsToken member_form l x → HoldsEach (ItemPrinted hidden l) (elements_of hidden (flags, x))
  members_printed hidden l classes flags x (inl (y, h, e)) =
      let parts = behind_holds P IsToken replaceable_word (seq declares (optional (commented constraint))) l y h in
      subst (λ v. HoldsEach (ItemPrinted hidden l) (elements_of hidden (flags, v))) e (replaceable_printed hidden l flags y.1 parts.1 y.0 (declares_printed P expressions types modifiers l classes y.0 parts.0))
  members_printed hidden l classes flags x (inr (whats, h, e)) =
      subst (λ v. HoldsEach (ItemPrinted hidden l) (elements_of hidden (flags, v))) e (kept_printed hidden l flags whats (declares_printed P expressions types modifiers l classes whats h))

  -- an import stands in any section of elements
  import_printed : (hidden : Bool) (l : Limits) (a : Import) → HoldsBy P IsToken import_clause l a → ItemPrinted hidden l (import_item a)
  unfolding rule
  import_printed hidden l a h =
      inr (
        ap (λ s. s.section) (layers.at_Import a),
        λ other.
            by_pieces (sym (ap (λ s. s.pieces) (layers.at_Import a))) (by_value (ap (λ i. i ∷ []) (sym (placeless_forms.at_import_item a)))
            (after_line (by_before (by_rule (ElementItems other) (by_left (by_made refl (import_clause_printed P expressions imports l a h)))) semicolon_is))),
      )

  extends_printed : (hidden : Bool) (l : Limits) (y : ReferenceOf Expr × Option Mods) → HoldsBy P IsToken (seq (symbol TypeSpecs) (optional (symbol ClassMods))) l y → ItemPrinted hidden l (extends_item (record { base = y.0; mods = mods_or_none y.1; hidden = hidden }))
  unfolding rule
  extends_printed hidden l y h =
      let clause : ExtendsOf Give = record { base = y.0; mods = mods_or_none y.1; hidden = hidden } in
      let mods = optional_mods P types modifiers l y.1 h.1 in
      let ps = pieces_of_reference y.0 ++ pieces_of_mods (mods_or_none y.1) in
      let same : extends_items hidden (placeless_reference y.0, mods.0) ≡ extends_item (placeless_extends clause) ∷ [] =
      ap (λ m. let c : ExtendsOf Give = record { base = placeless_reference y.0; mods = m; hidden = hidden } in extends_item c ∷ []) mods.1 in
      item_printed hidden l (extends_item clause) (extends_item (placeless_extends clause)) (a_word (codes "extends") ∷ a_blank ∷ ps) (ap (λ s. s.section) (layers.at_Extends clause)) (ap (λ s. s.pieces) (layers.at_Extends clause)) (placeless_forms.at_extends_item clause)
      (by_rule (ElementItems hidden) (by_right (by_left (by_made same (by_behind extends_word_is (after_blank (by_pieces (append-nil ps) (by_made refl (by_seq (by_seq (types.type_spec l y.0 h.0) mods.2) by_absent)))))))))

  -- each item of an element by itself, where classes in it are printed
  pub elements_step : (hidden : Bool) (l : Limits) → ((class : ClassDefOf Body) → P ClassDefinitions l class → ClassPrinted l class) → (items : List Item) → HoldsBy P IsToken (rule (ElementItems hidden)) l items → HoldsEach (ItemPrinted hidden l) items
  unfolding rule
  elements_step hidden l classes items (inl (a, h, e)) = subst (HoldsEach (ItemPrinted hidden l)) e (import_printed hidden l a h, tt)
  elements_step hidden l classes items (inr (inl (y, h, e))) =
      let parts = behind_holds P IsToken extends_word (made first_of (seq (seq (symbol TypeSpecs) (optional (symbol ClassMods))) (optional annotation_part))) l y h in
      let base : HoldsBy P IsToken (seq (symbol TypeSpecs) (optional (symbol ClassMods))) l y = subst (HoldsBy P IsToken (seq (symbol TypeSpecs) (optional (symbol ClassMods))) l) parts.2 parts.1.0 in
      subst (HoldsEach (ItemPrinted hidden l)) e (extends_printed hidden l y base, tt)
  elements_step hidden l classes items (inr (inr ((flags, x), h, e))) = subst (HoldsEach (ItemPrinted hidden l)) e (members_printed hidden l classes flags x h.1)
