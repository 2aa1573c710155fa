-- What modifiers and their arguments are in pieces spells them.
use Rattle.std.proofs.Common.{◌≡◌, ◌++◌, Bool, true, false, List, [], ◌∷◌, inl, inr, map, Option, Some, None, refl, sym, ap, subst, ◌∙◌, append-nil, append_assoc, codes}
use Rattle.std.specs.Option.{option_map}
use Rattle.mo_syntax.specs.declared.place.Place.{Place}
use Rattle.mo_syntax.specs.declared.expr.Expr.{Expr}
use Rattle.mo_syntax.specs.declared.expr.ReferenceOf.{ReferenceOf}
use Rattle.mo_syntax.specs.declared.class.ArgumentOf.{ArgumentOf}
use Rattle.mo_syntax.specs.declared.class.ComponentOf.{ComponentOf}
use Rattle.mo_syntax.specs.declared.class.Element.{Element}
use Rattle.mo_syntax.specs.declared.class.ElementFlags.{ElementFlags}
use Rattle.mo_syntax.specs.declared.class.Give.{Give}
use Rattle.mo_syntax.specs.declared.class.Give.TheVariants.{Modify, Redeclare, Replaceable}
use Rattle.mo_syntax.specs.declared.class.Prefix.{Prefix}
use Rattle.mo_syntax.specs.declared.class.What.{What}
use Rattle.mo_syntax.specs.declared.class.What.TheVariants.{Component}
use Rattle.mo_grammar.specs.Lexeme.{Lexeme}
use Rattle.mo_grammar.specs.Codes.{assigns, close_paren, comma, constrainedby_word, each_word, equals, final_word, open_paren, redeclare_word, replaceable_word}
use Rattle.mo_grammar.specs.Grammar.{a_construct, Limits, left_inside, either, made, placed, seq, symbol}
use Rattle.mo_grammar.specs.Forms.{behind, first_of, flag, optional, separated}
use Rattle.mo_grammar.specs.Trees.{or_nothing}
use Rattle.mo_grammar.specs.ClassTrees.{Argued, Binding, Declared, Declares, Limit, Mods, argument_element, argument_of, binding_or_none, class_named, component_of, declares_class, declares_component, modifies, mods_of, mods_or_none, path_of, redeclares, redeclares_replaceable, replaces, text_of}
use Rattle.mo_grammar.specs.Symbols.{Symbol, ValueOf, Form, ClassMods, Expressions, ModArguments, Names, TypeSpecs}
use Rattle.mo_grammar.specs.Classes.{argument_declares, class_prefixes, component1, constraint, declaration, modification, replaceable_arg, short_spec, strings}
use Rattle.mo_grammar.specs.Productions.{rule}
use Rattle.mo_pieces.specs.Pieces.{Piece, a_name, a_word, a_blank, nowhere, placeless_token, IsToken}
use Rattle.mo_pieces.specs.Lines.{word_if}
use Rattle.mo_unparse.specs.Placeless.{placeless_expr, placeless_option, placeless_options, placeless_reference}
use Rattle.mo_unparse.specs.PlacelessClasses.{placeless_argument, placeless_component, placeless_give, placeless_limit, placeless_mods, placeless_what}
use Rattle.mo_pieces.specs.ShownExpressions.{a_comma, pieces_of_reference, pieces_of_subscripts}
use Rattle.mo_pieces.specs.ShownModifiers.{arguments_with, pieces_of_binding, pieces_of_path}
use Rattle.mo_pieces.specs.ShownElements.{limit_with, pieces_of_prefix}
use Rattle.mo_pieces.specs.ShownClasses.{head_of, pieces_of_argument, pieces_of_element, pieces_of_mods, pieces_of_what, shown_body, shown_give}
use Rattle.mo_unparse.proofs.ClassLayers as layers
use Rattle.mo_unparse.proofs.PlacelessClassForms as placeless_forms
use Rattle.mo_unparse.proofs.PlacelessForms.{both_same, map_twice}
use Rattle.mo_unparse.proofs.Holding.{Fact, HoldsBy, HoldsEach, each_follows}
use Rattle.mo_unparse.proofs.Building.{IsPrinted, after_blank, by_absent, by_behind, by_between, by_empty, by_left, by_made, by_name, by_piece, by_pieces, by_placed, by_present, by_right, by_rule, by_seq}
use Rattle.mo_unparse.proofs.WordPieces.{close_paren_is, comma_is, constrainedby_word_is, each_word_is, equals_is, final_word_is, open_paren_is, redeclare_word_is, replaceable_word_is}
use Rattle.mo_unparse.proofs.Inverting.{HoldsOption, behind_holds, between_holds, commented_holds, optional_holds, separated_holds}
use Rattle.mo_unparse.proofs.PrintingForms.{by_commented, by_joined}
use Rattle.mo_unparse.proofs.PrintingParts.{ExpressionsPrinted, pieces_of_names}
use Rattle.mo_unparse.proofs.PrintingClassParts.{ArgumentPrinted, ModifiersPrinted, ModsPrinted, TypesPrinted, names_same, optional_mods, optional_subscripts}
use Rattle.mo_unparse.proofs.PrintingHeads.{by_word, kind_open, kind_printed, kind_words, prefix_printed}
use Rattle.mo_unparse.proofs.PrintingShort.{short_spec_printed}

-- ---- modifications

abbrev placeless_binding : Binding → Binding
placeless_binding b = (placeless_mods b.0, placeless_option b.1)

abbrev binding_pieces : Binding → List Piece
binding_pieces b = pieces_of_mods b.0 ++ pieces_of_binding b.1

-- a modification in pieces, as a value that stands there or not
abbrev pub OptionalBinding : Limits → Binding → Type 0
OptionalBinding l b = (o : Option Binding) × (binding_or_none o ≡ placeless_binding b) × IsPrinted (optional modification) l (binding_pieces b) o

-- an identifier, its dimensions and its modification, in pieces
abbrev pub declared_pieces : Declared → List Piece
declared_pieces d = a_name d.0.text ∷ pieces_of_subscripts (or_nothing d.1.0) ++ binding_pieces (binding_or_none d.1.1)

-- what is printed for them
pub record DeclaredPrinted (l : Limits) (d : Declared) : Type 0 where
  pub subs : Option (List (Option Expr))
  pub binding : Option Binding
  pub same_subs : or_nothing subs ≡ placeless_options (or_nothing d.1.0)
  pub same_binding : binding_or_none binding ≡ placeless_binding (binding_or_none d.1.1)
  pub printed : IsPrinted declaration l (declared_pieces d) (placeless_token d.0, (subs, binding))

module _ (P : Fact Symbol ValueOf) (expressions : ExpressionsPrinted P) (types : TypesPrinted P) (modifiers : ModifiersPrinted P) where
  value_printed : (l : Limits) (v : Option Expr) → HoldsOption (P Expressions l) v → IsPrinted (optional (behind equals (symbol Expressions))) l (pieces_of_binding v) (placeless_option v)
  value_printed l None h = by_absent
  value_printed l (Some e) h = by_present (after_blank (by_behind equals_is (after_blank (expressions.expression l e h))))

  modified_by : (l : Limits) (m : Mods) (list : List (ArgumentOf Give)) → m.0 ≡ list → (v : Option Expr) → ModsPrinted l m → HoldsOption (P Expressions l) v → OptionalBinding l (m, v)
  modified_by l m (a ∷ more) e v hm hv = (Some (placeless_mods m, placeless_option v), refl, by_present (by_left (by_seq (hm a more e) (value_printed l v hv))))
  modified_by l m [] e None hm hv =
      let none : binding_or_none None ≡ (placeless_mods m, None) = ap (λ list. let b : Binding = (record { 0 = map placeless_argument list }, None) in b) (sym e) in
      (None, none, by_pieces (ap (λ list. arguments_with shown_give list ++ []) (sym e)) by_absent)
  modified_by l m [] e (Some x) hm hv =
      let token = (by_piece {l = l} {codes = equals ∷ assigns ∷ []} equals_is refl) in
      let some : (let b : Binding = (mods_or_none None, Some (placeless_expr x)) in b) ≡ (placeless_mods m, Some (placeless_expr x)) = ap (λ list. let b : Binding = (record { 0 = map placeless_argument list }, Some (placeless_expr x)) in b) (sym e) in
      (Some (mods_or_none None, Some (placeless_expr x)), some, by_pieces (ap (λ list. arguments_with shown_give list ++ pieces_of_binding (Some x)) (sym e)) (by_present (by_right (by_made refl (after_blank (by_seq token (after_blank (expressions.expression l x hv))))))))

  option_behind : (c : _) (l : Limits) (v : Option Expr) → HoldsBy P IsToken (optional (behind c (symbol Expressions))) l v → HoldsOption (P Expressions l) v
  option_behind c l v h = go v (optional_holds P IsToken (behind c (symbol Expressions)) l v h)
    where
      go : (v : Option Expr) → HoldsOption (HoldsBy P IsToken (behind c (symbol Expressions)) l) v → HoldsOption (P Expressions l) v
      go None h = tt
      go (Some e) h = behind_holds P IsToken c (symbol Expressions) l e h

  modification_parts : (l : Limits) (b : Binding) → HoldsBy P IsToken modification l b → ModsPrinted l b.0 × HoldsOption (P Expressions l) b.1
  modification_parts l b (inl h) = (modifiers.mods l b.0 h.0, option_behind equals l b.1 h.1)
  modification_parts l b (inr (x, h, e)) = subst (λ v. ModsPrinted l v.0 × HoldsOption (P Expressions l) v.1) e ((λ a more none. cc), h.1)

  pub modification_printed : (l : Limits) (o : Option Binding) → HoldsBy P IsToken (optional modification) l o → OptionalBinding l (binding_or_none o)
  modification_printed l o h = go o (optional_holds P IsToken modification l o h)
    where
      go : (o : Option Binding) → HoldsOption (HoldsBy P IsToken modification l) o → OptionalBinding l (binding_or_none o)
      go None h = (None, refl, by_absent)
      go (Some b) h = let parts = modification_parts l b h in modified_by l b.0 b.0.0 refl b.1 parts.0 parts.1

  pub declaration_printed : (l : Limits) (d : Declared) → HoldsBy P IsToken declaration l d → DeclaredPrinted l d
  declaration_printed l d h =
      let subs = optional_subscripts P types modifiers l d.1.0 h.1.0 in
      let binding = modification_printed l d.1.1 h.1.1 in
      record { subs = subs.0; binding = binding.0; same_subs = subs.1; same_binding = binding.1; printed = by_seq (by_name d.0 h.0.0 h.0.1) (by_seq subs.2 binding.2) }

-- ---- components

-- a component without its places
pub component_same : (prefixes : Prefix) (base : ReferenceOf Expr) (base_subs : List (Option Expr)) (d : Declared) (condition : Option Expr) (subs : Option (List (Option Expr))) (binding : Option Binding) → or_nothing subs ≡ placeless_options (or_nothing d.1.0) → binding_or_none binding ≡ placeless_binding (binding_or_none d.1.1) →
    component_of prefixes (placeless_reference base) (placeless_options base_subs) (placeless_token d.0, (subs, binding)) (placeless_option condition) ≡ placeless_component (component_of prefixes base base_subs d condition)
component_same prefixes base base_subs d condition subs binding e k =
    both_same (λ list b. let c : ComponentOf Give = record {
      prefix = prefixes;
      base = placeless_reference base;
      base_subs = placeless_options base_subs;
      name = d.0.text;
      place = nowhere;
      subs = list;
      mods = b.0;
      binding = b.1;
      condition = placeless_option condition;
    } in c) _ _ _ _ e k

one_component : (p r s m b : List Piece) (n : Piece) → p ++ (r ++ (a_blank ∷ n ∷ s ++ (m ++ b))) ≡ (p ++ (r ++ [])) ++ (a_blank ∷ n ∷ s ++ (m ++ (b ++ [])))
one_component p r s m b n = simp (append_assoc, append-nil)

-- what an argument declares, in pieces
abbrev DeclaresPrinted : Form Declares → Limits → Declares → Type 0
DeclaresPrinted g l d = IsPrinted g l (pieces_of_what d.1) (placeless_token d.0, placeless_what d.1)

-- a constraining clause in pieces
abbrev pub LimitPrinted : Form Limit → Limits → Limit → Type 0
LimitPrinted g l limit = IsPrinted g l (limit_with shown_give (Some limit)) (placeless_limit limit)

-- one that may be left out
pub by_limit : (g : Form Limit) (l : Limits) (H : Limit → Type 0) → ((limit : Limit) → H limit → LimitPrinted g l limit) → (o : Option Limit) → HoldsOption H o → IsPrinted (optional g) l (limit_with shown_give o) (option_map placeless_limit o)
by_limit g l H k None h = by_absent
by_limit g l H k (Some limit) h = by_present (k limit h)

-- ---- what arguments are in pieces and without places

abbrev replaceable_pieces : What → Option Limit → List Piece
replaceable_pieces what limit = a_word (codes "replaceable") ∷ a_blank ∷ pieces_of_what what ++ limit_with shown_give limit

abbrev flags_before : (each last : Bool) → List Piece → List Piece
flags_before each last ps = word_if (codes "each") each ++ (word_if (codes "final") last ++ ps)

redeclared : (element : Element) (each last : Bool) (name ps : List Piece) → pieces_of_element element ≡ ps → a_word (codes "redeclare") ∷ a_blank ∷ flags_before each last ps ≡ shown_give (Redeclare element) (word_if (codes "each") each ++ word_if (codes "final") last) name
redeclared element each last name ps e =
    let flags = word_if (codes "each") each ++ word_if (codes "final") last in
    ap (λ v. a_word (codes "redeclare") ∷ a_blank ∷ v) (sym (append_assoc (word_if (codes "each") each) (word_if (codes "final") last) ps) ∙ ap (λ v. flags ++ v) (sym e)) ∙ sym (layers.at_Redeclare element flags name)

replaced : (element : Element) (each last : Bool) (name ps : List Piece) → pieces_of_element element ≡ ps → flags_before each last ps ≡ shown_give (Replaceable element) (word_if (codes "each") each ++ word_if (codes "final") last) name
replaced element each last name ps e =
    let flags = word_if (codes "each") each ++ word_if (codes "final") last in
    sym (append_assoc (word_if (codes "each") each) (word_if (codes "final") last) ps) ∙ ap (λ v. flags ++ v) (sym e) ∙ sym (layers.at_Replaceable element flags name)

modified : (each last : Bool) (names : List Lexeme) (b : Binding) → flags_before each last ((pieces_of_names names ++ binding_pieces b) ++ []) ≡ shown_give (Modify b.0 b.1) (word_if (codes "each") each ++ word_if (codes "final") last) (pieces_of_path (path_of names))
modified each last names b =
    let flags = word_if (codes "each") each ++ word_if (codes "final") last in
    let alone : (pieces_of_names names ++ binding_pieces b) ++ [] ≡ pieces_of_names names ++ binding_pieces b = append-nil (pieces_of_names names ++ binding_pieces b) in
    ap (flags_before each last) (alone ∙ ap (λ v. v ++ binding_pieces b) (sym (names_same names))) ∙ sym (append_assoc (word_if (codes "each") each) (word_if (codes "final") last) (pieces_of_path (path_of names) ++ binding_pieces b))
    ∙ sym (layers.at_Modify b.0 b.1 flags (pieces_of_path (path_of names)))

abbrev argument_giving : (each last : Bool) → List Lexeme → Give → ArgumentOf Give
argument_giving each last names give = record { each = each; last = last; name = path_of names; place = nowhere; give = give }

abbrev flags_of : Bool → ElementFlags
flags_of replaceable = record { redeclare = false; last = false; inner = false; outer = false; replaceable = replaceable; hidden = false }

redeclares_same : (replaceable each last : Bool) (d : Declares) (limit : Option Limit) → argument_giving each last (d.0 ∷ []) (Redeclare (argument_element replaceable (placeless_what d.1) (option_map placeless_limit limit))) ≡ argument_giving each last (d.0 ∷ []) (placeless_give (Redeclare (argument_element replaceable d.1 limit)))
redeclares_same replaceable each last d limit = ap (argument_giving each last (d.0 ∷ [])) (sym (placeless_forms.at_Redeclare (argument_element replaceable d.1 limit) ∙ ap Redeclare (placeless_forms.at_element (flags_of replaceable) d.1 limit)))

replaces_same : (each last : Bool) (d : Declares) (limit : Option Limit) → argument_giving each last (d.0 ∷ []) (Replaceable (argument_element true (placeless_what d.1) (option_map placeless_limit limit))) ≡ argument_giving each last (d.0 ∷ []) (placeless_give (Replaceable (argument_element true d.1 limit)))
replaces_same each last d limit = ap (argument_giving each last (d.0 ∷ [])) (sym (placeless_forms.at_Replaceable (argument_element true d.1 limit) ∙ ap Replaceable (placeless_forms.at_element (flags_of true) d.1 limit)))

modifies_same : (each last : Bool) (place : Place) (names : List Lexeme) (b : Binding) (o : Option Binding) → binding_or_none o ≡ placeless_binding b → argument_of (each, (last, modifies ((nowhere, map placeless_token names), o))) ≡ placeless_argument (argument_of (each, (last, ((place, names), Modify b.0 b.1))))
modifies_same each last place names b o e =
    let texts : map text_of (map placeless_token names) ≡ map text_of names = map_twice placeless_token text_of text_of (λ t. refl) names in
    both_same (λ name give. let a : ArgumentOf Give = record { each = each; last = last; name = record { 0 = name }; place = nowhere; give = give } in a) _ _ _ _ texts
    (ap (λ b. Modify b.0 b.1) e ∙ sym (placeless_forms.at_Modify b.0 b.1))

-- what stands behind `redeclare`, and what stands without it
abbrev redeclaration : Form (Bool × (Bool × Argued))
redeclaration = seq (flag each_word) (seq (flag final_word) (either (made redeclares_replaceable replaceable_arg) (made redeclares argument_declares)))

abbrev giving : Form (Bool × (Bool × Argued))
giving = seq (flag each_word) (seq (flag final_word) (either (made replaces replaceable_arg) (made modifies (made first_of (seq (seq (placed (symbol Names)) (optional modification)) strings)))))

module _ (P : Fact Symbol ValueOf) (expressions : ExpressionsPrinted P) (types : TypesPrinted P) (modifiers : ModifiersPrinted P) where
  component1_printed : (l : Limits) (d : Declares) → HoldsBy P IsToken component1 l d → DeclaresPrinted component1 l d
  component1_printed l d (y, h, e) =
      let declared = declaration_printed P expressions types modifiers l y.1.1 (commented_holds P IsToken declaration l y.1.1 h.1.1) in
      let binding = binding_or_none y.1.1.1.1 in
      let same = component_same y.0 y.1.0 [] y.1.1 None declared.subs declared.binding declared.same_subs declared.same_binding in
      let value : declares_component (y.0, (placeless_reference y.1.0, (placeless_token y.1.1.0, (declared.subs, declared.binding)))) ≡ (placeless_token y.1.1.0, placeless_what (declares_component y).1) =
      ap (λ what. (placeless_token y.1.1.0, what)) (ap Component same ∙ sym (placeless_forms.at_Component (component_of y.0 y.1.0 [] y.1.1 None))) in
      subst (DeclaresPrinted component1 l) e
      (by_pieces (one_component (pieces_of_prefix y.0) (pieces_of_reference y.1.0) (pieces_of_subscripts (or_nothing y.1.1.1.0)) (pieces_of_mods binding.0) (pieces_of_binding binding.1) (a_name y.1.1.0.text) ∙ sym (layers.at_Component (component_of y.0 y.1.0 [] y.1.1 None)))
      (by_made value (by_seq (prefix_printed P l y.0 h.0) (by_seq (types.type_spec l y.1.0 h.1.0) (by_commented (after_blank declared.printed))))))

  class_declared : (l : Limits) (d : Declares) → HoldsBy P IsToken (made declares_class (seq class_prefixes short_spec)) l d → DeclaresPrinted (made declares_class (seq class_prefixes short_spec)) l d
  class_declared l d (y, h, e) =
      let class = class_named y.0 y.1 in
      let head : head_of y.0.0 y.0.1 ≡ kind_words y.0 = ap (λ b. word_if (codes "encapsulated") b ++ kind_words y.0) (kind_open P l y.0 h.0) in
      subst (DeclaresPrinted (made declares_class (seq class_prefixes short_spec)) l) e
      (by_pieces (ap (λ ps. ps ++ shown_body y.1.1 y.1.0.text) (sym head) ∙ sym (layers.at_Class class))
      (by_made (ap (λ what. (placeless_token y.1.0, what)) (sym (placeless_forms.at_Class class))) (by_seq (kind_printed P l y.0 h.0) (short_spec_printed P types modifiers l y.1 h.1))))

  declares_printed : (l : Limits) (d : Declares) → HoldsBy P IsToken argument_declares l d → DeclaresPrinted argument_declares l d
  declares_printed l d (inl h) = by_left (class_declared l d h)
  declares_printed l d (inr h) = by_right (component1_printed l d h)

  -- a constraining clause
  pub constraint_printed : (l : Limits) (limit : Limit) → HoldsBy P IsToken constraint l limit → LimitPrinted constraint l limit
  constraint_printed l limit (y, h, e) =
      let parts = behind_holds P IsToken constrainedby_word (seq (symbol TypeSpecs) (optional (symbol ClassMods))) l y h in
      let mods = optional_mods P types modifiers l y.1 parts.1 in
      subst (LimitPrinted constraint l) e
      (by_made (ap (λ m. (placeless_reference y.0, m)) mods.1) (after_blank (by_behind constrainedby_word_is (after_blank (by_seq (types.type_spec l y.0 parts.0) mods.2)))))

  replaceable_printed : (l : Limits) (x : Declares × Option Limit) → HoldsBy P IsToken replaceable_arg l x → IsPrinted replaceable_arg l (replaceable_pieces x.0.1 x.1) ((placeless_token x.0.0, placeless_what x.0.1), option_map placeless_limit x.1)
  replaceable_printed l x h =
      let parts = behind_holds P IsToken replaceable_word (seq argument_declares (optional constraint)) l x h in
      by_behind replaceable_word_is (after_blank (by_seq (declares_printed l x.0 parts.0) (by_limit constraint l (HoldsBy P IsToken constraint l) (constraint_printed l) x.1 (optional_holds P IsToken constraint l x.1 parts.1))))

  -- what is redeclared, or may be
  redeclared_printed : (l : Limits) (x : Bool × (Bool × Argued)) → HoldsBy P IsToken redeclaration l x → IsPrinted (behind redeclare_word (made argument_of redeclaration)) l (pieces_of_argument (argument_of x)) (placeless_argument (argument_of x))
  redeclared_printed l (each, (last, argued)) (he, (hl, inl (x, h, e))) =
      let element = argument_element true x.0.1 x.1 in
      subst (λ v. IsPrinted (behind redeclare_word (made argument_of redeclaration)) l (pieces_of_argument (argument_of (each, (last, v)))) (placeless_argument (argument_of (each, (last, v))))) e
      (by_pieces (redeclared element each last (pieces_of_path (path_of (x.0.0 ∷ []))) (replaceable_pieces x.0.1 x.1) (layers.at_Element element))
      (by_behind redeclare_word_is (after_blank (by_made (redeclares_same true each last x.0 x.1) (by_seq (by_word each each_word_is) (by_seq (by_word last final_word_is) (by_left (by_made refl (replaceable_printed l x h)))))))))
  redeclared_printed l (each, (last, argued)) (he, (hl, inr (x, h, e))) =
      let element = argument_element false x.1 None in
      subst (λ v. IsPrinted (behind redeclare_word (made argument_of redeclaration)) l (pieces_of_argument (argument_of (each, (last, v)))) (placeless_argument (argument_of (each, (last, v))))) e
      (by_pieces (redeclared element each last (pieces_of_path (path_of (x.0 ∷ []))) (pieces_of_what x.1) (layers.at_Element element ∙ append-nil (pieces_of_what x.1)))
      (by_behind redeclare_word_is (after_blank (by_made (redeclares_same false each last x None) (by_seq (by_word each each_word_is) (by_seq (by_word last final_word_is) (by_right (by_made refl (declares_printed l x h)))))))))

  -- what is given anew
  given_printed : (l : Limits) (x : Bool × (Bool × Argued)) → HoldsBy P IsToken giving l x → IsPrinted (made argument_of giving) l (pieces_of_argument (argument_of x)) (placeless_argument (argument_of x))
  given_printed l (each, (last, argued)) (he, (hl, inl (x, h, e))) =
      let element = argument_element true x.0.1 x.1 in
      subst (λ v. IsPrinted (made argument_of giving) l (pieces_of_argument (argument_of (each, (last, v)))) (placeless_argument (argument_of (each, (last, v))))) e
      (by_pieces (replaced element each last (pieces_of_path (path_of (x.0.0 ∷ []))) (replaceable_pieces x.0.1 x.1) (layers.at_Element element))
      (by_made (replaces_same each last x.0 x.1) (by_seq (by_word each each_word_is) (by_seq (by_word last final_word_is) (by_left (by_made refl (replaceable_printed l x h)))))))
  given_printed l (each, (last, argued)) (he, (hl, inr (x, (y, h, k), e))) =
      let name = y.0.0 in
      let binding = modification_printed P expressions types modifiers l y.0.1 h.0.1 in
      let b = binding_or_none y.0.1 in
      let named : modifies y.0 ≡ argued = ap modifies k ∙ e in
      subst (λ v. IsPrinted (made argument_of giving) l (pieces_of_argument (argument_of (each, (last, v)))) (placeless_argument (argument_of (each, (last, v))))) named
      (by_pieces (modified each last name.1 b)
      (by_made (modifies_same each last name.0 name.1 b binding.0 binding.1)
      (by_seq (by_word each each_word_is) (by_seq (by_word last final_word_is) (by_right (by_made refl (by_made refl (by_seq (by_seq (by_placed refl (expressions.names l name.1 h.0.0)) binding.2) (by_right by_empty)))))))))

  pub argument_step : (l : Limits) (a : ArgumentOf Give) → HoldsBy P IsToken (rule ModArguments) l a → ArgumentPrinted l a
  unfolding rule
  argument_step l a (inl h) = go (behind_holds P IsToken redeclare_word (made argument_of redeclaration) l a h)
    where
      go : HoldsBy P IsToken (made argument_of redeclaration) l a → ArgumentPrinted l a
      go (x, h, e) = subst (ArgumentPrinted l) e (by_rule ModArguments (by_left (redeclared_printed l x h)))
  argument_step l a (inr (x, h, e)) = subst (ArgumentPrinted l) e (by_rule ModArguments (by_right (given_printed l x h)))

  pub mods_step : (l : Limits) (mods : Mods) → HoldsBy P IsToken (rule ClassMods) l mods → ModsPrinted l mods
  unfolding rule
  mods_step l mods (o, h, e) =
      let inside = between_holds P IsToken open_paren close_paren (optional (separated comma (symbol ModArguments))) l o h in
      subst (ModsPrinted l) e (go inside.0 inside.1 o (optional_holds P IsToken (separated comma (symbol ModArguments)) inside.0 o inside.2))
    where
      listed : (inner : Limits) → left_inside a_construct l ≡ Some inner → (a : ArgumentOf Give) (more : List (ArgumentOf Give)) → P ModArguments inner a → HoldsEach (P ModArguments inner) more → IsPrinted (symbol ClassMods) l (arguments_with shown_give (a ∷ more)) (placeless_mods (record { 0 = a ∷ more }))
      listed inner left a more ha hm =
          by_rule ClassMods (by_made refl (by_between left open_paren_is close_paren_is (by_present
          (by_joined a_comma pieces_of_argument placeless_argument (λ a p. by_behind comma_is (after_blank p)) a more (modifiers.argument inner a ha) (each_follows (P ModArguments inner) (ArgumentPrinted inner) (modifiers.argument inner) more hm)))))

      go : (inner : Limits) → left_inside a_construct l ≡ Some inner → (o : Option (List (ArgumentOf Give))) → HoldsOption (HoldsBy P IsToken (separated comma (symbol ModArguments)) inner) o → ModsPrinted l (mods_of o)
      go inner left None h a more none = cc
      go inner left (Some list) h a more some =
          let parts = separated_holds P IsToken comma (symbol ModArguments) inner list h in
          subst (λ v. IsPrinted (symbol ClassMods) l (arguments_with shown_give v) (placeless_mods (record { 0 = v }))) parts.2 (listed inner left parts.0 parts.1 parts.3 parts.4)
