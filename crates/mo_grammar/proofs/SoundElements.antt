-- What tokens spell by the productions of imports, elements, sections, classes and files is sound.
use Rattle.std.proofs.Common.{◌≡◌, Bool, true, false, List, [], ◌∷◌, map, Option, Some, None, refl, ap, ◌∙◌}
use Rattle.std.specs.List.{list_all}
use Rattle.std.proofs.lemmas.List.Folds.{list_all-append}
use Rattle.mo_syntax.specs.declared.place.Place.{Place}
use Rattle.mo_syntax.specs.declared.expr.Expr.{Expr}
use Rattle.mo_syntax.specs.declared.expr.ReferenceOf.{ReferenceOf}
use Rattle.mo_syntax.specs.declared.class.Body.{Body}
use Rattle.mo_syntax.specs.declared.class.Body.TheVariants.{outs-Long, outs-Der}
use Rattle.mo_syntax.specs.declared.class.Element.{Element}
use Rattle.mo_syntax.specs.declared.class.Give.{Give}
use Rattle.mo_syntax.specs.declared.class.Item.{Item, Item-F, out-Item}
use Rattle.mo_syntax.specs.declared.class.Item.TheVariants.{outs-Import, outs-Extends, outs-Member, outs-Equations, outs-Algorithm}
use Rattle.mo_syntax.specs.declared.class.Prefix.{Prefix}
use Rattle.mo_syntax.specs.declared.class.What.{What}
use Rattle.mo_syntax.specs.declared.class.What.TheVariants.{Component}
use Rattle.mo_syntax.specs.SoundTree.{Naming, some_by, limit_by, item_by, is_sound_expr, are_sound_options, is_sound_reference, is_sound_import, is_sound_body, is_sound_give, is_sound_item, is_sound_what, is_sound_element, is_sound_class, is_sound_within, is_sound_file}
use Rattle.mo_syntax.proofs.SoundParts.{item_is}
use Rattle.mo_grammar.specs.Lexeme.{Lexeme}
use Rattle.mo_grammar.specs.Trees.{or_nothing}
use Rattle.mo_grammar.specs.ClassTrees.{Limit, Declared, Placed, Imported, Taken, Inside, component_of, elements_of, import_of, imported, appended_items, within_of}
use Rattle.mo_grammar.specs.Symbols.{Expressions, Subscripts, TypeSpecs, Names, ClassMods, EquationItems, ImportNames, ElementItems, Compositions, Sections, SectionEquations, ClassDefinitions}
use Rattle.mo_grammar.specs.Classes.{import_names, import_clause, declares, element, elements, class_end, annotated_end, external_end, section, initial_section, other_section, sections, section_equations, composition, long_spec, extends_spec, der_spec, equals_spec, class_def, file}
use Rattle.mo_grammar.proofs.Codes.{both}
use Rattle.mo_grammar.proofs.Holding.{HoldsEach}
use Rattle.mo_grammar.proofs.SoundSteps.{all_true, each_of_some, named_token, AreSoundEquations, taken_test, IsSoundImported, Makes, OfOption, anything, by_symbol, by_name, by_seq, by_either, by_either2, by_made, by_weaker, by_placed, by_nested, by_under, by_many, by_optional, by_behind, by_before, by_between, by_separated_each, by_listed}
use Rattle.mo_grammar.proofs.SoundExpressions.{option_passes, options_or_nothing}
use Rattle.mo_grammar.proofs.SoundClasses.{texts_named, path_sound, by_commented, IsSoundDeclared, declaration_made, class_what, component_what, component_sound, constraint_made, body_sound, enumeration_made, short_class_made, IsSoundNamed, element_sound, mods_sound, statements_made}

module _ (is_name : Naming) where
  abbrev sound : Expr → Bool
  sound = is_sound_expr is_name

  abbrev item_test : Item → Bool
  item_test = is_sound_item is_name

  abbrev what_test : What → Bool
  what_test = is_sound_what is_name

  abbrev IsSoundLimit : Limit → Type 0
  IsSoundLimit limit = limit_by is_name (is_sound_give is_name) limit ≡ true

  item_sound : (item : Item) (layer : Item-F Body Give Item What Element) → out-Item item ≡ layer → item_by is_name (is_sound_give is_name) (is_sound_element is_name) layer ≡ true → item_test item ≡ true
  item_sound item layer e h = item_is is_name item ∙ (ap (item_by is_name (is_sound_give is_name) (is_sound_element is_name)) e ∙ h)

  -- ---- imports

  -- what follows the first name
  abbrev IsSoundTail : Imported → Type 0
  IsSoundTail x = (list_all (named_token is_name) x.0 ≡ true) × (taken_test is_name x.1 ≡ true)

  imported_sound : (t : Lexeme) (o : Option Imported) → is_name t.text ≡ true → OfOption IsSoundTail o → IsSoundImported is_name (imported (t, o))
  imported_sound t None p h = (all_true p refl, refl)
  imported_sound t (Some x) p h = (all_true p h.0, h.1)

  pub import_names_made : Makes is_name import_names (IsSoundImported is_name)
  import_names_made =
      by_made (by_seq by_name (by_optional (by_either {Q = IsSoundTail} (by_made (anything _) (λ t h. (refl, refl)))
      (by_behind (by_either {Q = IsSoundTail} (by_made (anything _) (λ t h. (refl, refl)))
      (by_either {Q = IsSoundTail} (by_made (by_between (by_listed (named_token is_name) by_name)) (λ group h. (refl, h))) (by_weaker (by_symbol ImportNames) (λ x h. (each_of_some (named_token is_name) x.0 h.0, h.1))))))))) (λ x h. imported_sound x.0 x.1 h.0 h.1)

  import_sound : (names : List Lexeme) (taken : Taken) → some_by (named_token is_name) names ≡ true → taken_test is_name taken ≡ true → is_sound_import is_name (import_of (names, taken)) ≡ true
  import_sound names None p q = path_sound is_name names p
  import_sound names (Some None) p q = path_sound is_name names p
  import_sound names (Some (Some group)) p q = all_true (path_sound is_name names p) (texts_named is_name group q)

  import_clause_made : Makes is_name import_clause (λ clause. is_sound_import is_name clause ≡ true)
  import_clause_made =
      by_behind (by_commented (by_either2 (by_made (by_seq by_name (by_behind (by_symbol Names))) (λ x h. all_true h.0 (path_sound is_name x.1 h.1)))
      (by_made (by_symbol ImportNames) (λ x h. import_sound x.0 x.1 h.0 h.1))))

  -- ---- elements

  abbrev IsSoundComponent : Declared × Option Expr → Type 0
  IsSoundComponent x = IsSoundDeclared is_name x.0 × OfOption (λ e. sound e ≡ true) x.1

  components_sound : (prefix : Prefix) (base : ReferenceOf Expr) (subs : List (Option Expr)) (list : List (Declared × Option Expr)) → is_sound_reference is_name base ≡ true → are_sound_options is_name subs ≡ true → HoldsEach IsSoundComponent list → list_all what_test (map (λ d. Component (component_of prefix base subs d.0 d.1)) list) ≡ true
  components_sound prefix base subs [] p q h = refl
  components_sound prefix base subs (d ∷ list) p q h = all_true (component_what is_name _ (component_sound is_name prefix base subs d.0 d.1 p q h.0.0 (option_passes sound d.1 h.0.1))) (components_sound prefix base subs list p q h.1)

  declares_made : Makes is_name declares (λ whats. list_all what_test whats ≡ true)
  declares_made =
      by_either (by_made (by_symbol ClassDefinitions) (λ class h. all_true (class_what is_name class h) refl))
      (by_made (by_seq (by_seq (anything _) (by_seq (by_symbol TypeSpecs) (by_optional (by_symbol Subscripts)))) (by_separated_each {Q = IsSoundComponent} (by_commented (by_seq (declaration_made is_name) (by_optional (by_behind (by_symbol Expressions)))))))
      (λ x h. components_sound x.0.0 x.0.1.0 (or_nothing x.0.1.1) x.1 h.0.1.0 (options_or_nothing _ x.0.1.1 h.0.1.1) h.1))

  abbrev IsSoundPlaced : Placed → Type 0
  IsSoundPlaced x = (list_all what_test x.0 ≡ true) × OfOption IsSoundLimit x.1.1

  elements_sound : (hidden : Bool) (flags : Bool × (Bool × (Bool × Bool))) (whats : List What) (x : Bool × Option Limit) → list_all what_test whats ≡ true → OfOption IsSoundLimit x.1 → list_all item_test (elements_of hidden (flags, (whats, x))) ≡ true
  elements_sound hidden flags [] x p q = refl
  elements_sound hidden flags (what ∷ whats) x p q =
      let parts = both (what_test what) (list_all what_test whats) p in
      all_true (item_sound _ _ (outs-Member _) (element_sound is_name _ what x.1 parts.0 q)) (elements_sound hidden flags whats x parts.1 q)

  pub elements_made : (hidden : Bool) → Makes is_name (element hidden) (λ items. list_all item_test items ≡ true)
  elements_made hidden =
      by_either (by_made import_clause_made (λ clause h. all_true (item_sound _ _ (outs-Import clause) h) refl))
      (by_either (by_made (by_behind (by_made (by_seq (by_seq (by_symbol TypeSpecs) (by_optional (by_symbol ClassMods))) (anything _)) (λ x h. h.0))) (λ x h. all_true (item_sound _ _ (outs-Extends _) (all_true h.0 (mods_sound is_name x.1 h.1))) refl))
      (by_made (by_seq (anything _) (by_either {Q = IsSoundPlaced} (by_made (by_behind (by_seq declares_made (by_optional (by_commented (constraint_made is_name))))) (λ x h. h)) (by_made declares_made (λ whats h. (h, tt))))) (λ x h. elements_sound hidden x.0 x.1.0 x.1.1 h.1.0 h.1.1)))

  -- ---- sections

  abbrev IsSoundInside : Inside → Type 0
  IsSoundInside x = list_all item_test x.0 ≡ true

  appended_sound : (more : List Item) (lists : List (List Item)) → list_all item_test more ≡ true → list_all (list_all item_test) lists ≡ true → list_all item_test (appended_items more lists) ≡ true
  appended_sound more [] p q = p
  appended_sound more (items ∷ lists) p q =
      let parts = both (list_all item_test items) (list_all (list_all item_test) lists) q in
      list_all-append item_test items (appended_items more lists) ∙ all_true parts.0 (appended_sound more lists p parts.1)

  class_end_made : Makes is_name class_end IsSoundInside
  class_end_made = by_made (anything _) (λ t h. refl)

  annotated_end_made : Makes is_name annotated_end IsSoundInside
  annotated_end_made = by_behind (by_made (by_seq (anything _) class_end_made) (λ x h. h.1))

  external_end_made : Makes is_name external_end IsSoundInside
  external_end_made = by_made (by_behind (by_made (by_seq (anything _) (by_behind (by_either annotated_end_made class_end_made))) (λ x h. h.1))) (λ x h. h)

  section_made : (initial : Bool) → Makes is_name (section initial) IsSoundInside
  section_made initial =
      by_either (by_made (by_behind (by_symbol SectionEquations)) (λ x h. all_true (item_sound _ _ (outs-Equations initial x.0) h.0) h.1))
      (by_made (by_behind (by_seq (statements_made is_name) (by_symbol Sections))) (λ x h. all_true (item_sound _ _ (outs-Algorithm initial x.0) h.0) h.1))

  initial_section_made : Makes is_name initial_section IsSoundInside
  initial_section_made = by_behind (section_made true)

  items_before_made : (hidden : Bool) → Makes is_name (elements hidden) (λ lists. list_all (list_all item_test) lists ≡ true)
  items_before_made hidden = by_many (list_all item_test) (by_before (by_symbol (ElementItems hidden)))

  other_section_made : Makes is_name other_section IsSoundInside
  other_section_made =
      by_either (by_made (by_behind (by_seq (items_before_made false) (by_symbol Sections))) (λ x h. appended_sound x.1.0 x.0 h.1 h.0))
      (by_either (by_made (by_behind (by_seq (items_before_made true) (by_symbol Sections))) (λ x h. appended_sound x.1.0 x.0 h.1 h.0))
      (by_either (section_made false) (by_either external_end_made annotated_end_made)))

  pub sections_made : Makes is_name sections IsSoundInside
  sections_made = by_either other_section_made (by_either initial_section_made class_end_made)

  pub section_equations_made : Makes is_name section_equations (λ x. AreSoundEquations is_name x.0 × IsSoundInside x.1)
  section_equations_made =
      by_either2 (by_made class_end_made (λ x h. (refl, h)))
      (by_either2 (by_made initial_section_made (λ x h. (refl, h)))
      (by_either (by_made (by_seq (by_before (by_symbol EquationItems)) (by_symbol SectionEquations)) (λ x h. (all_true h.0 h.1.0, h.1.1))) (by_made other_section_made (λ x h. (refl, h)))))

  pub compositions_made : Makes is_name composition IsSoundInside
  compositions_made = by_made (by_seq (items_before_made false) (by_symbol Sections)) (λ x h. appended_sound x.1.0 x.0 h.1 h.0)

  -- ---- classes and files

  long_spec_made : Makes is_name long_spec (IsSoundNamed is_name)
  long_spec_made = by_made (by_under by_name (by_made (by_seq (anything _) (by_symbol Compositions)) (λ x h. h.1))) (λ x h. (h.0, body_sound is_name _ _ (outs-Long None x.1.0 x.1.1) h.1))

  extends_spec_made : Makes is_name extends_spec (IsSoundNamed is_name)
  extends_spec_made =
      by_made (by_under (by_behind by_name) (by_seq (by_optional (by_symbol ClassMods)) (by_made (by_seq (anything _) (by_symbol Compositions)) (λ x h. h.1))))
      (λ x h. (h.0, body_sound is_name _ _ (outs-Long (Some _) x.1.1.0 x.1.1.1) (all_true (mods_sound is_name x.1.0 h.1.0) h.1.1)))

  der_spec_made : Makes is_name der_spec (λ body. is_sound_body is_name body ≡ true)
  der_spec_made =
      by_made (by_commented (by_behind (by_between (by_seq (by_symbol TypeSpecs) (by_behind (by_listed (named_token is_name) by_name))))))
      (λ x h. body_sound is_name _ _ (outs-Der x.0 _) (all_true h.0 (texts_named is_name x.1 h.1)))

  equals_spec_made : Makes is_name equals_spec (IsSoundNamed is_name)
  equals_spec_made = by_seq by_name (by_behind (by_either der_spec_made (by_either (enumeration_made is_name) (short_class_made is_name))))

  pub classes_made : Makes is_name class_def (λ class. is_sound_class is_name class ≡ true)
  classes_made = by_nested (by_made (by_seq (anything _) (by_seq (anything _) (by_either extends_spec_made (by_either2 equals_spec_made long_spec_made)))) (λ x h. all_true h.1.1.0 h.1.1.1))

  within_sound : (o : Option (Option (Place × List Lexeme))) → OfOption (OfOption (λ x. some_by (named_token is_name) x.1 ≡ true)) o → is_sound_within is_name (within_of o) ≡ true
  within_sound None h = refl
  within_sound (Some None) h = refl
  within_sound (Some (Some x)) h = texts_named is_name x.1 (each_of_some (named_token is_name) x.1 h)

  pub files_made : Makes is_name file (λ tree. is_sound_file is_name tree ≡ true)
  files_made =
      by_made (by_seq (by_optional (by_behind (by_before (by_optional (by_placed (by_symbol Names)))))) (by_seq (by_many (is_sound_class is_name) (by_made (by_seq (anything _) (by_before (by_symbol ClassDefinitions))) (λ x h. h.1))) (anything _)))
      (λ x h. all_true (within_sound x.0 h.0) h.1.0)
