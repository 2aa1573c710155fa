-- What tokens spell by the productions of imports, elements, sections, classes and files stands where the places of the tokens do.
use Rattle.std.proofs.Common.{◌≡◌, Bool, true, false, List, [], ◌∷◌, map, flat_map, Option, Some, None, sym, subst}
use Rattle.mo_syntax.specs.declared.place.Place.{Place}
use Rattle.mo_syntax.specs.declared.expr.Expr.{Expr}
use Rattle.mo_syntax.specs.declared.expr.ReferenceOf.{ReferenceOf}
use Rattle.mo_syntax.specs.declared.class.Body.{Body}
use Rattle.mo_syntax.specs.declared.class.Body.TheVariants.{outs-Long, outs-Der}
use Rattle.mo_syntax.specs.declared.class.ClassDefOf.{ClassDefOf}
use Rattle.mo_syntax.specs.declared.class.Element.{Element}
use Rattle.mo_syntax.specs.declared.class.FileTree.{FileTree}
use Rattle.mo_syntax.specs.declared.class.Give.{Give}
use Rattle.mo_syntax.specs.declared.class.Import.{Import}
use Rattle.mo_syntax.specs.declared.class.Item.{Item, Item-F, out-Item}
use Rattle.mo_syntax.specs.declared.class.Item.TheVariants.{outs-Import, outs-Extends, outs-Member, outs-Equations, outs-Algorithm}
use Rattle.mo_syntax.specs.declared.class.Prefix.{Prefix}
use Rattle.mo_syntax.specs.declared.class.What.{What}
use Rattle.mo_syntax.specs.declared.class.What.TheVariants.{Component}
use Rattle.mo_grammar.specs.Lexeme.{Lexeme}
use Rattle.mo_grammar.specs.Trees.{or_nothing}
use Rattle.mo_grammar.specs.ClassTrees.{Limit, Declared, Placed, Imported, Taken, Inside, component_of, elements_of, import_of, imported, appended_items, mods_or_none, place_of_names, within_of}
use Rattle.mo_grammar.specs.Symbols.{Expressions, Subscripts, TypeSpecs, Names, ClassMods, EquationItems, ImportNames, ElementItems, Compositions, Sections, SectionEquations, ClassDefinitions}
use Rattle.mo_grammar.specs.Classes.{import_names, import_clause, declares, element, elements, class_end, annotated_end, external_end, section, initial_section, other_section, sections, section_equations, composition, long_spec, extends_spec, der_spec, equals_spec, class_def, file}
use Rattle.mo_places.specs.Written.{Written, At, Valued}
use Rattle.mo_places.specs.TreeWritten.{in_subs, place_of_import, places_in_body, places_in_class, places_in_item, places_in_what, places_of_parts}
use Rattle.mo_places.specs.Stands.{Every, IfAny}
use Rattle.mo_places.specs.InFiles.{Descends}
use Rattle.mo_places.proofs.laws.Standing.{every_append, every_flat_map}
use Rattle.mo_places.proofs.laws.TreeParts.{at_item, by_item, places_in_arguments}
use Rattle.mo_bytes.specs.steps.Spelled.{AreEquations, AreNames, Ascends}
use Rattle.mo_bytes.proofs.laws.Placing.{anything, by_before, by_behind, by_between, by_either, by_either2, by_many, by_made, by_nested, by_optional, by_placed, by_separated, by_seq, by_symbol, by_token, by_under, by_weaker, each_of_some}
use Rattle.mo_bytes.proofs.laws.Expressions.{subs_or_nothing, value_stands}
use Rattle.mo_bytes.proofs.laws.Classes.{DeclaredIn, LimitStands, NamedBody, Tells, arguments_written, body_stands, by_commented, class_what, component_stands, constraint_spells, declaration_spells, element_stands, enumeration_spells, mods_stand, short_class_spells}

module _ (P : Written → Type 0) (ascends : Ascends P) (descends : Descends P) where
  abbrev ItemStands : Item → Type 0
  ItemStands item = Every P (places_in_item item)

  abbrev WhatStands : What → Type 0
  WhatStands what = Every P (places_in_what what)

  item_stands : (item : Item) (layer : Item-F Body Give Item What Element) → out-Item item ≡ layer → Every P (by_item layer) → ItemStands item
  item_stands item layer is h = subst (Every P) (sym (at_item item layer is)) h

  -- ---- imports

  imported_stands : (t : Lexeme) (o : Option Imported) → P (At t.place) → IfAny (λ (x : Imported). Every (λ (other : Lexeme). P (At other.place)) x.0) o → AreNames P (imported (t, o)).0
  imported_stands t None p h = (p, tt)
  imported_stands t (Some x) p h = (p, h)

  names_after : (names : List Lexeme) → AreNames P names → Every (λ (other : Lexeme). P (At other.place)) names
  names_after [] h = tt
  names_after (t ∷ names) h = h

  pub import_names_spell : Tells P ascends descends import_names (λ x. AreNames P x.0)
  import_names_spell =
      by_made (by_seq by_token (by_optional (by_either {R = λ (x : Imported). Every (λ (other : Lexeme). P (At other.place)) x.0} (by_made (anything _) (λ t h. tt))
      (by_behind (by_either {R = λ (x : Imported). Every (λ (other : Lexeme). P (At other.place)) x.0} (by_made (anything _) (λ t h. tt))
      (by_either {R = λ (x : Imported). Every (λ (other : Lexeme). P (At other.place)) x.0} (by_made (anything _) (λ group h. tt)) (by_weaker (by_symbol ImportNames) (λ x h. names_after x.0 h))))))))
      (λ x h. imported_stands x.0 x.1 h.0 h.1)

  import_stands : (names : List Lexeme) (taken : Taken) → AreNames P names → P (At (place_of_import (import_of (names, taken))))
  import_stands [] taken h = absurd h
  import_stands (t ∷ names) None h = h.0
  import_stands (t ∷ names) (Some None) h = h.0
  import_stands (t ∷ names) (Some (Some group)) h = h.0

  renamed_stands : (t : Lexeme) (names : List Lexeme) → AreNames P names → P (At (place_of_names names))
  renamed_stands t [] h = absurd h
  renamed_stands t (other ∷ names) h = h.0

  import_clause_spells : Tells P ascends descends import_clause (λ (clause : Import). P (At (place_of_import clause)))
  import_clause_spells =
      by_behind (by_commented P ascends descends (by_either2 (by_made (by_seq (anything _) (by_behind (by_symbol Names))) (λ x h. renamed_stands x.0 x.1 h.1))
      (by_made (by_symbol ImportNames) (λ x h. import_stands x.0 x.1 h))))

  -- ---- elements

  abbrev ComponentIn : Declared × Option Expr → Type 0
  ComponentIn x = DeclaredIn P ascends descends x.0 × IfAny (λ (e : Expr). P (Valued e)) x.1

  components_stand : (prefix : Prefix) (base : ReferenceOf Expr) (subs : List (Option Expr)) (list : List (Declared × Option Expr)) → Every P (places_of_parts base.parts) → Every P (in_subs subs) → Every ComponentIn list →
      Every WhatStands (map (λ d. Component (component_of prefix base subs d.0 d.1)) list)
  components_stand prefix base subs [] p q h = tt
  components_stand prefix base subs (d ∷ list) p q h =
      (component_stands P ascends descends prefix base subs d.0 d.1 p q h.0.0 (value_stands P ascends d.1 h.0.1), components_stand prefix base subs list p q h.1)

  declares_spell : Tells P ascends descends declares (Every WhatStands)
  declares_spell =
      by_either (by_made (by_symbol ClassDefinitions) (λ class h. (class_what P ascends descends class h, tt)))
      (by_made (by_seq (by_seq (anything _) (by_seq (by_symbol TypeSpecs) (by_optional (by_symbol Subscripts)))) (by_separated {R = ComponentIn} (by_commented P ascends descends (by_seq (declaration_spells P ascends descends) (by_optional (by_behind (by_symbol Expressions)))))))
      (λ x h. components_stand x.0.0 x.0.1.0 (or_nothing x.0.1.1) x.1 h.0.1.0 (subs_or_nothing P ascends x.0.1.1 h.0.1.1) (each_of_some ComponentIn x.1 h.1)))

  abbrev PlacedIn : Placed → Type 0
  PlacedIn x = Every WhatStands x.0 × IfAny (LimitStands P ascends descends) x.1.1

  elements_stand : (hidden : Bool) (flags : Bool × (Bool × (Bool × Bool))) (whats : List What) (x : Bool × Option Limit) → Every WhatStands whats → IfAny (LimitStands P ascends descends) x.1 →
      Every ItemStands (elements_of hidden (flags, (whats, x)))
  elements_stand hidden flags [] x p q = tt
  elements_stand hidden flags (what ∷ whats) x p q =
      (item_stands _ _ (outs-Member _) (element_stands P ascends descends _ what x.1 p.0 q), elements_stand hidden flags whats x p.1 q)

  pub elements_spell : (hidden : Bool) → Tells P ascends descends (element hidden) (Every ItemStands)
  elements_spell hidden =
      by_either (by_made import_clause_spells (λ clause h. (item_stands _ _ (outs-Import clause) (h, tt), tt)))
      (by_either (by_made (by_behind (by_made (by_seq (by_seq (by_symbol TypeSpecs) (by_optional (by_symbol ClassMods))) (anything _)) (λ x h. h.0)))
      (λ x h. (
        item_stands _ _ (outs-Extends (record { base = x.0; mods = mods_or_none x.1; hidden = hidden }))
            (every_append P (places_of_parts x.0.parts) (places_in_arguments (mods_or_none x.1).0) h.0 (arguments_written P ascends descends (mods_or_none x.1).0 (mods_stand P ascends descends x.1 h.1))),
        tt,
      )))
      (by_made (by_seq (anything _) (by_either {R = PlacedIn} (by_made (by_behind (by_seq declares_spell (by_optional (by_commented P ascends descends (constraint_spells P ascends descends))))) (λ x h. h)) (by_made declares_spell (λ whats h. (h, tt)))))
      (λ x h. elements_stand hidden x.0 x.1.0 x.1.1 h.1.0 h.1.1)))

  -- ---- sections

  abbrev InsideStands : Inside → Type 0
  InsideStands x = Every ItemStands x.0

  appended_stand : (more : List Item) (lists : List (List Item)) → Every ItemStands more → Every (Every ItemStands) lists → Every ItemStands (appended_items more lists)
  appended_stand more [] p q = p
  appended_stand more (items ∷ lists) p q = every_append ItemStands items (appended_items more lists) q.0 (appended_stand more lists p q.1)

  class_end_spells : Tells P ascends descends class_end InsideStands
  class_end_spells = by_made (anything _) (λ t h. tt)

  annotated_end_spells : Tells P ascends descends annotated_end InsideStands
  annotated_end_spells = by_behind (by_made (by_seq (anything _) class_end_spells) (λ x h. h.1))

  external_end_spells : Tells P ascends descends external_end InsideStands
  external_end_spells = by_made (by_behind (by_made (by_seq (anything _) (by_behind (by_either annotated_end_spells class_end_spells))) (λ x h. h.1))) (λ x h. h)

  section_spells : (initial : Bool) → Tells P ascends descends (section initial) InsideStands
  section_spells initial =
      by_either (by_made (by_behind (by_symbol SectionEquations)) (λ x h. (item_stands _ _ (outs-Equations initial x.0) h.0, h.1)))
      (by_made (by_behind (by_seq (anything _) (by_symbol Sections))) (λ x h. (item_stands _ _ (outs-Algorithm initial x.0) tt, h.1)))

  initial_section_spells : Tells P ascends descends initial_section InsideStands
  initial_section_spells = by_behind (section_spells true)

  items_before_spell : (hidden : Bool) → Tells P ascends descends (elements hidden) (Every (Every ItemStands))
  items_before_spell hidden = by_many (by_before (by_symbol (ElementItems hidden)))

  other_section_spells : Tells P ascends descends other_section InsideStands
  other_section_spells =
      by_either (by_made (by_behind (by_seq (items_before_spell false) (by_symbol Sections))) (λ x h. appended_stand x.1.0 x.0 h.1 h.0))
      (by_either (by_made (by_behind (by_seq (items_before_spell true) (by_symbol Sections))) (λ x h. appended_stand x.1.0 x.0 h.1 h.0))
      (by_either (section_spells false) (by_either external_end_spells annotated_end_spells)))

  pub sections_spell : Tells P ascends descends sections InsideStands
  sections_spell = by_either other_section_spells (by_either initial_section_spells class_end_spells)

  pub section_equations_spell : Tells P ascends descends section_equations (λ x. AreEquations P x.0 × InsideStands x.1)
  section_equations_spell =
      by_either2 (by_made class_end_spells (λ x h. (tt, h)))
      (by_either2 (by_made initial_section_spells (λ x h. (tt, h)))
      (by_either (by_made (by_seq (by_before (by_symbol EquationItems)) (by_symbol SectionEquations)) (λ x h. ((h.0, h.1.0), h.1.1))) (by_made other_section_spells (λ x h. (tt, h)))))

  pub compositions_spell : Tells P ascends descends composition InsideStands
  compositions_spell = by_made (by_seq (items_before_spell false) (by_symbol Sections)) (λ x h. appended_stand x.1.0 x.0 h.1 h.0)

  -- ---- classes and files

  items_written : (items : List Item) → Every ItemStands items → Every P (flat_map places_in_item items)
  items_written items h = every_flat_map P places_in_item items h

  long_spec_spells : Tells P ascends descends long_spec (NamedBody P ascends descends)
  long_spec_spells =
      by_made (by_under by_token (by_made (by_seq (anything _) (by_symbol Compositions)) (λ x h. h.1)))
      (λ x h. (h.0, body_stands P ascends descends _ _ (outs-Long None x.1.0 x.1.1) (items_written x.1.0 h.1)))

  extends_spec_spells : Tells P ascends descends extends_spec (NamedBody P ascends descends)
  extends_spec_spells =
      by_made (by_under (by_behind by_token) (by_seq (by_optional (by_symbol ClassMods)) (by_made (by_seq (anything _) (by_symbol Compositions)) (λ x h. h.1))))
      (λ x h. (
        h.0,
        body_stands P ascends descends _ _ (outs-Long (Some (mods_or_none x.1.0)) x.1.1.0 x.1.1.1)
            (every_append P (places_in_arguments (mods_or_none x.1.0).0) (flat_map places_in_item x.1.1.0) (arguments_written P ascends descends (mods_or_none x.1.0).0 (mods_stand P ascends descends x.1.0 h.1.0)) (items_written x.1.1.0 h.1.1)),
      ))

  der_spec_spells : Tells P ascends descends der_spec (λ (body : Body). Every P (places_in_body body))
  der_spec_spells = by_made (by_commented P ascends descends (by_behind (by_between (anything _)))) (λ x h. body_stands P ascends descends _ _ (outs-Der x.0 _) tt)

  equals_spec_spells : Tells P ascends descends equals_spec (NamedBody P ascends descends)
  equals_spec_spells = by_seq by_token (by_behind (by_either der_spec_spells (by_either (enumeration_spells P ascends descends) (short_class_spells P ascends descends))))

  pub classes_spell : Tells P ascends descends class_def (λ (class : ClassDefOf Body). Every P (places_in_class class))
  classes_spell = by_nested (by_made (by_seq (anything _) (by_seq (anything _) (by_either extends_spec_spells (by_either2 equals_spec_spells long_spec_spells)))) (λ x h. h.1.1))

  within_stands : (o : Option (Option (Place × List Lexeme))) → IfAny (IfAny (λ (x : Place × List Lexeme). P (At x.0) × AreNames P x.1)) o → IfAny (λ within. P (At within.1)) (within_of o)
  within_stands None h = tt
  within_stands (Some None) h = tt
  within_stands (Some (Some x)) h = h.0

  pub files_spell : Tells P ascends descends file (λ (tree : FileTree). Every (λ class. Every P (places_in_class class)) tree.classes × IfAny (λ within. P (At within.1)) tree.within)
  files_spell =
      by_made (by_seq (by_optional (by_behind (by_before (by_optional (by_placed (by_symbol Names)))))) (by_seq (by_many (by_made (by_seq (anything _) (by_before (by_symbol ClassDefinitions))) (λ x h. h.1))) (anything _)))
      (λ x h. (h.1.0, within_stands x.0 h.0))
