-- What files declare has names that pass a test, where the names in their trees do.
use Rattle.std.proofs.Common.{◌≡◌, ℕ, ◌+◌, Bool, true, false, List, [], ◌∷◌, ◌++◌, map, Option, Some, None, IsTrue, refl, ap, sym, ◌∙◌, subst}
use Rattle.std.specs.Prelude.{◌&&◌}
use Rattle.std.specs.List.{list_all}
use Rattle.mo_syntax.specs.declared.class.ArgumentOf.{ArgumentOf}
use Rattle.mo_syntax.specs.declared.class.Body.{Body, Body-F, roll-Body, map-Body, ind-Body, out-roll-Body}
use Rattle.mo_syntax.specs.declared.class.Body.TheVariants.{rolls-Long, rolls-Short, rolls-Enumeration, rolls-Der}
use Rattle.mo_syntax.specs.declared.class.ClassDefOf.{ClassDefOf}
use Rattle.mo_syntax.specs.declared.class.ComponentOf.{ComponentOf}
use Rattle.mo_syntax.specs.declared.class.Element.{Element, Element-F, roll-Element, map-Element, out-roll-Element}
use Rattle.mo_syntax.specs.declared.class.ElementFlags.{ElementFlags}
use Rattle.mo_syntax.specs.declared.class.ExtendsOf.{ExtendsOf}
use Rattle.mo_syntax.specs.declared.class.FileTree.{FileTree}
use Rattle.mo_syntax.specs.declared.class.Give.{Give, Give-F, roll-Give, map-Give, out-roll-Give}
use Rattle.mo_syntax.specs.declared.class.Give.TheVariants.{rolls-Modify, rolls-Redeclare, rolls-Replaceable}
use Rattle.mo_syntax.specs.declared.class.Item.{Item, Item-F, roll-Item, map-Item, out-roll-Item}
use Rattle.mo_syntax.specs.declared.class.Item.TheVariants.{rolls-Import, rolls-Extends, rolls-Member, rolls-Equations, rolls-Algorithm}
use Rattle.mo_syntax.specs.declared.class.ModsOf.{ModsOf}
use Rattle.mo_syntax.specs.declared.class.What.{What, What-F, roll-What, map-What, out-roll-What}
use Rattle.mo_syntax.specs.declared.class.What.TheVariants.{rolls-Class, rolls-Component}
use Rattle.mo_syntax.specs.declared.expr.Expr.{Expr}
use Rattle.mo_syntax.specs.declared.expr.ReferenceOf.{ReferenceOf}
use Rattle.mo_syntax.specs.declared.place.Place.{Place}
use Rattle.mo_syntax.specs.declared.text.Path.{Path}
use Rattle.mo_syntax.specs.Classes.{Home, Under, Inside, Apart, Declared, Component, Class, Declaration, Outline, nothing, both, each, apart, outline_of_body, outline_of_give, outline_of_item, outline_of_what, outline_of_element}
use Rattle.mo_syntax.specs.ClassTable.{names_of, in_file, declarations}
use Rattle.mo_syntax.specs.steps.Parts.{marked, declares, outline_of_class, outline_of_mods}
use Rattle.mo_syntax.specs.SoundTree.{Naming, argument_by, body_by, give_by, item_by, what_by, element_by, is_sound_body, is_sound_give, is_sound_item, is_sound_what, is_sound_element, is_sound_class, is_sound_within, is_sound_file, is_sound_mods, is_sound_path, is_sound_import, is_sound_equation, is_sound_statement, is_sound_option, is_sound_reference, are_sound_options}
use Rattle.mo_syntax.proofs.Outlines.{rolled, at_Long, at_Short, at_Enumeration, at_Der, at_Modify, at_Redeclare, at_Replaceable, at_Import, at_Extends, at_Member, at_Equations, at_Algorithm, at_Class, at_Component}
use Rattle.mo_syntax.proofs.SoundParts.{body_is, give_is, item_is, what_is, element_is}
use Rattle.mo_scope.specs.Places.{Every}
use Rattle.mo_scope.proofs.laws.Standing.{every_append}
use Rattle.mo_path_names.proofs.laws.Testing.{all_last, left_of, right_of}

module _ (naming : Naming) where
  -- the path that an element's name stands under
  abbrev pub HomeNamed : Home → Type 0
  HomeNamed (Under path) = IsTrue (list_all naming path)
  HomeNamed (Inside n) = Unit {0}
  HomeNamed Apart = Unit {0}

  abbrev pub DeclaredSound : Declared → Type 0
  DeclaredSound Component = Unit {0}
  DeclaredSound (Class row) = IsTrue (is_sound_class naming row.class)

  -- a class is declared by its name
  abbrev pub NamedAs : List ℕ → Declared → Type 0
  NamedAs name Component = Unit {0}
  NamedAs name (Class row) = name ≡ row.class.name

  pub record DeclarationNamed (d : Declaration) : Type 0 where
    pub home : HomeNamed d.home
    pub sound : DeclaredSound d.what
    pub as_class : NamedAs d.name d.what

  -- what a part declares has such names where the part passes
  abbrev Kept : Bool → Outline → Type 0
  Kept sound part = IsTrue sound → (home : Home) → HomeNamed home → (n : ℕ) → Every DeclarationNamed (part.declared home n)

  kept_nothing : (a : Bool) → Kept a nothing
  kept_nothing a h home at n = tt

  kept_both : (a b : Bool) (o p : Outline) → Kept a o → Kept b p → Kept (a && b) (both o p)
  kept_both a b o p ka kb h home at n =
      every_append DeclarationNamed (o.declared home n) (p.declared home (n + o.classes)) (ka (left_of a b h) home at n) (kb (right_of a b h) home at (n + o.classes))

  kept_apart : (a : Bool) (o : Outline) → Kept a o → Kept a (apart o)
  kept_apart a o k h home at n = k h Apart tt n

  kept_behind : (a b : Bool) (o : Outline) → Kept b o → Kept (a && b) o
  kept_behind a b o k h = k (right_of a b h)

  kept_front : (a b : Bool) (o : Outline) → Kept a o → Kept (a && b) o
  kept_front a b o k h = k (left_of a b h)

  kept_as : (a b : Bool) (o p : Outline) → a ≡ b → o ≡ p → Kept b p → Kept a o
  kept_as a b o p same alike k h = subst (λ (q : Outline). (home : Home) → HomeNamed home → (n : ℕ) → Every DeclarationNamed (q.declared home n)) (sym alike) (k (sym same ∙ h))

  kept_class : (outermost : Bool) (class : ClassDefOf Body) → Kept (is_sound_body naming class.body) (outline_of_body class.body) → Kept (is_sound_class naming class) (outline_of_class outermost class)
  kept_class outermost class k h (Under path) at n =
      (record { home = at; sound = h; as_class = refl }, k (right_of (naming class.name) (is_sound_body naming class.body) h) (Under (path ++ class.name ∷ [])) (all_last naming path class.name at (left_of (naming class.name) (is_sound_body naming class.body) h)) (n + 1))
  kept_class outermost class k h (Inside m) at n = (record { home = tt; sound = h; as_class = refl }, k (right_of (naming class.name) (is_sound_body naming class.body) h) (Inside n) tt (n + 1))
  kept_class outermost class k h Apart at n = (record { home = tt; sound = h; as_class = refl }, k (right_of (naming class.name) (is_sound_body naming class.body) h) (Inside n) tt (n + 1))

  kept_declares : (a : Bool) (name : List ℕ) (place : Place) (mods : Outline) → Kept a mods → Kept a (declares name place mods)
  kept_declares a name place mods k h home at n = (record { home = at; sound = tt; as_class = tt }, k h home at n)

  kept_marked : (a : Bool) (redeclare : Bool) (part : Outline) → Kept a part → Kept a (marked redeclare part)
  kept_marked a true part k = kept_apart a part k
  kept_marked a false part k = k

  -- ---- every part of a tree

  abbrev KeptBody : Type 0
  KeptBody = (body : Body) × Kept (is_sound_body naming body) (outline_of_body body)

  abbrev KeptGive : Type 0
  KeptGive = (give : Give) × Kept (is_sound_give naming give) (outline_of_give give)

  abbrev KeptItem : Type 0
  KeptItem = (item : Item) × Kept (is_sound_item naming item) (outline_of_item item)

  abbrev KeptWhat : Type 0
  KeptWhat = (what : What) × Kept (is_sound_what naming what) (outline_of_what what)

  abbrev KeptElement : Type 0
  KeptElement = (element : Element) × Kept (is_sound_element naming element) (outline_of_element element)

  kept_items : (items : List KeptItem) → Kept (list_all (is_sound_item naming) (map (λ t. t.0) items)) (each outline_of_item (map (λ t. t.0) items))
  kept_items [] = kept_nothing true
  kept_items (t ∷ ts) = kept_both (is_sound_item naming t.0) (list_all (is_sound_item naming) (map (λ t. t.0) ts)) (outline_of_item t.0) (each outline_of_item (map (λ t. t.0) ts)) t.1 (kept_items ts)

  abbrev argument_of : ArgumentOf KeptGive → ArgumentOf Give
  argument_of a = record { each = a.each; last = a.last; name = a.name; place = a.place; give = a.give.0 }

  kept_arguments : (xs : List (ArgumentOf KeptGive)) → Kept (list_all (argument_by naming (is_sound_give naming)) (map argument_of xs)) (each (λ argument. outline_of_give argument.give) (map argument_of xs))
  kept_arguments [] = kept_nothing true
  kept_arguments (t ∷ ts) =
      kept_both (argument_by naming (is_sound_give naming) (argument_of t)) (list_all (argument_by naming (is_sound_give naming)) (map argument_of ts)) (outline_of_give t.give.0) (each (λ argument. outline_of_give argument.give) (map argument_of ts))
      (kept_behind (is_sound_path naming t.name) (is_sound_give naming t.give.0) (outline_of_give t.give.0) t.give.1) (kept_arguments ts)

  abbrev mods_of : ModsOf KeptGive → ModsOf Give
  mods_of mods = record { 0 = map argument_of mods.0 }

  kept_mods : (mods : ModsOf KeptGive) → Kept (is_sound_mods naming (mods_of mods)) (outline_of_mods (mods_of mods))
  kept_mods mods = kept_apart (is_sound_mods naming (mods_of mods)) (each (λ argument. outline_of_give argument.give) (map argument_of mods.0)) (kept_arguments mods.0)

  -- a part whose form is known
  body_as : (layer : Body-F Body Give Item What Element) → is_sound_body naming (roll-Body layer) ≡ body_by naming (is_sound_give naming) (is_sound_item naming) layer
  body_as layer = body_is naming (roll-Body layer) ∙ ap (body_by naming (is_sound_give naming) (is_sound_item naming)) (out-roll-Body layer)

  give_as : (layer : Give-F Body Give Item What Element) → is_sound_give naming (roll-Give layer) ≡ give_by naming (is_sound_give naming) (is_sound_element naming) layer
  give_as layer = give_is naming (roll-Give layer) ∙ ap (give_by naming (is_sound_give naming) (is_sound_element naming)) (out-roll-Give layer)

  item_as : (layer : Item-F Body Give Item What Element) → is_sound_item naming (roll-Item layer) ≡ item_by naming (is_sound_give naming) (is_sound_element naming) layer
  item_as layer = item_is naming (roll-Item layer) ∙ ap (item_by naming (is_sound_give naming) (is_sound_element naming)) (out-roll-Item layer)

  what_as : (layer : What-F Body Give Item What Element) → is_sound_what naming (roll-What layer) ≡ what_by naming (is_sound_body naming) (is_sound_give naming) layer
  what_as layer = what_is naming (roll-What layer) ∙ ap (what_by naming (is_sound_body naming) (is_sound_give naming)) (out-roll-What layer)

  element_as : (layer : Element-F Body Give Item What Element) → is_sound_element naming (roll-Element layer) ≡ element_by naming (is_sound_give naming) (is_sound_what naming) layer
  element_as layer = element_is naming (roll-Element layer) ∙ ap (element_by naming (is_sound_give naming) (is_sound_what naming)) (out-roll-Element layer)

  abbrev body_of : Body-F KeptBody KeptGive KeptItem KeptWhat KeptElement → Body
  body_of node = roll-Body (map-Body KeptBody KeptGive KeptItem KeptWhat KeptElement Body Give Item What Element (λ t. t.0) (λ t. t.0) (λ t. t.0) (λ t. t.0) (λ t. t.0) node)

  step_body : (node : Body-F KeptBody KeptGive KeptItem KeptWhat KeptElement) → Kept (is_sound_body naming (body_of node)) (outline_of_body (body_of node))
  step_body (Body-F.Long None items external) =
      let inside : List Item = map (λ t. t.0) items in
      kept_as _ _ _ _ (body_as (Body-F.Long None inside external))
      (ap outline_of_body (rolls-Long None inside external) ∙ at_Long None inside external)
      (kept_both true (list_all (is_sound_item naming) inside) nothing (each outline_of_item inside) (kept_nothing true) (kept_items items))
  step_body (Body-F.Long (Some mods) items external) =
      let inside : List Item = map (λ t. t.0) items in
      kept_as _ _ _ _ (body_as (Body-F.Long (Some (mods_of mods)) inside external))
      (ap outline_of_body (rolls-Long (Some (mods_of mods)) inside external) ∙ at_Long (Some (mods_of mods)) inside external)
      (kept_both (is_sound_mods naming (mods_of mods)) (list_all (is_sound_item naming) inside) (outline_of_mods (mods_of mods)) (each outline_of_item inside) (kept_mods mods) (kept_items items))
  step_body (Body-F.Short causal base subs mods) =
      kept_as _ _ _ _ (body_as (Body-F.Short causal base subs (mods_of mods)))
      (ap outline_of_body (rolls-Short causal base subs (mods_of mods)) ∙ at_Short causal base subs (mods_of mods))
      (kept_behind (is_sound_reference naming base) (are_sound_options naming subs && is_sound_mods naming (mods_of mods)) (outline_of_mods (mods_of mods))
      (kept_behind (are_sound_options naming subs) (is_sound_mods naming (mods_of mods)) (outline_of_mods (mods_of mods)) (kept_mods mods)))
  step_body (Body-F.Enumeration literals) =
      kept_as _ _ _ _ (body_as (Body-F.Enumeration literals)) (ap outline_of_body (rolls-Enumeration literals) ∙ at_Enumeration literals) (kept_nothing _)
  step_body (Body-F.Der function names) =
      kept_as _ _ _ _ (body_as (Body-F.Der function names)) (ap outline_of_body (rolls-Der function names) ∙ at_Der function names) (kept_nothing _)

  abbrev give_of : Give-F KeptBody KeptGive KeptItem KeptWhat KeptElement → Give
  give_of node = roll-Give (map-Give KeptBody KeptGive KeptItem KeptWhat KeptElement Body Give Item What Element (λ t. t.0) (λ t. t.0) (λ t. t.0) (λ t. t.0) (λ t. t.0) node)

  step_give : (node : Give-F KeptBody KeptGive KeptItem KeptWhat KeptElement) → Kept (is_sound_give naming (give_of node)) (outline_of_give (give_of node))
  step_give (Give-F.Modify mods value) =
      kept_as _ _ _ _ (give_as (Give-F.Modify (mods_of mods) value))
      (ap outline_of_give (rolls-Modify (mods_of mods) value) ∙ at_Modify (mods_of mods) value)
      (kept_front (is_sound_mods naming (mods_of mods)) (is_sound_option naming value) (outline_of_mods (mods_of mods)) (kept_mods mods))
  step_give (Give-F.Redeclare element) =
      kept_as _ _ _ _ (give_as (Give-F.Redeclare element.0)) (ap outline_of_give (rolls-Redeclare element.0) ∙ at_Redeclare element.0) element.1
  step_give (Give-F.Replaceable element) =
      kept_as _ _ _ _ (give_as (Give-F.Replaceable element.0)) (ap outline_of_give (rolls-Replaceable element.0) ∙ at_Replaceable element.0) element.1

  abbrev item_of : Item-F KeptBody KeptGive KeptItem KeptWhat KeptElement → Item
  item_of node = roll-Item (map-Item KeptBody KeptGive KeptItem KeptWhat KeptElement Body Give Item What Element (λ t. t.0) (λ t. t.0) (λ t. t.0) (λ t. t.0) (λ t. t.0) node)

  step_item : (node : Item-F KeptBody KeptGive KeptItem KeptWhat KeptElement) → Kept (is_sound_item naming (item_of node)) (outline_of_item (item_of node))
  step_item (Item-F.Import clause) =
      kept_as _ _ _ _ (item_as (Item-F.Import clause)) (ap outline_of_item (rolls-Import clause) ∙ at_Import clause) (kept_nothing (is_sound_import naming clause))
  step_item (Item-F.Extends clause) =
      let inside : ExtendsOf Give = record { base = clause.base; mods = mods_of clause.mods; hidden = clause.hidden } in
      kept_as _ _ _ _ (item_as (Item-F.Extends inside)) (ap outline_of_item (rolls-Extends inside) ∙ at_Extends inside)
      (kept_behind (is_sound_reference naming clause.base) (is_sound_mods naming (mods_of clause.mods)) (outline_of_mods (mods_of clause.mods)) (kept_mods clause.mods))
  step_item (Item-F.Member element) =
      kept_as _ _ _ _ (item_as (Item-F.Member element.0)) (ap outline_of_item (rolls-Member element.0) ∙ at_Member element.0) element.1
  step_item (Item-F.Equations initial equations) =
      kept_as _ _ _ _ (item_as (Item-F.Equations initial equations)) (ap outline_of_item (rolls-Equations initial equations) ∙ at_Equations initial equations) (kept_nothing (list_all (is_sound_equation naming) equations))
  step_item (Item-F.Algorithm initial statements) =
      kept_as _ _ _ _ (item_as (Item-F.Algorithm initial statements)) (ap outline_of_item (rolls-Algorithm initial statements) ∙ at_Algorithm initial statements) (kept_nothing (list_all (is_sound_statement naming) statements))

  abbrev what_of : What-F KeptBody KeptGive KeptItem KeptWhat KeptElement → What
  what_of node = roll-What (map-What KeptBody KeptGive KeptItem KeptWhat KeptElement Body Give Item What Element (λ t. t.0) (λ t. t.0) (λ t. t.0) (λ t. t.0) (λ t. t.0) node)

  step_what : (node : What-F KeptBody KeptGive KeptItem KeptWhat KeptElement) → Kept (is_sound_what naming (what_of node)) (outline_of_what (what_of node))
  step_what (What-F.Class class) =
      let inside : ClassDefOf Body = record { kind = class.kind; flags = class.flags; name = class.name; place = class.place; body = class.body.0 } in
      kept_as _ _ _ _ (what_as (What-F.Class inside)) (ap outline_of_what (rolls-Class inside) ∙ at_Class inside)
      (kept_class false inside class.body.1)
  step_what (What-F.Component component) =
      let inside : ComponentOf Give = record {
        prefix = component.prefix;
        base = component.base;
        base_subs = component.base_subs;
        name = component.name;
        place = component.place;
        subs = component.subs;
        mods = mods_of component.mods;
        binding = component.binding;
        condition = component.condition;
      } in
      let after : Bool = is_sound_option naming component.binding && is_sound_option naming component.condition in
      let mods : Bool = is_sound_mods naming (mods_of component.mods) && after in
      let subs : Bool = are_sound_options naming component.subs && mods in
      let base_subs : Bool = are_sound_options naming component.base_subs && subs in
      let outline : Outline = outline_of_mods (mods_of component.mods) in
      kept_as _ _ _ _ (what_as (What-F.Component inside)) (ap outline_of_what (rolls-Component inside) ∙ at_Component inside)
      (kept_declares (naming component.name && (is_sound_reference naming component.base && base_subs)) component.name component.place outline
      (kept_behind (naming component.name) (is_sound_reference naming component.base && base_subs) outline
      (kept_behind (is_sound_reference naming component.base) base_subs outline
      (kept_behind (are_sound_options naming component.base_subs) subs outline
      (kept_behind (are_sound_options naming component.subs) mods outline
      (kept_front (is_sound_mods naming (mods_of component.mods)) after outline (kept_mods component.mods)))))))

  abbrev element_of : Element-F KeptBody KeptGive KeptItem KeptWhat KeptElement → Element
  element_of node = roll-Element (map-Element KeptBody KeptGive KeptItem KeptWhat KeptElement Body Give Item What Element (λ t. t.0) (λ t. t.0) (λ t. t.0) (λ t. t.0) (λ t. t.0) node)

  abbrev an_element : ElementFlags → What → Option (ReferenceOf Expr × ModsOf Give) → Element-F Body Give Item What Element
  an_element flags what limit = record { flags = flags; what = what; limit = limit }

  step_element : (node : Element-F KeptBody KeptGive KeptItem KeptWhat KeptElement) → Kept (is_sound_element naming (element_of node)) (outline_of_element (element_of node))
  step_element node = at_limit node.flags node.what node.limit
    where
      at_limit : (flags : ElementFlags) (what : KeptWhat) (limit : Option (ReferenceOf Expr × ModsOf KeptGive)) →
          Kept (is_sound_element naming (element_of (record { flags = flags; what = what; limit = limit }))) (outline_of_element (element_of (record { flags = flags; what = what; limit = limit })))
      at_limit flags what None =
          kept_as _ _ _ _ (element_as (an_element flags what.0 None)) (rolled flags what.0 None)
          (kept_both (is_sound_what naming what.0) true (marked flags.redeclare (outline_of_what what.0)) nothing
          (kept_marked (is_sound_what naming what.0) flags.redeclare (outline_of_what what.0) what.1) (kept_nothing true))
      at_limit flags what (Some limit) =
          kept_as _ _ _ _ (element_as (an_element flags what.0 (Some (limit.0, mods_of limit.1)))) (rolled flags what.0 (Some (limit.0, mods_of limit.1)))
          (kept_both (is_sound_what naming what.0) (is_sound_reference naming limit.0 && is_sound_mods naming (mods_of limit.1)) (marked flags.redeclare (outline_of_what what.0)) (outline_of_mods (mods_of limit.1))
          (kept_marked (is_sound_what naming what.0) flags.redeclare (outline_of_what what.0) what.1)
          (kept_behind (is_sound_reference naming limit.0) (is_sound_mods naming (mods_of limit.1)) (outline_of_mods (mods_of limit.1)) (kept_mods limit.1)))

  kept_body : (body : Body) → Kept (is_sound_body naming body) (outline_of_body body)
  kept_body = ind-Body (λ b. Kept (is_sound_body naming b) (outline_of_body b)) (λ g. Kept (is_sound_give naming g) (outline_of_give g)) (λ i. Kept (is_sound_item naming i) (outline_of_item i))
      (λ w. Kept (is_sound_what naming w) (outline_of_what w)) (λ e. Kept (is_sound_element naming e) (outline_of_element e))
      (λ x y is. subst (λ z. Kept (is_sound_body naming (roll-Body z)) (outline_of_body (roll-Body z))) is (step_body y))
      (λ x y is. subst (λ z. Kept (is_sound_give naming (roll-Give z)) (outline_of_give (roll-Give z))) is (step_give y))
      (λ x y is. subst (λ z. Kept (is_sound_item naming (roll-Item z)) (outline_of_item (roll-Item z))) is (step_item y))
      (λ x y is. subst (λ z. Kept (is_sound_what naming (roll-What z)) (outline_of_what (roll-What z))) is (step_what y))
      (λ x y is. subst (λ z. Kept (is_sound_element naming (roll-Element z)) (outline_of_element (roll-Element z))) is (step_element y))

  -- ---- files

  kept_classes : (classes : List (ClassDefOf Body)) → Kept (list_all (is_sound_class naming) classes) (each (outline_of_class true) classes)
  kept_classes [] = kept_nothing true
  kept_classes (class ∷ classes) =
      kept_both (is_sound_class naming class) (list_all (is_sound_class naming) classes) (outline_of_class true class) (each (outline_of_class true) classes)
      (kept_class true class (kept_body class.body)) (kept_classes classes)

  within_named : (within : Option (Path × Place)) → IsTrue (is_sound_within naming within) → IsTrue (list_all naming (names_of within))
  within_named None h = refl
  within_named (Some within) h = h

  kept_files : (files : List FileTree) → Kept (list_all (is_sound_file naming) files) (each in_file files)
  kept_files [] = kept_nothing true
  kept_files (file ∷ files) =
      kept_both (is_sound_file naming file) (list_all (is_sound_file naming) files) (in_file file) (each in_file files)
      (λ h home at n.
      kept_classes file.classes (right_of (is_sound_within naming file.within) (list_all (is_sound_class naming) file.classes) h) (Under (names_of file.within))
      (within_named file.within (left_of (is_sound_within naming file.within) (list_all (is_sound_class naming) file.classes) h)) n) (kept_files files)

  pub declarations_named : (files : List FileTree) → IsTrue (list_all (is_sound_file naming) files) → Every DeclarationNamed (declarations files)
  declarations_named files h = kept_files files h Apart tt _
