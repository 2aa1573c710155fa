-- What the classes in the trees of files hold stands where the places of the files stand.
use Rattle.std.proofs.Common.{◌≡◌, ℕ, ◌+◌, Bool, true, false, List, [], ◌∷◌, ◌++◌, map, flat_map, Option, Some, None, ap, sym, ◌∙◌, subst}
use Rattle.mo_syntax.specs.declared.place.Place.{Place}
use Rattle.mo_places.specs.Written.{Written, At, Stated}
use Rattle.mo_syntax.specs.declared.class.ClassDefOf.{ClassDefOf}
use Rattle.mo_syntax.specs.declared.expr.Expr.{Expr}
use Rattle.mo_syntax.specs.declared.expr.ReferenceOf.{ReferenceOf}
use Rattle.mo_syntax.specs.declared.class.ArgumentOf.{ArgumentOf}
use Rattle.mo_syntax.specs.declared.class.Body.{Body, Body-F, roll-Body, map-Body, ind-Body, out-roll-Body}
use Rattle.mo_syntax.specs.declared.class.Body.TheVariants.{rolls-Long, rolls-Short, rolls-Enumeration, rolls-Der}
use Rattle.mo_syntax.specs.declared.class.ComponentOf.{ComponentOf}
use Rattle.mo_syntax.specs.declared.class.Element.{Element, Element-F, roll-Element, map-Element}
use Rattle.mo_syntax.specs.declared.class.ElementFlags.{ElementFlags}
use Rattle.mo_syntax.specs.declared.class.ExtendsOf.{ExtendsOf}
use Rattle.mo_syntax.specs.declared.class.FileTree.{FileTree}
use Rattle.mo_syntax.specs.declared.class.Item.{Item, Item-F, roll-Item, map-Item, out-roll-Item}
use Rattle.mo_syntax.specs.declared.class.Item.TheVariants.{rolls-Import, rolls-Extends, rolls-Member, rolls-Equations, rolls-Algorithm}
use Rattle.mo_syntax.specs.declared.class.Give.{Give, Give-F, roll-Give, map-Give, out-roll-Give}
use Rattle.mo_syntax.specs.declared.class.Give.TheVariants.{rolls-Modify, rolls-Redeclare, rolls-Replaceable}
use Rattle.mo_syntax.specs.declared.class.ModsOf.{ModsOf}
use Rattle.mo_syntax.specs.declared.class.What.{What, What-F, roll-What, map-What, out-roll-What}
use Rattle.mo_syntax.specs.declared.class.What.TheVariants.{rolls-Class, rolls-Component}
use Rattle.mo_syntax.specs.Classes.{Home, Under, Inside, Apart, Declared, Component, Class, Declaration, Outline, Outlined, nothing, both, each, apart, in_class, outline_of_body, outline_of_give, outline_of_item, outline_of_what, outline_of_element}
use Rattle.mo_syntax.specs.ClassTable.{with_outline, in_file, declarations}
use Rattle.mo_syntax.specs.steps.Parts.{marked, declares, outline_of_mods}
use Rattle.mo_syntax.proofs.Outlines.{rolled, at_Long, at_Short, at_Enumeration, at_Der, at_Modify, at_Redeclare, at_Replaceable, at_Import, at_Extends, at_Member, at_Equations, at_Algorithm, at_Class, at_Component}
use Rattle.mo_places.specs.TreeWritten.{Places, in_component, in_subs, in_value, places_of_parts, place_of_import, places_in_body, places_in_give, places_in_item, places_in_what, places_in_element, places_in_class, places_in_files}
use Rattle.mo_places.specs.Stands.{Every}
use Rattle.mo_places.proofs.laws.Standing.{every_append, every_front, every_back}
use Rattle.mo_places.proofs.laws.TreeParts.{places_in_arguments, at_give, at_what, rolled as at_rolled, at_body, at_item}

module _ (P : Written → Type 0) where
  abbrev pub DeclaredStands : Declared → Type 0
  DeclaredStands Component = Unit {0}
  DeclaredStands (Class row) = Every P (places_in_class row.class)

  -- a declaration: its name, and the class that it declares
  abbrev pub DeclarationStands : Declaration → Type 0
  DeclarationStands d = P (At d.place) × DeclaredStands d.what

  -- the classes of a part stand where its places stand
  abbrev Kept : Places → Outline → Type 0
  Kept places part = Every P places → (home : Home) (n : ℕ) → Every DeclarationStands (part.declared home n)

  kept_nothing : (ps : Places) → Kept ps nothing
  kept_nothing ps h home n = tt

  kept_both : (ps qs : Places) (a b : Outline) → Kept ps a → Kept qs b → Kept (ps ++ qs) (both a b)
  kept_both ps qs a b ka kb h home n =
      every_append DeclarationStands (a.declared home n) (b.declared home (n + a.classes)) (ka (every_front P ps qs h) home n) (kb (every_back P ps qs h) home (n + a.classes))

  kept_apart : (ps : Places) (a : Outline) → Kept ps a → Kept ps (apart a)
  kept_apart ps a k h home n = k h Apart n

  kept_behind : (ps qs : Places) (a : Outline) → Kept qs a → Kept (ps ++ qs) a
  kept_behind ps qs a k h = k (every_back P ps qs h)

  kept_front : (ps qs : Places) (a : Outline) → Kept ps a → Kept (ps ++ qs) a
  kept_front ps qs a k h = k (every_front P ps qs h)

  kept_class : (outermost : Bool) (class : ClassDefOf (Outlined Body)) → Kept (places_in_body class.body.0) class.body.1 →
      Kept (At class.place ∷ places_in_body class.body.0) (in_class outermost class)
  kept_class outermost class k h (Under path) n = ((h.0, h), k h.1 (Under (path ++ class.name ∷ [])) (n + 1))
  kept_class outermost class k h (Inside m) n = ((h.0, h), k h.1 (Inside n) (n + 1))
  kept_class outermost class k h Apart n = ((h.0, h), k h.1 (Inside n) (n + 1))

  kept_declares : (ps : Places) (name : List ℕ) (place : Place) (mods : Outline) → Kept ps mods → Kept (At place ∷ ps) (declares name place mods)
  kept_declares ps name place mods k h home n = ((h.0, tt), k h.1 home n)

  kept_marked : (ps : Places) (redeclare : Bool) (part : Outline) → Kept ps part → Kept ps (marked redeclare part)
  kept_marked ps true part k = kept_apart ps part k
  kept_marked ps false part k = k

  kept_as : (ps qs : Places) (a b : Outline) → ps ≡ qs → a ≡ b → Kept qs b → Kept ps a
  kept_as ps qs a b same alike k h = subst (λ (o : Outline). (home : Home) (n : ℕ) → Every DeclarationStands (o.declared home n)) (sym alike) (k (subst (Every P) same h))

  -- ---- every part of a tree

  abbrev KeptBody : Type 0
  KeptBody = (body : Body) × Kept (places_in_body body) (outline_of_body body)

  abbrev KeptGive : Type 0
  KeptGive = (give : Give) × Kept (places_in_give give) (outline_of_give give)

  abbrev KeptItem : Type 0
  KeptItem = (item : Item) × Kept (places_in_item item) (outline_of_item item)

  abbrev KeptWhat : Type 0
  KeptWhat = (what : What) × Kept (places_in_what what) (outline_of_what what)

  abbrev KeptElement : Type 0
  KeptElement = (element : Element) × Kept (places_in_element element) (outline_of_element element)

  kept_items : (items : List KeptItem) → Kept (flat_map places_in_item (map (λ t. t.0) items)) (each outline_of_item (map (λ t. t.0) items))
  kept_items [] = kept_nothing []
  kept_items (t ∷ ts) = kept_both (places_in_item t.0) (flat_map places_in_item (map (λ t. t.0) ts)) (outline_of_item t.0) (each outline_of_item (map (λ t. t.0) ts)) t.1 (kept_items ts)

  abbrev argument_of : ArgumentOf KeptGive → ArgumentOf Give
  argument_of a = record { each = a.each; last = a.last; name = a.name; place = a.place; give = a.give.0 }

  kept_arguments : (xs : List (ArgumentOf KeptGive)) → Kept (places_in_arguments (map argument_of xs)) (each (λ argument. outline_of_give argument.give) (map argument_of xs))
  kept_arguments [] = kept_nothing []
  kept_arguments (t ∷ ts) =
      kept_both (At t.place ∷ places_in_give t.give.0) (places_in_arguments (map argument_of ts)) (outline_of_give t.give.0) (each (λ argument. outline_of_give argument.give) (map argument_of ts))
      (kept_behind (At t.place ∷ []) (places_in_give t.give.0) (outline_of_give t.give.0) t.give.1) (kept_arguments ts)

  abbrev mods_of : ModsOf KeptGive → ModsOf Give
  mods_of mods = record { 0 = map argument_of mods.0 }

  kept_mods : (mods : ModsOf KeptGive) → Kept (places_in_arguments (map argument_of mods.0)) (outline_of_mods (mods_of mods))
  kept_mods mods = kept_apart (places_in_arguments (map argument_of mods.0)) (each (λ argument. outline_of_give argument.give) (map argument_of mods.0)) (kept_arguments mods.0)

  abbrev body_of : Body-F KeptBody KeptGive KeptItem KeptWhat KeptElement → Body
  body_of node = roll-Body (map-Body KeptBody KeptGive KeptItem KeptWhat KeptElement Body Give Item What Element (λ t. t.0) (λ t. t.0) (λ t. t.0) (λ t. t.0) (λ t. t.0) node)

  step_body : (node : Body-F KeptBody KeptGive KeptItem KeptWhat KeptElement) → Kept (places_in_body (body_of node)) (outline_of_body (body_of node))
  step_body (Body-F.Long None items external) =
      let inside : List Item = map (λ t. t.0) items in
      kept_as _ _ _ _ (at_body _ (Body-F.Long None inside external) (out-roll-Body (Body-F.Long None inside external)))
      (ap outline_of_body (rolls-Long None inside external) ∙ at_Long None inside external)
      (kept_both [] (flat_map places_in_item inside) nothing (each outline_of_item inside) (kept_nothing []) (kept_items items))
  step_body (Body-F.Long (Some mods) items external) =
      let inside : List Item = map (λ t. t.0) items in
      kept_as _ _ _ _ (at_body _ (Body-F.Long (Some (mods_of mods)) inside external) (out-roll-Body (Body-F.Long (Some (mods_of mods)) inside external)))
      (ap outline_of_body (rolls-Long (Some (mods_of mods)) inside external) ∙ at_Long (Some (mods_of mods)) inside external)
      (kept_both (places_in_arguments (map argument_of mods.0)) (flat_map places_in_item inside) (outline_of_mods (mods_of mods)) (each outline_of_item inside) (kept_mods mods) (kept_items items))
  step_body (Body-F.Short causal base subs mods) =
      kept_as _ _ _ _ (at_body _ (Body-F.Short causal base subs (mods_of mods)) (out-roll-Body (Body-F.Short causal base subs (mods_of mods))))
      (ap outline_of_body (rolls-Short causal base subs (mods_of mods)) ∙ at_Short causal base subs (mods_of mods))
      (kept_behind (places_of_parts base.parts) (places_in_arguments (map argument_of mods.0) ++ in_subs subs) (outline_of_mods (mods_of mods))
      (kept_front (places_in_arguments (map argument_of mods.0)) (in_subs subs) (outline_of_mods (mods_of mods)) (kept_mods mods)))
  step_body (Body-F.Enumeration literals) =
      kept_as _ [] _ _ (at_body _ (Body-F.Enumeration literals) (out-roll-Body (Body-F.Enumeration literals))) (ap outline_of_body (rolls-Enumeration literals) ∙ at_Enumeration literals) (kept_nothing [])
  step_body (Body-F.Der function names) =
      kept_as _ [] _ _ (at_body _ (Body-F.Der function names) (out-roll-Body (Body-F.Der function names))) (ap outline_of_body (rolls-Der function names) ∙ at_Der function names) (kept_nothing [])

  abbrev give_of : Give-F KeptBody KeptGive KeptItem KeptWhat KeptElement → Give
  give_of node = roll-Give (map-Give KeptBody KeptGive KeptItem KeptWhat KeptElement Body Give Item What Element (λ t. t.0) (λ t. t.0) (λ t. t.0) (λ t. t.0) (λ t. t.0) node)

  step_give : (node : Give-F KeptBody KeptGive KeptItem KeptWhat KeptElement) → Kept (places_in_give (give_of node)) (outline_of_give (give_of node))
  step_give (Give-F.Modify mods value) =
      kept_as _ _ _ _ (at_give _ (Give-F.Modify (mods_of mods) value) (out-roll-Give (Give-F.Modify (mods_of mods) value)))
      (ap outline_of_give (rolls-Modify (mods_of mods) value) ∙ at_Modify (mods_of mods) value)
      (kept_front (places_in_arguments (map argument_of mods.0)) (in_value value) (outline_of_mods (mods_of mods)) (kept_mods mods))
  step_give (Give-F.Redeclare element) =
      kept_as _ _ _ _ (at_give _ (Give-F.Redeclare element.0) (out-roll-Give (Give-F.Redeclare element.0))) (ap outline_of_give (rolls-Redeclare element.0) ∙ at_Redeclare element.0) element.1
  step_give (Give-F.Replaceable element) =
      kept_as _ _ _ _ (at_give _ (Give-F.Replaceable element.0) (out-roll-Give (Give-F.Replaceable element.0))) (ap outline_of_give (rolls-Replaceable element.0) ∙ at_Replaceable element.0) element.1

  abbrev item_of : Item-F KeptBody KeptGive KeptItem KeptWhat KeptElement → Item
  item_of node = roll-Item (map-Item KeptBody KeptGive KeptItem KeptWhat KeptElement Body Give Item What Element (λ t. t.0) (λ t. t.0) (λ t. t.0) (λ t. t.0) (λ t. t.0) node)

  step_item : (node : Item-F KeptBody KeptGive KeptItem KeptWhat KeptElement) → Kept (places_in_item (item_of node)) (outline_of_item (item_of node))
  step_item (Item-F.Import clause) =
      kept_as _ _ _ _ (at_item _ (Item-F.Import clause) (out-roll-Item (Item-F.Import clause))) (ap outline_of_item (rolls-Import clause) ∙ at_Import clause) (kept_nothing (At (place_of_import clause) ∷ []))
  step_item (Item-F.Extends clause) =
      let inside : ExtendsOf Give = record { base = clause.base; mods = mods_of clause.mods; hidden = clause.hidden } in
      kept_as _ _ _ _ (at_item _ (Item-F.Extends inside) (out-roll-Item (Item-F.Extends inside))) (ap outline_of_item (rolls-Extends inside) ∙ at_Extends inside)
      (kept_behind (places_of_parts clause.base.parts) (places_in_arguments (map argument_of clause.mods.0)) (outline_of_mods (mods_of clause.mods)) (kept_mods clause.mods))
  step_item (Item-F.Member element) =
      kept_as _ _ _ _ (at_item _ (Item-F.Member element.0) (out-roll-Item (Item-F.Member element.0))) (ap outline_of_item (rolls-Member element.0) ∙ at_Member element.0) element.1
  step_item (Item-F.Equations initial equations) =
      kept_as _ (map Stated equations) _ _ (at_item _ (Item-F.Equations initial equations) (out-roll-Item (Item-F.Equations initial equations))) (ap outline_of_item (rolls-Equations initial equations) ∙ at_Equations initial equations) (kept_nothing (map Stated equations))
  step_item (Item-F.Algorithm initial statements) =
      kept_as _ [] _ _ (at_item _ (Item-F.Algorithm initial statements) (out-roll-Item (Item-F.Algorithm initial statements))) (ap outline_of_item (rolls-Algorithm initial statements) ∙ at_Algorithm initial statements) (kept_nothing [])

  abbrev what_of : What-F KeptBody KeptGive KeptItem KeptWhat KeptElement → What
  what_of node = roll-What (map-What KeptBody KeptGive KeptItem KeptWhat KeptElement Body Give Item What Element (λ t. t.0) (λ t. t.0) (λ t. t.0) (λ t. t.0) (λ t. t.0) node)

  step_what : (node : What-F KeptBody KeptGive KeptItem KeptWhat KeptElement) → Kept (places_in_what (what_of node)) (outline_of_what (what_of node))
  step_what (What-F.Class class) =
      let inside : ClassDefOf Body = record { kind = class.kind; flags = class.flags; name = class.name; place = class.place; body = class.body.0 } in
      kept_as _ _ _ _ (at_what _ (What-F.Class inside) (out-roll-What (What-F.Class inside))) (ap outline_of_what (rolls-Class inside) ∙ at_Class inside)
      (kept_class false (with_outline inside) class.body.1)
  step_what (What-F.Component component) =
      let inside : ComponentOf Give = record {
        prefix = component.prefix;
        base = component.base;
        base_subs = component.base_subs;
        name = component.name;
        place = component.place;
        subs = component.subs;
        mods = mods_of component.mods;
        binding = component.binding;
        condition = component.condition;
      } in
      kept_as _ _ _ _ (at_what _ (What-F.Component inside) (out-roll-What (What-F.Component inside))) (ap outline_of_what (rolls-Component inside) ∙ at_Component inside)
      (kept_declares (places_of_parts component.base.parts ++ (places_in_arguments (map argument_of component.mods.0) ++ in_component inside)) component.name component.place (outline_of_mods (mods_of component.mods))
      (kept_behind (places_of_parts component.base.parts) (places_in_arguments (map argument_of component.mods.0) ++ in_component inside) (outline_of_mods (mods_of component.mods))
      (kept_front (places_in_arguments (map argument_of component.mods.0)) (in_component inside) (outline_of_mods (mods_of component.mods)) (kept_mods component.mods))))

  abbrev element_of : Element-F KeptBody KeptGive KeptItem KeptWhat KeptElement → Element
  element_of node = roll-Element (map-Element KeptBody KeptGive KeptItem KeptWhat KeptElement Body Give Item What Element (λ t. t.0) (λ t. t.0) (λ t. t.0) (λ t. t.0) (λ t. t.0) node)

  step_element : (node : Element-F KeptBody KeptGive KeptItem KeptWhat KeptElement) → Kept (places_in_element (element_of node)) (outline_of_element (element_of node))
  step_element node = at_limit node.flags node.what node.limit
    where
      at_limit : (flags : ElementFlags) (what : KeptWhat) (limit : Option (ReferenceOf Expr × ModsOf KeptGive)) →
          Kept (places_in_element (element_of (record { flags = flags; what = what; limit = limit }))) (outline_of_element (element_of (record { flags = flags; what = what; limit = limit })))
      at_limit flags what None =
          kept_as _ _ _ _
          (at_rolled flags what.0 None)
          (rolled flags what.0 None)
          (kept_both (places_in_what what.0) [] (marked flags.redeclare (outline_of_what what.0)) nothing
          (kept_marked (places_in_what what.0) flags.redeclare (outline_of_what what.0) what.1) (kept_nothing []))
      at_limit flags what (Some limit) =
          kept_as _ _ _ _
          (at_rolled flags what.0 (Some (limit.0, mods_of limit.1)))
          (rolled flags what.0 (Some (limit.0, mods_of limit.1)))
          (kept_both (places_in_what what.0) (places_of_parts limit.0.parts ++ places_in_arguments (map argument_of limit.1.0)) (marked flags.redeclare (outline_of_what what.0)) (outline_of_mods (mods_of limit.1))
          (kept_marked (places_in_what what.0) flags.redeclare (outline_of_what what.0) what.1)
          (kept_behind (places_of_parts limit.0.parts) (places_in_arguments (map argument_of limit.1.0)) (outline_of_mods (mods_of limit.1)) (kept_mods limit.1)))

  kept_body : (body : Body) → Kept (places_in_body body) (outline_of_body body)
  kept_body = ind-Body (λ b. Kept (places_in_body b) (outline_of_body b)) (λ g. Kept (places_in_give g) (outline_of_give g)) (λ i. Kept (places_in_item i) (outline_of_item i))
      (λ w. Kept (places_in_what w) (outline_of_what w)) (λ e. Kept (places_in_element e) (outline_of_element e))
      (λ x y is. subst (λ z. Kept (places_in_body (roll-Body z)) (outline_of_body (roll-Body z))) is (step_body y))
      (λ x y is. subst (λ z. Kept (places_in_give (roll-Give z)) (outline_of_give (roll-Give z))) is (step_give y))
      (λ x y is. subst (λ z. Kept (places_in_item (roll-Item z)) (outline_of_item (roll-Item z))) is (step_item y))
      (λ x y is. subst (λ z. Kept (places_in_what (roll-What z)) (outline_of_what (roll-What z))) is (step_what y))
      (λ x y is. subst (λ z. Kept (places_in_element (roll-Element z)) (outline_of_element (roll-Element z))) is (step_element y))

  -- ---- files

  kept_classes : (classes : List (ClassDefOf Body)) → Kept (flat_map places_in_class classes) (each (λ class. in_class true (with_outline class)) classes)
  kept_classes [] = kept_nothing []
  kept_classes (class ∷ classes) =
      kept_both (places_in_class class) (flat_map places_in_class classes) (in_class true (with_outline class)) (each (λ class. in_class true (with_outline class)) classes)
      (kept_class true (with_outline class) (kept_body class.body)) (kept_classes classes)

  -- what a file declares, whatever the number of its first class
  pub file_declarations_stand : (file : FileTree) → Every P (flat_map places_in_class file.classes) → (n : ℕ) → Every DeclarationStands ((in_file file).declared Apart n)
  file_declarations_stand file h n = kept_classes file.classes h (Under _) n

  kept_files : (files : List FileTree) → Kept (places_in_files files) (each in_file files)
  kept_files [] = kept_nothing []
  kept_files (file ∷ files) =
      kept_both (flat_map places_in_class file.classes) (places_in_files files) (in_file file) (each in_file files)
      (λ h home n. kept_classes file.classes h (Under _) n) (kept_files files)

  pub declarations_stand : (files : List FileTree) → Every P (places_in_files files) → Every DeclarationStands (declarations files)
  declarations_stand files h = kept_files files h Apart _
