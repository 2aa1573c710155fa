-- What holds of every part of a tree, by how outlines are made of those of their parts.
use Rattle.std.proofs.Common.{◌≡◌, ℕ, Bool, true, false, List, [], ◌∷◌, map, Option, Some, None, ap, sym, ◌∙◌, subst}
use Rattle.mo_syntax.specs.declared.class.ClassDefOf.{ClassDefOf}
use Rattle.mo_syntax.specs.declared.expr.Expr.{Expr}
use Rattle.mo_syntax.specs.declared.expr.ReferenceOf.{ReferenceOf}
use Rattle.mo_syntax.specs.declared.class.ArgumentOf.{ArgumentOf}
use Rattle.mo_syntax.specs.declared.class.Body.{Body, Body-F, roll-Body, map-Body, ind-Body}
use Rattle.mo_syntax.specs.declared.class.Body.TheVariants.{rolls-Long, rolls-Short, rolls-Enumeration, rolls-Der}
use Rattle.mo_syntax.specs.declared.class.ComponentOf.{ComponentOf}
use Rattle.mo_syntax.specs.declared.class.Element.{Element, Element-F, roll-Element, map-Element}
use Rattle.mo_syntax.specs.declared.class.ElementFlags.{ElementFlags}
use Rattle.mo_syntax.specs.declared.class.ExtendsOf.{ExtendsOf}
use Rattle.mo_syntax.specs.declared.class.Item.{Item, Item-F, roll-Item, map-Item}
use Rattle.mo_syntax.specs.declared.class.Item.TheVariants.{rolls-Import, rolls-Extends, rolls-Member, rolls-Equations, rolls-Algorithm}
use Rattle.mo_syntax.specs.declared.class.Give.{Give, Give-F, roll-Give, map-Give}
use Rattle.mo_syntax.specs.declared.class.Give.TheVariants.{rolls-Modify, rolls-Redeclare, rolls-Replaceable}
use Rattle.mo_syntax.specs.declared.class.ModsOf.{ModsOf}
use Rattle.mo_syntax.specs.declared.class.What.{What, What-F, roll-What, map-What}
use Rattle.mo_syntax.specs.declared.class.What.TheVariants.{rolls-Class, rolls-Component}
use Rattle.mo_syntax.specs.declared.place.Place.{Place}
use Rattle.mo_syntax.specs.Classes.{Outline, Outlined, nothing, both, each, apart, in_class, outline_of_body, outline_of_give, outline_of_item, outline_of_what, outline_of_element}
use Rattle.mo_syntax.specs.ClassTable.{with_outline}
use Rattle.mo_syntax.specs.steps.Parts.{marked, declares, outline_of_class, outline_of_mods}
use Rattle.mo_syntax.proofs.Outlines.{rolled, at_Long, at_Short, at_Enumeration, at_Der, at_Modify, at_Redeclare, at_Replaceable, at_Import, at_Extends, at_Member, at_Equations, at_Algorithm, at_Class, at_Component}

-- it holds of what declares nothing, and of what is made of parts of which it holds
pub record Closed (K : Outline → Type 0) : Type 0 where
  pub no_part : K nothing
  pub two_parts : (a b : Outline) → K a → K b → K (both a b)
  pub apart_part : (a : Outline) → K a → K (apart a)
  pub class_part : (outermost : Bool) (class : ClassDefOf (Outlined Body)) → K class.body.1 → K (in_class outermost class)
  pub component_part : (name : List ℕ) (place : Place) (mods : Outline) → K mods → K (declares name place mods)

module _ (K : Outline → Type 0) (closed : Closed K) where
  in_marked : (redeclare : Bool) (part : Outline) → K part → K (marked redeclare part)
  in_marked true part c = closed.apart_part part c
  in_marked false part c = c

  in_as : (a b : Outline) → a ≡ b → K b → K a
  in_as a b same c = subst K (sym same) c

  -- ---- every part of a tree

  abbrev KBody : Type 0
  KBody = (body : Body) × K (outline_of_body body)

  abbrev KGive : Type 0
  KGive = (give : Give) × K (outline_of_give give)

  abbrev KItem : Type 0
  KItem = (item : Item) × K (outline_of_item item)

  abbrev KWhat : Type 0
  KWhat = (what : What) × K (outline_of_what what)

  abbrev KElement : Type 0
  KElement = (element : Element) × K (outline_of_element element)

  in_items : (items : List KItem) → K (each outline_of_item (map (λ t. t.0) items))
  in_items [] = closed.no_part
  in_items (t ∷ ts) = closed.two_parts (outline_of_item t.0) (each outline_of_item (map (λ t. t.0) ts)) t.1 (in_items ts)

  abbrev argument_of : ArgumentOf KGive → ArgumentOf Give
  argument_of a = record { each = a.each; last = a.last; name = a.name; place = a.place; give = a.give.0 }

  in_arguments : (xs : List (ArgumentOf KGive)) → K (each (λ argument. outline_of_give argument.give) (map argument_of xs))
  in_arguments [] = closed.no_part
  in_arguments (t ∷ ts) = closed.two_parts (outline_of_give t.give.0) (each (λ argument. outline_of_give argument.give) (map argument_of ts)) t.give.1 (in_arguments ts)

  abbrev mods_of : ModsOf KGive → ModsOf Give
  mods_of mods = record { 0 = map argument_of mods.0 }

  in_mods : (mods : ModsOf KGive) → K (outline_of_mods (mods_of mods))
  in_mods mods = closed.apart_part (each (λ argument. outline_of_give argument.give) (map argument_of mods.0)) (in_arguments mods.0)

  step_body : (node : Body-F KBody KGive KItem KWhat KElement) →
      K (outline_of_body (roll-Body (map-Body KBody KGive KItem KWhat KElement Body Give Item What Element (λ t. t.0) (λ t. t.0) (λ t. t.0) (λ t. t.0) (λ t. t.0) node)))
  step_body (Body-F.Long None items external) =
      let inside : List Item = map (λ t. t.0) items in
      in_as _ _ (ap outline_of_body (rolls-Long None inside external) ∙ at_Long None inside external)
      (closed.two_parts nothing (each outline_of_item inside) closed.no_part (in_items items))
  step_body (Body-F.Long (Some mods) items external) =
      let inside : List Item = map (λ t. t.0) items in
      in_as _ _ (ap outline_of_body (rolls-Long (Some (mods_of mods)) inside external) ∙ at_Long (Some (mods_of mods)) inside external)
      (closed.two_parts (outline_of_mods (mods_of mods)) (each outline_of_item inside) (in_mods mods) (in_items items))
  step_body (Body-F.Short causal base subs mods) =
      in_as _ _ (ap outline_of_body (rolls-Short causal base subs (mods_of mods)) ∙ at_Short causal base subs (mods_of mods)) (in_mods mods)
  step_body (Body-F.Enumeration literals) = in_as _ _ (ap outline_of_body (rolls-Enumeration literals) ∙ at_Enumeration literals) closed.no_part
  step_body (Body-F.Der function names) = in_as _ _ (ap outline_of_body (rolls-Der function names) ∙ at_Der function names) closed.no_part

  step_give : (node : Give-F KBody KGive KItem KWhat KElement) →
      K (outline_of_give (roll-Give (map-Give KBody KGive KItem KWhat KElement Body Give Item What Element (λ t. t.0) (λ t. t.0) (λ t. t.0) (λ t. t.0) (λ t. t.0) node)))
  step_give (Give-F.Modify mods value) = in_as _ _ (ap outline_of_give (rolls-Modify (mods_of mods) value) ∙ at_Modify (mods_of mods) value) (in_mods mods)
  step_give (Give-F.Redeclare element) = in_as _ _ (ap outline_of_give (rolls-Redeclare element.0) ∙ at_Redeclare element.0) element.1
  step_give (Give-F.Replaceable element) = in_as _ _ (ap outline_of_give (rolls-Replaceable element.0) ∙ at_Replaceable element.0) element.1

  step_item : (node : Item-F KBody KGive KItem KWhat KElement) →
      K (outline_of_item (roll-Item (map-Item KBody KGive KItem KWhat KElement Body Give Item What Element (λ t. t.0) (λ t. t.0) (λ t. t.0) (λ t. t.0) (λ t. t.0) node)))
  step_item (Item-F.Import clause) = in_as _ _ (ap outline_of_item (rolls-Import clause) ∙ at_Import clause) closed.no_part
  step_item (Item-F.Extends clause) =
      let inside : ExtendsOf Give = record { base = clause.base; mods = mods_of clause.mods; hidden = clause.hidden } in
      in_as _ _ (ap outline_of_item (rolls-Extends inside) ∙ at_Extends inside) (in_mods clause.mods)
  step_item (Item-F.Member element) = in_as _ _ (ap outline_of_item (rolls-Member element.0) ∙ at_Member element.0) element.1
  step_item (Item-F.Equations initial equations) = in_as _ _ (ap outline_of_item (rolls-Equations initial equations) ∙ at_Equations initial equations) closed.no_part
  step_item (Item-F.Algorithm initial statements) = in_as _ _ (ap outline_of_item (rolls-Algorithm initial statements) ∙ at_Algorithm initial statements) closed.no_part

  step_what : (node : What-F KBody KGive KItem KWhat KElement) →
      K (outline_of_what (roll-What (map-What KBody KGive KItem KWhat KElement Body Give Item What Element (λ t. t.0) (λ t. t.0) (λ t. t.0) (λ t. t.0) (λ t. t.0) node)))
  step_what (What-F.Class class) =
      let inside : ClassDefOf Body = record { kind = class.kind; flags = class.flags; name = class.name; place = class.place; body = class.body.0 } in
      in_as _ _ (ap outline_of_what (rolls-Class inside) ∙ at_Class inside) (closed.class_part false (with_outline inside) class.body.1)
  step_what (What-F.Component component) =
      let inside : ComponentOf Give = record {
        prefix = component.prefix;
        base = component.base;
        base_subs = component.base_subs;
        name = component.name;
        place = component.place;
        subs = component.subs;
        mods = mods_of component.mods;
        binding = component.binding;
        condition = component.condition;
      } in
      in_as _ _ (ap outline_of_what (rolls-Component inside) ∙ at_Component inside)
      (closed.component_part component.name component.place (outline_of_mods (mods_of component.mods)) (in_mods component.mods))

  step_element : (node : Element-F KBody KGive KItem KWhat KElement) →
      K (outline_of_element (roll-Element (map-Element KBody KGive KItem KWhat KElement Body Give Item What Element (λ t. t.0) (λ t. t.0) (λ t. t.0) (λ t. t.0) (λ t. t.0) node)))
  step_element node = at_limit node.flags node.what node.limit
    where
      at_limit : (flags : ElementFlags) (what : KWhat) (limit : Option (ReferenceOf Expr × ModsOf KGive)) →
          K (outline_of_element (roll-Element (map-Element KBody KGive KItem KWhat KElement Body Give Item What Element (λ t. t.0) (λ t. t.0) (λ t. t.0) (λ t. t.0) (λ t. t.0)
          (record { flags = flags; what = what; limit = limit }))))
      at_limit flags what None = in_as _ _ (rolled flags what.0 None)
          (closed.two_parts (marked flags.redeclare (outline_of_what what.0)) nothing (in_marked flags.redeclare (outline_of_what what.0) what.1) closed.no_part)
      at_limit flags what (Some limit) = in_as _ _ (rolled flags what.0 (Some (limit.0, mods_of limit.1)))
          (closed.two_parts (marked flags.redeclare (outline_of_what what.0)) (outline_of_mods (mods_of limit.1)) (in_marked flags.redeclare (outline_of_what what.0) what.1) (in_mods limit.1))

  in_body : (body : Body) → K (outline_of_body body)
  in_body = ind-Body (λ b. K (outline_of_body b)) (λ g. K (outline_of_give g)) (λ i. K (outline_of_item i)) (λ w. K (outline_of_what w)) (λ e. K (outline_of_element e))
      (λ x y is. subst (λ z. K (outline_of_body (roll-Body z))) is (step_body y))
      (λ x y is. subst (λ z. K (outline_of_give (roll-Give z))) is (step_give y))
      (λ x y is. subst (λ z. K (outline_of_item (roll-Item z))) is (step_item y))
      (λ x y is. subst (λ z. K (outline_of_what (roll-What z))) is (step_what y))
      (λ x y is. subst (λ z. K (outline_of_element (roll-Element z))) is (step_element y))

  -- ---- files

  pub in_classes : (classes : List (ClassDefOf Body)) → K (each (outline_of_class true) classes)
  in_classes [] = closed.no_part
  in_classes (class ∷ classes) =
      closed.two_parts (outline_of_class true class) (each (outline_of_class true) classes)
      (closed.class_part true (with_outline class) (in_body class.body)) (in_classes classes)
