-- The outline of each part of a tree, by the outlines of its own parts.
use Rattle.std.proofs.Common.{◌≡◌, ℕ, Bool, false, List, [], ◌∷◌, map, Option, Some, None, refl, ap, sym, ◌∙◌}
use Rattle.mo_syntax.specs.declared.equation.EquationOf.{EquationOf}
use Rattle.mo_syntax.specs.declared.equation.EquationKind.{EquationKind}
use Rattle.mo_syntax.specs.declared.equation.StatementKind.{StatementKind}
use Rattle.mo_syntax.specs.declared.equation.StatementOf.{StatementOf}
use Rattle.mo_syntax.specs.declared.expr.Expr.{Expr}
use Rattle.mo_syntax.specs.declared.expr.ReferenceOf.{ReferenceOf}
use Rattle.mo_syntax.specs.declared.class.Body.{Body, Body-F, para-roll-Body}
use Rattle.mo_syntax.specs.declared.class.Body.TheVariants.{Long, Short, Enumeration, Der, rolls-Long, rolls-Short, rolls-Enumeration, rolls-Der}
use Rattle.mo_syntax.specs.declared.class.Causal.{Causal}
use Rattle.mo_syntax.specs.declared.class.ClassDefOf.{ClassDefOf}
use Rattle.mo_syntax.specs.declared.class.ComponentOf.{ComponentOf}
use Rattle.mo_syntax.specs.declared.class.Element.{Element, out-Element, roll-Element, roll-out-Element, para-roll-Element}
use Rattle.mo_syntax.specs.declared.class.ElementFlags.{ElementFlags}
use Rattle.mo_syntax.specs.declared.class.ExtendsOf.{ExtendsOf}
use Rattle.mo_syntax.specs.declared.class.Import.{Import}
use Rattle.mo_syntax.specs.declared.class.Item.{Item, Item-F, para-roll-Item}
use Rattle.mo_syntax.specs.declared.class.Item.TheVariants.{Import as imports, Extends, Member, Equations, Algorithm, rolls-Import, rolls-Extends, rolls-Member, rolls-Equations, rolls-Algorithm}
use Rattle.mo_syntax.specs.declared.class.Give.{Give, Give-F, para-roll-Give}
use Rattle.mo_syntax.specs.declared.class.Give.TheVariants.{Modify, Redeclare, Replaceable, rolls-Modify, rolls-Redeclare, rolls-Replaceable}
use Rattle.mo_syntax.specs.declared.class.ModsOf.{ModsOf}
use Rattle.mo_syntax.specs.declared.class.What.{What, What-F, para-roll-What}
use Rattle.mo_syntax.specs.declared.class.What.TheVariants.{Class, Component, rolls-Class, rolls-Component}
use Rattle.mo_syntax.specs.Classes.{Outline, nothing, both, each, apart, in_body, in_give, in_item, in_what, in_element, outline_of_body, outline_of_give, outline_of_item, outline_of_what, outline_of_element}
use Rattle.mo_syntax.specs.steps.Parts.{outline_of_mods, outline_of_extending, outline_of_limit, outline_of_class, declares, outline_of_component, marked}

pub each_map : {A B : Type 0} (f : B → Outline) (g : A → B) (xs : List A) → each f (map g xs) ≡ each (λ x. f (g x)) xs
each_map f g [] = refl
each_map f g (x ∷ xs) = ap (λ o. both (f (g x)) o) (each_map f g xs)

pub at_Long : (extending : Option (ModsOf Give)) (items : List Item) (external : Bool) →
    outline_of_body (Long extending items external) ≡ both (outline_of_extending extending) (each outline_of_item items)
at_Long None items external = ap outline_of_body (sym (rolls-Long None items external))
    ∙ para-roll-Body Outline Outline Outline Outline Outline in_body in_give in_item in_what in_element (Body-F.Long None items external)
    ∙ ap (λ o. both nothing o) (each_map (λ item. item.1) (λ i. (i, outline_of_item i)) items)
at_Long (Some mods) items external = ap outline_of_body (sym (rolls-Long (Some mods) items external))
    ∙ para-roll-Body Outline Outline Outline Outline Outline in_body in_give in_item in_what in_element (Body-F.Long (Some mods) items external)
    ∙ ap (λ o. both (apart o) (each {A = Item × Outline} (λ item. item.1) (map (λ i. (i, outline_of_item i)) items))) (each_map _ _ mods.0)
    ∙ ap (λ o. both (outline_of_mods mods) o) (each_map (λ item. item.1) (λ i. (i, outline_of_item i)) items)

pub at_Short : (causal : Causal) (base : ReferenceOf Expr) (subs : List (Option Expr)) (mods : ModsOf Give) →
    outline_of_body (Short causal base subs mods) ≡ outline_of_mods mods
at_Short causal base subs mods = ap outline_of_body (sym (rolls-Short causal base subs mods))
    ∙ para-roll-Body Outline Outline Outline Outline Outline in_body in_give in_item in_what in_element (Body-F.Short causal base subs mods)
    ∙ ap apart (each_map _ _ mods.0)

pub at_Enumeration : (literals : Option (List (List ℕ))) → outline_of_body (Enumeration literals) ≡ nothing
at_Enumeration literals = ap outline_of_body (sym (rolls-Enumeration literals))
    ∙ para-roll-Body Outline Outline Outline Outline Outline in_body in_give in_item in_what in_element (Body-F.Enumeration literals)

pub at_Der : (function : ReferenceOf Expr) (names : List (List ℕ)) → outline_of_body (Der function names) ≡ nothing
at_Der function names = ap outline_of_body (sym (rolls-Der function names))
    ∙ para-roll-Body Outline Outline Outline Outline Outline in_body in_give in_item in_what in_element (Body-F.Der function names)

pub at_Modify : (mods : ModsOf Give) (value : Option Expr) → outline_of_give (Modify mods value) ≡ outline_of_mods mods
at_Modify mods value = ap outline_of_give (sym (rolls-Modify mods value))
    ∙ para-roll-Give Outline Outline Outline Outline Outline in_body in_give in_item in_what in_element (Give-F.Modify mods value)
    ∙ ap apart (each_map _ _ mods.0)

pub at_Redeclare : (element : Element) → outline_of_give (Redeclare element) ≡ outline_of_element element
at_Redeclare element = ap outline_of_give (sym (rolls-Redeclare element))
    ∙ para-roll-Give Outline Outline Outline Outline Outline in_body in_give in_item in_what in_element (Give-F.Redeclare element)

pub at_Replaceable : (element : Element) → outline_of_give (Replaceable element) ≡ outline_of_element element
at_Replaceable element = ap outline_of_give (sym (rolls-Replaceable element))
    ∙ para-roll-Give Outline Outline Outline Outline Outline in_body in_give in_item in_what in_element (Give-F.Replaceable element)

pub at_Import : (clause : Import) → outline_of_item (imports clause) ≡ nothing
at_Import clause = ap outline_of_item (sym (rolls-Import clause))
    ∙ para-roll-Item Outline Outline Outline Outline Outline in_body in_give in_item in_what in_element (Item-F.Import clause)

pub at_Extends : (clause : ExtendsOf Give) → outline_of_item (Extends clause) ≡ outline_of_mods clause.mods
at_Extends clause = ap outline_of_item (sym (rolls-Extends clause))
    ∙ para-roll-Item Outline Outline Outline Outline Outline in_body in_give in_item in_what in_element (Item-F.Extends clause)
    ∙ ap apart (each_map _ _ clause.mods.0)

pub at_Member : (element : Element) → outline_of_item (Member element) ≡ outline_of_element element
at_Member element = ap outline_of_item (sym (rolls-Member element))
    ∙ para-roll-Item Outline Outline Outline Outline Outline in_body in_give in_item in_what in_element (Item-F.Member element)

pub at_Equations : (initial : Bool) (equations : List (EquationOf EquationKind)) → outline_of_item (Equations initial equations) ≡ nothing
at_Equations initial equations = ap outline_of_item (sym (rolls-Equations initial equations))
    ∙ para-roll-Item Outline Outline Outline Outline Outline in_body in_give in_item in_what in_element (Item-F.Equations initial equations)

pub at_Algorithm : (initial : Bool) (statements : List (StatementOf StatementKind)) → outline_of_item (Algorithm initial statements) ≡ nothing
at_Algorithm initial statements = ap outline_of_item (sym (rolls-Algorithm initial statements))
    ∙ para-roll-Item Outline Outline Outline Outline Outline in_body in_give in_item in_what in_element (Item-F.Algorithm initial statements)

pub at_Class : (class : ClassDefOf Body) → outline_of_what (Class class) ≡ outline_of_class false class
at_Class class = ap outline_of_what (sym (rolls-Class class))
    ∙ para-roll-What Outline Outline Outline Outline Outline in_body in_give in_item in_what in_element (What-F.Class class)

pub at_Component : (component : ComponentOf Give) → outline_of_what (Component component) ≡ outline_of_component component
at_Component component = ap outline_of_what (sym (rolls-Component component))
    ∙ para-roll-What Outline Outline Outline Outline Outline in_body in_give in_item in_what in_element (What-F.Component component)
    ∙ ap (declares component.name component.place) (ap apart (each_map _ _ component.mods.0))

pub rolled : (flags : ElementFlags) (what : What) (limit : Option (ReferenceOf Expr × ModsOf Give)) →
    outline_of_element (roll-Element (record { flags = flags; what = what; limit = limit })) ≡ both (marked flags.redeclare (outline_of_what what)) (outline_of_limit limit)
rolled flags what None =
    para-roll-Element Outline Outline Outline Outline Outline in_body in_give in_item in_what in_element (record { flags = flags; what = what; limit = None })
rolled flags what (Some limit) =
    para-roll-Element Outline Outline Outline Outline Outline in_body in_give in_item in_what in_element (record { flags = flags; what = what; limit = Some limit })
    ∙ ap (λ o. both (marked flags.redeclare (outline_of_what what)) (apart o)) (each_map _ _ limit.1.0)

pub at_Element : (element : Element) →
    outline_of_element element ≡ both (marked (out-Element element).flags.redeclare (outline_of_what (out-Element element).what)) (outline_of_limit (out-Element element).limit)
at_Element element = ap outline_of_element (sym (roll-out-Element element)) ∙ rolled (out-Element element).flags (out-Element element).what (out-Element element).limit
