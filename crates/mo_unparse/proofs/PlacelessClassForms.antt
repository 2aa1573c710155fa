-- What a class, an element, a modifier and what they hold are without their places.
use Rattle.std.proofs.Common.{◌≡◌, ℕ, Bool, List, map, Option, Some, None, refl, ap, sym, ◌∙◌}
use Rattle.std.specs.Option.{option_map}
use Rattle.mo_syntax.specs.declared.equation.EquationOf.{EquationOf}
use Rattle.mo_syntax.specs.declared.equation.EquationKind.{EquationKind}
use Rattle.mo_syntax.specs.declared.equation.StatementOf.{StatementOf}
use Rattle.mo_syntax.specs.declared.equation.StatementKind.{StatementKind}
use Rattle.mo_syntax.specs.declared.expr.Expr.{Expr}
use Rattle.mo_syntax.specs.declared.expr.ReferenceOf.{ReferenceOf}
use Rattle.mo_syntax.specs.declared.class.Body.{Body, fold_out-Body}
use Rattle.mo_syntax.specs.declared.class.Body.TheVariants.{Long, Short, Enumeration, Der, outs-Long, outs-Short, outs-Enumeration, outs-Der}
use Rattle.mo_syntax.specs.declared.class.Causal.{Causal}
use Rattle.mo_syntax.specs.declared.class.ClassDefOf.{ClassDefOf}
use Rattle.mo_syntax.specs.declared.class.ComponentOf.{ComponentOf}
use Rattle.mo_syntax.specs.declared.class.Element.{Element, fold-roll-Element, out-Element, roll-Element, roll-out-Element}
use Rattle.mo_syntax.specs.declared.class.ElementFlags.{ElementFlags}
use Rattle.mo_syntax.specs.declared.class.ExtendsOf.{ExtendsOf}
use Rattle.mo_syntax.specs.declared.class.Import.{Import}
use Rattle.mo_syntax.specs.declared.class.Item.{Item, fold_out-Item}
use Rattle.mo_syntax.specs.declared.class.Item.TheVariants.{Import as import_item, Extends as extends_item, Member, Equations, Algorithm, outs-Import as outs-import_item, outs-Extends as outs-extends_item, outs-Member, outs-Equations, outs-Algorithm}
use Rattle.mo_syntax.specs.declared.class.Give.{Give, fold_out-Give}
use Rattle.mo_syntax.specs.declared.class.Give.TheVariants.{Modify, Redeclare, Replaceable, outs-Modify, outs-Redeclare, outs-Replaceable}
use Rattle.mo_syntax.specs.declared.class.ModsOf.{ModsOf}
use Rattle.mo_syntax.specs.declared.class.What.{What, fold_out-What}
use Rattle.mo_syntax.specs.declared.class.What.TheVariants.{Class, Component, outs-Class, outs-Component}
use Rattle.mo_unparse.specs.Placeless.{placeless_option, placeless_options, placeless_reference, placeless_equations, placeless_statements}
use Rattle.mo_unparse.specs.PlacelessClasses.{placeless_import, body_nowhere, give_nowhere, item_nowhere, what_nowhere, element_nowhere, placeless_body, placeless_give, placeless_item, placeless_what, placeless_element, placeless_mods, placeless_limit, placeless_extends, placeless_component, placeless_class}
use Rattle.mo_unparse.proofs.PlacelessForms.{map_twice}

pub at_Long : (extending : Option (ModsOf Give)) (items : List Item) (external : Bool) → placeless_body (Long extending items external) ≡ Long (option_map placeless_mods extending) (map placeless_item items) external
unfolding placeless_body placeless_give placeless_item placeless_what placeless_element
at_Long None items external = rw (fold_out-Body Body Give Item What Element body_nowhere give_nowhere item_nowhere what_nowhere element_nowhere (Long None items external), outs-Long None items external)
at_Long (Some mods) items external = rw (fold_out-Body Body Give Item What Element body_nowhere give_nowhere item_nowhere what_nowhere element_nowhere (Long (Some mods) items external), outs-Long (Some mods) items external) (ap (λ list. Long (Some (record { 0 = list })) (map placeless_item items) external) (map_twice _ _ _ (λ argument. refl) mods.0))

pub at_Short : (causal : Causal) (base : ReferenceOf Expr) (subs : List (Option Expr)) (mods : ModsOf Give) → placeless_body (Short causal base subs mods) ≡ Short causal (placeless_reference base) (placeless_options subs) (placeless_mods mods)
unfolding placeless_body placeless_give placeless_item placeless_what placeless_element
at_Short causal base subs mods = rw (fold_out-Body Body Give Item What Element body_nowhere give_nowhere item_nowhere what_nowhere element_nowhere (Short causal base subs mods), outs-Short causal base subs mods) (ap (λ list. Short causal (placeless_reference base) (placeless_options subs) (record { 0 = list })) (map_twice _ _ _ (λ argument. refl) mods.0))

pub at_Enumeration : (literals : Option (List (List ℕ))) → placeless_body (Enumeration literals) ≡ Enumeration literals
unfolding placeless_body placeless_give placeless_item placeless_what placeless_element
at_Enumeration literals = rw (fold_out-Body Body Give Item What Element body_nowhere give_nowhere item_nowhere what_nowhere element_nowhere (Enumeration literals), outs-Enumeration literals)

pub at_Der : (function : ReferenceOf Expr) (names : List (List ℕ)) → placeless_body (Der function names) ≡ Der (placeless_reference function) names
unfolding placeless_body placeless_give placeless_item placeless_what placeless_element
at_Der function names = rw (fold_out-Body Body Give Item What Element body_nowhere give_nowhere item_nowhere what_nowhere element_nowhere (Der function names), outs-Der function names)

pub at_Modify : (mods : ModsOf Give) (value : Option Expr) → placeless_give (Modify mods value) ≡ Modify (placeless_mods mods) (placeless_option value)
unfolding placeless_body placeless_give placeless_item placeless_what placeless_element
at_Modify mods value = rw (fold_out-Give Body Give Item What Element body_nowhere give_nowhere item_nowhere what_nowhere element_nowhere (Modify mods value), outs-Modify mods value) (ap (λ list. Modify (record { 0 = list }) (placeless_option value)) (map_twice _ _ _ (λ argument. refl) mods.0))

pub at_Redeclare : (element : Element) → placeless_give (Redeclare element) ≡ Redeclare (placeless_element element)
unfolding placeless_body placeless_give placeless_item placeless_what placeless_element
at_Redeclare element = rw (fold_out-Give Body Give Item What Element body_nowhere give_nowhere item_nowhere what_nowhere element_nowhere (Redeclare element), outs-Redeclare element)

pub at_Replaceable : (element : Element) → placeless_give (Replaceable element) ≡ Replaceable (placeless_element element)
unfolding placeless_body placeless_give placeless_item placeless_what placeless_element
at_Replaceable element = rw (fold_out-Give Body Give Item What Element body_nowhere give_nowhere item_nowhere what_nowhere element_nowhere (Replaceable element), outs-Replaceable element)

pub at_import_item : (clause : Import) → placeless_item (import_item clause) ≡ import_item (placeless_import clause)
unfolding placeless_body placeless_give placeless_item placeless_what placeless_element
at_import_item clause = rw (fold_out-Item Body Give Item What Element body_nowhere give_nowhere item_nowhere what_nowhere element_nowhere (import_item clause), outs-import_item clause)

pub at_extends_item : (clause : ExtendsOf Give) → placeless_item (extends_item clause) ≡ extends_item (placeless_extends clause)
unfolding placeless_body placeless_give placeless_item placeless_what placeless_element
at_extends_item clause = rw (fold_out-Item Body Give Item What Element body_nowhere give_nowhere item_nowhere what_nowhere element_nowhere (extends_item clause), outs-extends_item clause) (ap (λ list. extends_item (record { base = placeless_reference clause.base; mods = record { 0 = list }; hidden = clause.hidden })) (map_twice _ _ _ (λ argument. refl) clause.mods.0))

pub at_Member : (element : Element) → placeless_item (Member element) ≡ Member (placeless_element element)
unfolding placeless_body placeless_give placeless_item placeless_what placeless_element
at_Member element = rw (fold_out-Item Body Give Item What Element body_nowhere give_nowhere item_nowhere what_nowhere element_nowhere (Member element), outs-Member element)

pub at_Equations : (initial : Bool) (equations : List (EquationOf EquationKind)) → placeless_item (Equations initial equations) ≡ Equations initial (placeless_equations equations)
unfolding placeless_body placeless_give placeless_item placeless_what placeless_element
at_Equations initial equations = rw (fold_out-Item Body Give Item What Element body_nowhere give_nowhere item_nowhere what_nowhere element_nowhere (Equations initial equations), outs-Equations initial equations)

pub at_Algorithm : (initial : Bool) (statements : List (StatementOf StatementKind)) → placeless_item (Algorithm initial statements) ≡ Algorithm initial (placeless_statements statements)
unfolding placeless_body placeless_give placeless_item placeless_what placeless_element
at_Algorithm initial statements = rw (fold_out-Item Body Give Item What Element body_nowhere give_nowhere item_nowhere what_nowhere element_nowhere (Algorithm initial statements), outs-Algorithm initial statements)

pub at_Class : (class : ClassDefOf Body) → placeless_what (Class class) ≡ Class (placeless_class class)
unfolding placeless_body placeless_give placeless_item placeless_what placeless_element
at_Class class = rw (fold_out-What Body Give Item What Element body_nowhere give_nowhere item_nowhere what_nowhere element_nowhere (Class class), outs-Class class)

pub at_Component : (component : ComponentOf Give) → placeless_what (Component component) ≡ Component (placeless_component component)
unfolding placeless_body placeless_give placeless_item placeless_what placeless_element
at_Component component = rw (fold_out-What Body Give Item What Element body_nowhere give_nowhere item_nowhere what_nowhere element_nowhere (Component component), outs-Component component) (ap (λ list. Component (record (placeless_component component) { mods = record { 0 = list } })) (map_twice _ _ _ (λ argument. refl) component.mods.0))

pub at_element : (flags : ElementFlags) (what : What) (limit : Option (ReferenceOf Expr × ModsOf Give)) → placeless_element (roll-Element (record { flags = flags; what = what; limit = limit })) ≡ roll-Element (record { flags = flags; what = placeless_what what; limit = option_map placeless_limit limit })
unfolding placeless_body placeless_give placeless_item placeless_what placeless_element
at_element flags what None = fold-roll-Element Body Give Item What Element body_nowhere give_nowhere item_nowhere what_nowhere element_nowhere (record { flags = flags; what = what; limit = None })
at_element flags what (Some limit) =
    fold-roll-Element Body Give Item What Element body_nowhere give_nowhere item_nowhere what_nowhere element_nowhere (record { flags = flags; what = what; limit = Some limit })
    ∙ ap (λ list. roll-Element (record { flags = flags; what = placeless_what what; limit = Some (placeless_reference limit.0, record { 0 = list }) })) (map_twice _ _ _ (λ argument. refl) limit.1.0)

pub at_Element : (element : Element) → placeless_element element ≡ roll-Element (record { flags = (out-Element element).flags; what = placeless_what (out-Element element).what; limit = option_map placeless_limit (out-Element element).limit })
at_Element element = ap placeless_element (sym (roll-out-Element element)) ∙ at_element (out-Element element).flags (out-Element element).what (out-Element element).limit
