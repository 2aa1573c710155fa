-- How many classes stand in a part of a tree, by its own parts.
use Rattle.std.proofs.Common.{◌≡◌, ℕ, ◌+◌, Bool, true, false, List, [], ◌∷◌, sum_by, Option, Some, refl, ap, sym, ◌∙◌}
use Rattle.std.proofs.lemmas.List.Sums.{sum_by-cons}
use Rattle.mo_syntax.specs.declared.equation.EquationKind.{EquationKind}
use Rattle.mo_syntax.specs.declared.equation.EquationOf.{EquationOf}
use Rattle.mo_syntax.specs.declared.equation.StatementKind.{StatementKind}
use Rattle.mo_syntax.specs.declared.equation.StatementOf.{StatementOf}
use Rattle.mo_syntax.specs.declared.expr.Expr.{Expr}
use Rattle.mo_syntax.specs.declared.expr.ReferenceOf.{ReferenceOf}
use Rattle.mo_syntax.specs.declared.class.ArgumentOf.{ArgumentOf}
use Rattle.mo_syntax.specs.declared.class.Body.{Body}
use Rattle.mo_syntax.specs.declared.class.Body.TheVariants.{Long, Short, Enumeration, Der}
use Rattle.mo_syntax.specs.declared.class.Causal.{Causal}
use Rattle.mo_syntax.specs.declared.class.ClassDefOf.{ClassDefOf}
use Rattle.mo_syntax.specs.declared.class.ComponentOf.{ComponentOf}
use Rattle.mo_syntax.specs.declared.class.Element.{Element, out-Element}
use Rattle.mo_syntax.specs.declared.class.ExtendsOf.{ExtendsOf}
use Rattle.mo_syntax.specs.declared.class.FileTree.{FileTree}
use Rattle.mo_syntax.specs.declared.class.Give.{Give}
use Rattle.mo_syntax.specs.declared.class.Give.TheVariants.{Modify, Redeclare, Replaceable}
use Rattle.mo_syntax.specs.declared.class.Import.{Import}
use Rattle.mo_syntax.specs.declared.class.Item.{Item}
use Rattle.mo_syntax.specs.declared.class.Item.TheVariants.{Import as imports, Extends, Member, Equations, Algorithm}
use Rattle.mo_syntax.specs.declared.class.ModsOf.{ModsOf}
use Rattle.mo_syntax.specs.declared.class.What.TheVariants.{Class, Component}
use Rattle.mo_syntax.specs.Classes.{Outline, each, outline_of_give, outline_of_item, outline_of_what}
use Rattle.mo_syntax.specs.ClassTable.{class_count, in_file}
use Rattle.mo_syntax.specs.steps.Parts.{marked, outline_of_class, classes_in_body, classes_in_class, classes_in_give, classes_in_item, classes_in_what, classes_in_element, classes_in_extending, classes_in_limit, classes_in_file}
use Rattle.mo_syntax.proofs.Outlines.{at_Long, at_Short, at_Enumeration, at_Der, at_Modify, at_Redeclare, at_Replaceable, at_Import, at_Extends, at_Member, at_Equations, at_Algorithm, at_Class, at_Component, at_Element}

-- a list has the sum of what its elements have
pub each_classes : {A : Type 0} (f : A → Outline) (xs : List A) → (each f xs).classes ≡ sum_by (λ x. (f x).classes) xs
each_classes f [] = refl
each_classes f (x ∷ xs) = ap (λ n. (f x).classes + n) (each_classes f xs) ∙ sym (sum_by-cons (λ y. (f y).classes) x xs)

abbrev arguments : List (ArgumentOf Give) → ℕ
arguments xs = sum_by (λ argument. classes_in_give argument.give) xs

of_arguments : (xs : List (ArgumentOf Give)) → (each (λ argument. outline_of_give argument.give) xs).classes ≡ arguments xs
of_arguments xs = each_classes (λ argument. outline_of_give argument.give) xs

pub files : (fs : List FileTree) → class_count fs ≡ sum_by classes_in_file fs
files fs = each_classes in_file fs

pub file : (f : FileTree) → classes_in_file f ≡ sum_by classes_in_class f.classes
file f = each_classes (outline_of_class true) f.classes

pub of_Long : (extending : Option (ModsOf Give)) (items : List Item) (external : Bool) → classes_in_body (Long extending items external) ≡ classes_in_extending extending + sum_by classes_in_item items
of_Long extending items external = ap (λ o. o.classes) (at_Long extending items external) ∙ ap (λ n. classes_in_extending extending + n) (each_classes outline_of_item items)

pub of_Short : (causal : Causal) (base : ReferenceOf Expr) (subs : List (Option Expr)) (mods : ModsOf Give) → classes_in_body (Short causal base subs mods) ≡ arguments mods.0
of_Short causal base subs mods = ap (λ o. o.classes) (at_Short causal base subs mods) ∙ of_arguments mods.0

pub of_Enumeration : (literals : Option (List (List ℕ))) → classes_in_body (Enumeration literals) ≡ 0
of_Enumeration literals = ap (λ o. o.classes) (at_Enumeration literals)

pub of_Der : (function : ReferenceOf Expr) (names : List (List ℕ)) → classes_in_body (Der function names) ≡ 0
of_Der function names = ap (λ o. o.classes) (at_Der function names)

pub of_Some : (mods : ModsOf Give) → classes_in_extending (Some mods) ≡ arguments mods.0
of_Some mods = of_arguments mods.0

pub of_Modify : (mods : ModsOf Give) (value : Option Expr) → classes_in_give (Modify mods value) ≡ arguments mods.0
of_Modify mods value = ap (λ o. o.classes) (at_Modify mods value) ∙ of_arguments mods.0

pub of_Redeclare : (element : Element) → classes_in_give (Redeclare element) ≡ classes_in_element element
of_Redeclare element = ap (λ o. o.classes) (at_Redeclare element)

pub of_Replaceable : (element : Element) → classes_in_give (Replaceable element) ≡ classes_in_element element
of_Replaceable element = ap (λ o. o.classes) (at_Replaceable element)

pub of_Import : (clause : Import) → classes_in_item (imports clause) ≡ 0
of_Import clause = ap (λ o. o.classes) (at_Import clause)

pub of_Extends : (clause : ExtendsOf Give) → classes_in_item (Extends clause) ≡ arguments clause.mods.0
of_Extends clause = ap (λ o. o.classes) (at_Extends clause) ∙ of_arguments clause.mods.0

pub of_Member : (element : Element) → classes_in_item (Member element) ≡ classes_in_element element
of_Member element = ap (λ o. o.classes) (at_Member element)

pub of_Equations : (initial : Bool) (equations : List (EquationOf EquationKind)) → classes_in_item (Equations initial equations) ≡ 0
of_Equations initial equations = ap (λ o. o.classes) (at_Equations initial equations)

pub of_Algorithm : (initial : Bool) (statements : List (StatementOf StatementKind)) → classes_in_item (Algorithm initial statements) ≡ 0
of_Algorithm initial statements = ap (λ o. o.classes) (at_Algorithm initial statements)

pub of_Class : (class : ClassDefOf Body) → classes_in_what (Class class) ≡ 1 + classes_in_body class.body
of_Class class = ap (λ o. o.classes) (at_Class class)

pub of_Component : (component : ComponentOf Give) → classes_in_what (Component component) ≡ arguments component.mods.0
of_Component component = ap (λ o. o.classes) (at_Component component) ∙ of_arguments component.mods.0

of_marked : (redeclare : Bool) (part : Outline) → (marked redeclare part).classes ≡ part.classes
of_marked true part = refl
of_marked false part = refl

pub of_Element : (element : Element) → classes_in_element element ≡ classes_in_what (out-Element element).what + classes_in_limit (out-Element element).limit
of_Element element = ap (λ o. o.classes) (at_Element element)
    ∙ ap (λ n. n + classes_in_limit (out-Element element).limit) (of_marked (out-Element element).flags.redeclare (outline_of_what (out-Element element).what))

pub of_limit : (base : ReferenceOf Expr) (mods : ModsOf Give) → classes_in_limit (Some (base, mods)) ≡ arguments mods.0
of_limit base mods = of_arguments mods.0

pub ruleset counts = (of_Long, of_Short, of_Enumeration, of_Der, of_Some, of_Modify, of_Redeclare, of_Replaceable, of_Import, of_Extends, of_Member, of_Equations, of_Algorithm, of_Class, of_Component, of_Element, of_limit)
