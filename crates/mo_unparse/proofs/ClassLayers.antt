-- Classes, elements and modifiers in pieces, by the pieces of their own parts.
use Rattle.std.proofs.Common.{◌≡◌, ℕ, Bool, List, [], ◌∷◌, ◌++◌, map, Option, Some, None, refl, ap, sym, ◌∙◌}
use Rattle.std.specs.Prelude.{codes, if◌then◌else◌}
use Rattle.mo_syntax.specs.declared.expr.Expr.{Expr}
use Rattle.mo_syntax.specs.declared.expr.ReferenceOf.{ReferenceOf}
use Rattle.mo_syntax.specs.declared.equation.EquationOf.{EquationOf}
use Rattle.mo_syntax.specs.declared.equation.EquationKind.{EquationKind}
use Rattle.mo_syntax.specs.declared.equation.StatementKind.{StatementKind}
use Rattle.mo_syntax.specs.declared.equation.StatementOf.{StatementOf}
use Rattle.mo_syntax.specs.declared.class.ArgumentOf.{ArgumentOf}
use Rattle.mo_syntax.specs.declared.class.Body.{Body, Body-F, fold-roll-Body}
use Rattle.mo_syntax.specs.declared.class.Body.TheVariants.{Long, Short, Enumeration, Der, rolls-Long, rolls-Short, rolls-Enumeration, rolls-Der}
use Rattle.mo_syntax.specs.declared.class.Causal.{Causal}
use Rattle.mo_syntax.specs.declared.class.ClassDefOf.{ClassDefOf}
use Rattle.mo_syntax.specs.declared.class.ComponentOf.{ComponentOf}
use Rattle.mo_syntax.specs.declared.class.Element.{Element, out-Element, roll-Element, roll-out-Element, fold-roll-Element}
use Rattle.mo_syntax.specs.declared.class.ElementFlags.{ElementFlags}
use Rattle.mo_syntax.specs.declared.class.ExtendsOf.{ExtendsOf}
use Rattle.mo_syntax.specs.declared.class.Give.{Give, Give-F, fold-roll-Give}
use Rattle.mo_syntax.specs.declared.class.Give.TheVariants.{Modify, Redeclare, Replaceable, rolls-Modify, rolls-Redeclare, rolls-Replaceable}
use Rattle.mo_syntax.specs.declared.class.Import.{Import}
use Rattle.mo_syntax.specs.declared.class.Item.{Item, Item-F, fold-roll-Item}
use Rattle.mo_syntax.specs.declared.class.Item.TheVariants.{Import as imports, Extends, Member, Equations, Algorithm, rolls-Import, rolls-Extends, rolls-Member, rolls-Equations, rolls-Algorithm}
use Rattle.mo_syntax.specs.declared.class.ModsOf.{ModsOf}
use Rattle.mo_syntax.specs.declared.class.What.{What, What-F, fold-roll-What}
use Rattle.mo_syntax.specs.declared.class.What.TheVariants.{Class, Component, rolls-Class, rolls-Component}
use Rattle.mo_pieces.specs.declared.section.Section.TheVariants.{Behavior}
use Rattle.mo_pieces.specs.Pieces.{Piece, a_name, a_word, a_mark, a_blank}
use Rattle.mo_pieces.specs.Lines.{on_a_line}
use Rattle.mo_pieces.specs.ShownExpressions.{a_comma, in_parentheses, pieces_of_reference, pieces_of_subscripts, spaced}
use Rattle.mo_pieces.specs.ShownEquations.{pieces_of_equation, pieces_of_statement}
use Rattle.mo_pieces.specs.ShownModifiers.{ShownGive, pieces_of_binding, argument_with, arguments_with, mods_with}
use Rattle.mo_pieces.specs.ShownElements.{ShownElement, ShownItem, pieces_of_causal, type_of, value_of, component_with, pieces_of_flags, limit_with, extends_with, pieces_of_import, section_of}
use Rattle.mo_pieces.specs.ShownClasses.{ShownBody, name_with, inside_of, short_with, enumeration_of, derivative_of, section_with, in_body, in_give, in_item, in_what, in_element, shown_body, shown_give, shown_item, pieces_of_what, shown_element, pieces_of_class, pieces_of_element}
use Rattle.mo_unparse.proofs.Rows.{in_row_map}

-- ---- modifier lists are mapped argument by argument

arguments_map : (h : ArgumentOf Give → ArgumentOf ShownGive) → ((a : ArgumentOf Give) → argument_with (λ give. give) (h a) ≡ argument_with shown_give a) → (xs : List (ArgumentOf Give)) →
    arguments_with (λ give. give) (map h xs) ≡ arguments_with shown_give xs
arguments_map h same [] = refl
arguments_map h same (x ∷ xs) = ap in_parentheses (in_row_map (λ first a. (if first then [] else a_comma) ++ argument_with (λ give. give) a) (λ first a. (if first then [] else a_comma) ++ argument_with shown_give a) h (λ first a. ap (λ t. (if first then [] else a_comma) ++ t) (same a)) (x ∷ xs))

-- ---- what an argument gives

pub at_Modify : (mods : ModsOf Give) (value : Option Expr) (flags name : List Piece) → shown_give (Modify mods value) flags name ≡ flags ++ (name ++ (mods_with shown_give mods ++ pieces_of_binding value))
at_Modify mods value flags name = ap (λ f. f flags name) (ap shown_give (sym (rolls-Modify mods value))
    ∙ fold-roll-Give ShownBody ShownGive ShownItem (List Piece) ShownElement in_body in_give in_item in_what in_element (Give-F.Modify mods value))
    ∙ ap (λ t. flags ++ (name ++ (t ++ pieces_of_binding value))) (arguments_map _ (λ a. refl) mods.0)

pub at_Redeclare : (element : Element) (flags name : List Piece) → shown_give (Redeclare element) flags name ≡ a_word (codes "redeclare") ∷ a_blank ∷ flags ++ pieces_of_element element
at_Redeclare element flags name = ap (λ f. f flags name) (ap shown_give (sym (rolls-Redeclare element))
    ∙ fold-roll-Give ShownBody ShownGive ShownItem (List Piece) ShownElement in_body in_give in_item in_what in_element (Give-F.Redeclare element))

pub at_Replaceable : (element : Element) (flags name : List Piece) → shown_give (Replaceable element) flags name ≡ flags ++ pieces_of_element element
at_Replaceable element flags name = ap (λ f. f flags name) (ap shown_give (sym (rolls-Replaceable element))
    ∙ fold-roll-Give ShownBody ShownGive ShownItem (List Piece) ShownElement in_body in_give in_item in_what in_element (Give-F.Replaceable element))

-- ---- bodies

pub at_Long : (extending : Option (ModsOf Give)) (items : List Item) (external : Bool) (name : List ℕ) →
    shown_body (Long extending items external) name ≡ name_with shown_give extending name ++ inside_of (map shown_item items) external name
at_Long None items external name = ap (λ f. f name) (ap shown_body (sym (rolls-Long None items external))
    ∙ fold-roll-Body ShownBody ShownGive ShownItem (List Piece) ShownElement in_body in_give in_item in_what in_element (Body-F.Long None items external))
at_Long (Some mods) items external name = ap (λ f. f name) (ap shown_body (sym (rolls-Long (Some mods) items external))
    ∙ fold-roll-Body ShownBody ShownGive ShownItem (List Piece) ShownElement in_body in_give in_item in_what in_element (Body-F.Long (Some mods) items external))
    ∙ ap (λ t. (a_word (codes "extends") ∷ a_blank ∷ a_name name ∷ t) ++ inside_of (map shown_item items) external name) (arguments_map _ (λ a. refl) mods.0)

pub at_Short : (causal : Causal) (base : ReferenceOf Expr) (subs : List (Option Expr)) (mods : ModsOf Give) (name : List ℕ) → shown_body (Short causal base subs mods) name ≡ short_with shown_give causal base subs mods name
at_Short causal base subs mods name = ap (λ f. f name) (ap shown_body (sym (rolls-Short causal base subs mods))
    ∙ fold-roll-Body ShownBody ShownGive ShownItem (List Piece) ShownElement in_body in_give in_item in_what in_element (Body-F.Short causal base subs mods))
    ∙ ap (λ t. a_name name ∷ spaced (a_mark (codes "=")) ++ (pieces_of_causal causal ++ (pieces_of_reference base ++ (pieces_of_subscripts subs ++ t)))) (arguments_map _ (λ a. refl) mods.0)

pub at_Enumeration : (literals : Option (List (List ℕ))) (name : List ℕ) → shown_body (Enumeration literals) name ≡ enumeration_of literals name
at_Enumeration literals name = ap (λ f. f name) (ap shown_body (sym (rolls-Enumeration literals))
    ∙ fold-roll-Body ShownBody ShownGive ShownItem (List Piece) ShownElement in_body in_give in_item in_what in_element (Body-F.Enumeration literals))

pub at_Der : (function : ReferenceOf Expr) (names : List (List ℕ)) (name : List ℕ) → shown_body (Der function names) name ≡ derivative_of function names name
at_Der function names name = ap (λ f. f name) (ap shown_body (sym (rolls-Der function names))
    ∙ fold-roll-Body ShownBody ShownGive ShownItem (List Piece) ShownElement in_body in_give in_item in_what in_element (Body-F.Der function names))

-- ---- items

pub at_Import : (clause : Import) → shown_item (imports clause) ≡ record { section = None; pieces = on_a_line (pieces_of_import clause) }
at_Import clause = ap shown_item (sym (rolls-Import clause))
    ∙ fold-roll-Item ShownBody ShownGive ShownItem (List Piece) ShownElement in_body in_give in_item in_what in_element (Item-F.Import clause)

pub at_Extends : (clause : ExtendsOf Give) → shown_item (Extends clause) ≡ record { section = Some (section_of clause.hidden); pieces = on_a_line (extends_with shown_give clause) }
at_Extends clause = ap shown_item (sym (rolls-Extends clause))
    ∙ fold-roll-Item ShownBody ShownGive ShownItem (List Piece) ShownElement in_body in_give in_item in_what in_element (Item-F.Extends clause)
    ∙ ap (λ t. let item : ShownItem = record { section = Some (section_of clause.hidden); pieces = on_a_line (a_word (codes "extends") ∷ a_blank ∷ pieces_of_reference clause.base ++ t) } in item) (arguments_map _ (λ a. refl) clause.mods.0)

pub at_Member : (element : Element) → shown_item (Member element) ≡ record { section = Some (shown_element element).section; pieces = on_a_line (pieces_of_element element) }
at_Member element = ap shown_item (sym (rolls-Member element))
    ∙ fold-roll-Item ShownBody ShownGive ShownItem (List Piece) ShownElement in_body in_give in_item in_what in_element (Item-F.Member element)

pub at_Equations : (initial : Bool) (equations : List (EquationOf EquationKind)) → shown_item (Equations initial equations) ≡ record { section = Some Behavior; pieces = section_with (codes "equation") pieces_of_equation initial equations }
at_Equations initial equations = ap shown_item (sym (rolls-Equations initial equations))
    ∙ fold-roll-Item ShownBody ShownGive ShownItem (List Piece) ShownElement in_body in_give in_item in_what in_element (Item-F.Equations initial equations)

pub at_Algorithm : (initial : Bool) (statements : List (StatementOf StatementKind)) → shown_item (Algorithm initial statements) ≡ record { section = Some Behavior; pieces = section_with (codes "algorithm") pieces_of_statement initial statements }
at_Algorithm initial statements = ap shown_item (sym (rolls-Algorithm initial statements))
    ∙ fold-roll-Item ShownBody ShownGive ShownItem (List Piece) ShownElement in_body in_give in_item in_what in_element (Item-F.Algorithm initial statements)

-- ---- elements

pub at_Class : (class : ClassDefOf Body) → pieces_of_what (Class class) ≡ pieces_of_class class
at_Class class = ap pieces_of_what (sym (rolls-Class class))
    ∙ fold-roll-What ShownBody ShownGive ShownItem (List Piece) ShownElement in_body in_give in_item in_what in_element (What-F.Class class)

pub at_Component : (component : ComponentOf Give) → pieces_of_what (Component component) ≡ component_with shown_give component
at_Component component = ap pieces_of_what (sym (rolls-Component component))
    ∙ fold-roll-What ShownBody ShownGive ShownItem (List Piece) ShownElement in_body in_give in_item in_what in_element (What-F.Component component)
    ∙ ap (λ t. type_of component ++ (a_blank ∷ a_name component.name ∷ pieces_of_subscripts component.subs ++ (t ++ value_of component))) (arguments_map _ (λ a. refl) component.mods.0)

-- an element from the pieces of its parts
abbrev element_of : ElementFlags → List Piece → List Piece → ShownElement
element_of flags what limit = record { section = section_of flags.hidden; pieces = pieces_of_flags flags ++ (what ++ limit) }

rolled : (flags : ElementFlags) (what : What) (limit : Option (ReferenceOf Expr × ModsOf Give)) →
    shown_element (roll-Element (record { flags = flags; what = what; limit = limit })) ≡ element_of flags (pieces_of_what what) (limit_with shown_give limit)
rolled flags what None =
    fold-roll-Element ShownBody ShownGive ShownItem (List Piece) ShownElement in_body in_give in_item in_what in_element (record { flags = flags; what = what; limit = None })
rolled flags what (Some limit) =
    fold-roll-Element ShownBody ShownGive ShownItem (List Piece) ShownElement in_body in_give in_item in_what in_element (record { flags = flags; what = what; limit = Some limit })
    ∙ ap (λ t. element_of flags (pieces_of_what what) (spaced (a_word (codes "constrainedby")) ++ (pieces_of_reference limit.0 ++ t))) (arguments_map _ (λ a. refl) limit.1.0)

at_element : (element : Element) → shown_element element ≡ element_of (out-Element element).flags (pieces_of_what (out-Element element).what) (limit_with shown_give (out-Element element).limit)
at_element element = ap shown_element (sym (roll-out-Element element)) ∙ rolled (out-Element element).flags (out-Element element).what (out-Element element).limit

pub at_Element : (element : Element) → pieces_of_element element ≡ pieces_of_flags (out-Element element).flags ++ (pieces_of_what (out-Element element).what ++ limit_with shown_give (out-Element element).limit)
at_Element element = ap (λ e. e.pieces) (at_element element)

pub at_section : (element : Element) → (shown_element element).section ≡ section_of (out-Element element).flags.hidden
at_section element = ap (λ e. e.section) (at_element element)

pub ruleset class_layers = (at_Modify, at_Redeclare, at_Replaceable, at_Long, at_Short, at_Enumeration, at_Der, at_Import, at_Extends, at_Member, at_Equations, at_Algorithm, at_Class, at_Component, at_Element, at_section)
