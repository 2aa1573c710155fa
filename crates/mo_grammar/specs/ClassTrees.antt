-- What the productions of modifications, equations, statements, classes and files make of their parts.
use Rattle.std.specs.Prelude.{◌==◌, ◌||◌, ◌&&◌, ℕ, Bool, true, false, List, [], ◌∷◌, ◌++◌, map, Option, Some, None, if◌then◌else◌, is_some}
use Rattle.mo_syntax.specs.declared.place.Place.{Place}
use Rattle.mo_syntax.specs.declared.text.Path.{Path}
use Rattle.mo_syntax.specs.declared.expr.Expr.{Expr}
use Rattle.mo_syntax.specs.declared.expr.Node.{Node, Node-F, out-Node}
use Rattle.mo_syntax.specs.declared.expr.Args.{Args}
use Rattle.mo_syntax.specs.declared.expr.Arg.{Arg}
use Rattle.mo_syntax.specs.declared.expr.ReferenceOf.{ReferenceOf}
use Rattle.mo_syntax.specs.declared.expr.IndexOf.{IndexOf}
use Rattle.mo_syntax.specs.declared.expr.CalleeOf.TheVariants.{Named as called_name}
use Rattle.mo_syntax.specs.declared.equation.EquationOf.{EquationOf}
use Rattle.mo_syntax.specs.declared.equation.EquationKind.{EquationKind}
use Rattle.mo_syntax.specs.declared.equation.EquationKind.TheVariants.{Equal, If as if_equation, For as for_equation, When as when_equation, Connect, Call as call_equation}
use Rattle.mo_syntax.specs.declared.equation.StatementOf.{StatementOf}
use Rattle.mo_syntax.specs.declared.equation.StatementKind.{StatementKind}
use Rattle.mo_syntax.specs.declared.equation.StatementKind.TheVariants.{Assign, Call as call_statement, Outputs, Break, Return, If as if_statement, For as for_statement, While as while_statement, When as when_statement}
use Rattle.mo_syntax.specs.declared.class.Body.{Body}
use Rattle.mo_syntax.specs.declared.class.Body.TheVariants.{Long, Short, Der}
use Rattle.mo_syntax.specs.declared.class.Give.{Give}
use Rattle.mo_syntax.specs.declared.class.Give.TheVariants.{Modify, Redeclare, Replaceable}
use Rattle.mo_syntax.specs.declared.class.Item.{Item}
use Rattle.mo_syntax.specs.declared.class.Item.TheVariants.{Import as import_item, Extends as extends_item, Member, Equations, Algorithm}
use Rattle.mo_syntax.specs.declared.class.Import.{Import}
use Rattle.mo_syntax.specs.declared.class.Import.TheVariants.{Renamed, Named, Group, All}
use Rattle.mo_syntax.specs.declared.class.What.{What}
use Rattle.mo_syntax.specs.declared.class.What.TheVariants.{Class, Component}
use Rattle.mo_syntax.specs.declared.class.ModsOf.{ModsOf}
use Rattle.mo_syntax.specs.declared.class.ArgumentOf.{ArgumentOf}
use Rattle.mo_syntax.specs.declared.class.Element.{Element}
use Rattle.mo_syntax.specs.declared.class.ComponentOf.{ComponentOf}
use Rattle.mo_syntax.specs.declared.class.Prefix.{Prefix}
use Rattle.mo_syntax.specs.declared.class.Vary.{Vary}
use Rattle.mo_syntax.specs.declared.class.Vary.TheVariants.{Free, Discrete, Parameter, Constant}
use Rattle.mo_syntax.specs.declared.class.Causal.{Causal}
use Rattle.mo_syntax.specs.declared.class.Causal.TheVariants.{None as neither_way, Input, Output}
use Rattle.mo_syntax.specs.declared.class.ClassDefOf.{ClassDefOf}
use Rattle.mo_syntax.specs.declared.class.ClassFlags.{ClassFlags}
use Rattle.mo_syntax.specs.declared.class.ClassKind.{ClassKind}
use Rattle.mo_syntax.specs.declared.class.ClassKind.TheVariants.{Plain, Model, Block as block_kind, Recd, Connector, TypeDef, Package, Function as function_kind, Operator as operator_kind}
use Rattle.mo_syntax.specs.declared.class.FileTree.{FileTree}
use Rattle.mo_grammar.specs.Lexeme.{Lexeme, code_of}
use Rattle.mo_grammar.specs.Codes.{ident, dot, model_word, block_word, record_word, connector_word, type_word, package_word, function_word, flow_word, stream_word, discrete_word, parameter_word, input_word, pure_word}
use Rattle.mo_grammar.specs.Trees.{or_nothing, args_or_none}

abbrev pub Mods : Type 0
Mods = ModsOf Give

abbrev pub mods_or_none : Option Mods → Mods
mods_or_none None = record { 0 = [] }
mods_or_none (Some mods) = mods

abbrev pub mods_of : Option (List (ArgumentOf Give)) → Mods
mods_of arguments = record { 0 = or_nothing arguments }

abbrev pub text_of : Lexeme → List ℕ
text_of t = t.text

abbrev pub path_of : List Lexeme → Path
path_of names = record { 0 = map text_of names }

-- ---- modifications

-- nested modifiers, and a value
abbrev pub Binding : Type 0
Binding = Mods × Option Expr

abbrev pub value_only : Lexeme × Expr → Binding
value_only (t, value) = (mods_or_none None, Some value)

abbrev pub binding_or_none : Option Binding → Binding
binding_or_none None = (mods_or_none None, None)
binding_or_none (Some binding) = binding

-- what an element declares, with the name that it declares
abbrev pub Declares : Type 0
Declares = Lexeme × What

-- a constraining clause
abbrev pub Limit : Type 0
Limit = ReferenceOf Expr × Mods

abbrev pub limit_of : ReferenceOf Expr × Option Mods → Limit
limit_of (base, mods) = (base, mods_or_none mods)

-- An element in an argument. The argument itself tells `final`, and what it gives tells `redeclare`.
abbrev pub argument_element : Bool → What → Option Limit → Element
argument_element replaceable what limit =
    record { flags = record { redeclare = false; last = false; inner = false; outer = false; replaceable = replaceable; hidden = false }; what = what; limit = limit }

-- what an argument gives, with the place and the identifiers of its name
abbrev pub Argued : Type 0
Argued = (Place × List Lexeme) × Give

abbrev pub argument_of : Bool × (Bool × Argued) → ArgumentOf Give
argument_of (each, x) = record { each = each; last = x.0; name = path_of x.1.0.1; place = x.1.0.0; give = x.1.1 }

abbrev pub modifies : (Place × List Lexeme) × Option Binding → Argued
modifies (name, binding) = (name, Modify (binding_or_none binding).0 (binding_or_none binding).1)

abbrev pub replaces : Declares × Option Limit → Argued
replaces (x, limit) = ((x.0.place, x.0 ∷ []), Replaceable (argument_element true x.1 limit))

abbrev pub redeclares : Declares → Argued
redeclares x = ((x.0.place, x.0 ∷ []), Redeclare (argument_element false x.1 None))

abbrev pub redeclares_replaceable : Declares × Option Limit → Argued
redeclares_replaceable (x, limit) = ((x.0.place, x.0 ∷ []), Redeclare (argument_element true x.1 limit))

-- ---- equations

abbrev pub Equation : Type 0
Equation = EquationOf EquationKind

abbrev pub equation_of : Place × EquationKind → Equation
equation_of (place, kind) = record { place = place; what = kind }

abbrev pub name_called_by : Node-F Arg Node Args Expr → Option (ReferenceOf Expr × Args)
name_called_by (Node-F.Call (called_name r) args) = Some (r, args)
name_called_by _ = None

-- the call of a name that an expression is, if it is one
unfoldable pub name_called : Expr → Option (ReferenceOf Expr × Args)
unfolding out-Node
name_called a = name_called_by (out-Node a.node)

-- the expression that these tokens spell is the call of a name, and no parenthesis and no sign stands around it
abbrev pub is_call : Lexeme → Expr → Bool
is_call t a = (code_of t == ident || code_of t == dot) && is_some (name_called a)

-- of an expression that is the call of a name
abbrev pub call_of : Expr → Option (ReferenceOf Expr × Args) → EquationKind
call_of a None = Equal a a
call_of a (Some call) = call_equation call.0 call.1

abbrev pub equality : Expr × Option Expr → EquationKind
equality (a, None) = call_of a (name_called a)
equality (a, Some b) = Equal a b

abbrev pub equal_sides : Expr × Expr → EquationKind
equal_sides (a, b) = Equal a b

abbrev pub calls_reference : ReferenceOf Expr × Args → EquationKind
calls_reference (r, args) = call_equation r args

abbrev pub connection : ReferenceOf Expr × ReferenceOf Expr → EquationKind
connection (a, b) = Connect a b

abbrev pub equation_loop : List (IndexOf Expr) × List Equation → EquationKind
equation_loop (indices, equations) = for_equation indices equations

-- equations, and the branches behind them
abbrev pub Branched : Type 0
Branched = List Equation × List (Expr × List Equation)

abbrev pub no_branches : Lexeme × Lexeme → Branched
no_branches x = ([], [])

abbrev pub branch_before : Expr × Branched → Branched
branch_before (condition, x) = ([], (condition, x.0) ∷ x.1)

abbrev pub branched_more : Equation × Branched → Branched
branched_more (equation, x) = (equation ∷ x.0, x.1)

abbrev pub when_tree : Expr × Branched → EquationKind
when_tree (condition, x) = when_equation ((condition, x.0) ∷ x.1)

-- equations, the branches behind them, and the equations of `else`
abbrev pub BranchedElse : Type 0
BranchedElse = List Equation × (List (Expr × List Equation) × List Equation)

abbrev pub no_branches_else : Lexeme × Lexeme → BranchedElse
no_branches_else x = ([], ([], []))

abbrev pub else_only : List Equation → BranchedElse
else_only equations = ([], ([], equations))

abbrev pub branch_before_else : Expr × BranchedElse → BranchedElse
branch_before_else (condition, x) = ([], ((condition, x.0) ∷ x.1.0, x.1.1))

abbrev pub branched_else_more : Equation × BranchedElse → BranchedElse
branched_else_more (equation, x) = (equation ∷ x.0, x.1)

abbrev pub if_equation_tree : Expr × BranchedElse → EquationKind
if_equation_tree (condition, x) = if_equation ((condition, x.0) ∷ x.1.0) x.1.1

abbrev pub no_equations : Lexeme × Lexeme → List Equation
no_equations x = []

-- ---- statements

abbrev pub Statement : Type 0
Statement = StatementOf StatementKind

abbrev pub statement_of : Place × StatementKind → Statement
statement_of (place, kind) = record { place = place; what = kind }

-- what stands behind the reference that a statement begins with: a value, or arguments
abbrev pub Behind : Type 0
Behind = Option Expr × Option Args

abbrev pub assigns_value : Expr → Behind
assigns_value value = (Some value, None)

abbrev pub calls_it : Args → Behind
calls_it args = (None, Some args)

abbrev pub reference_statement : ReferenceOf Expr × Behind → StatementKind
reference_statement (r, (Some value, args)) = Assign r value
reference_statement (r, (None, args)) = call_statement r (args_or_none args)

abbrev pub outputs_statement : List (Option Expr) × (ReferenceOf Expr × Args) → StatementKind
outputs_statement (outputs, x) = Outputs outputs x.0 x.1

abbrev pub break_statement : Lexeme → StatementKind
break_statement t = Break

abbrev pub return_statement : Lexeme → StatementKind
return_statement t = Return

abbrev pub if_statement_tree : (Expr × List Statement) × (List (Expr × List Statement) × Option (List Statement)) → StatementKind
if_statement_tree (first, x) = if_statement (first ∷ x.0) (or_nothing x.1)

abbrev pub statement_loop : List (IndexOf Expr) × List Statement → StatementKind
statement_loop (indices, statements) = for_statement indices statements

abbrev pub while_tree : Expr × List Statement → StatementKind
while_tree (condition, statements) = while_statement condition statements

abbrev pub when_statement_tree : (Expr × List Statement) × List (Expr × List Statement) → StatementKind
when_statement_tree (first, more) = when_statement (first ∷ more)

-- ---- elements

abbrev pub way_of : Lexeme → Causal
way_of t = if code_of t == input_word then Input else Output

abbrev pub way_or_neither : Option Causal → Causal
way_or_neither None = neither_way
way_or_neither (Some way) = way

abbrev pub vary_of : Lexeme → Vary
vary_of t = if code_of t == discrete_word then Discrete else (if code_of t == parameter_word then Parameter else Constant)

abbrev pub vary_or_free : Option Vary → Vary
vary_or_free None = Free
vary_or_free (Some vary) = vary

abbrev pub is_code : ℕ → Option Lexeme → Bool
is_code c None = false
is_code c (Some t) = code_of t == c

abbrev pub prefix_of : Option Lexeme × (Option Vary × Option Causal) → Prefix
prefix_of (connects, x) = record { flow = is_code flow_word connects; stream = is_code stream_word connects; vary = vary_or_free x.0; causal = way_or_neither x.1 }

-- an identifier, its dimensions and its modification
abbrev pub Declared : Type 0
Declared = Lexeme × (Option (List (Option Expr)) × Option Binding)

abbrev pub component_of : Prefix → ReferenceOf Expr → List (Option Expr) → Declared → Option Expr → ComponentOf Give
component_of prefix base base_subs (t, x) condition =
    record { prefix = prefix; base = base; base_subs = base_subs; name = t.text; place = t.place; subs = or_nothing x.0; mods = (binding_or_none x.1).0; binding = (binding_or_none x.1).1; condition = condition }

-- the one component of an argument
abbrev pub declares_component : Prefix × (ReferenceOf Expr × Declared) → Declares
declares_component (prefix, x) = (x.1.0, Component (component_of prefix x.0 [] x.1 None))

-- a component, by the prefix, the type and the dimensions before it
abbrev pub Components : Type 0
Components = (Prefix × (ReferenceOf Expr × Option (List (Option Expr)))) × List (Declared × Option Expr)

abbrev pub whats_of_class : ClassDefOf Body → List What
whats_of_class class = Class class ∷ []

abbrev pub whats_of_components : Components → List What
whats_of_components (x, list) = map (λ d. Component (component_of x.0 x.1.0 (or_nothing x.1.1) d.0 d.1)) list

-- what an element declares, whether it is replaceable, and the clause that constrains it
abbrev pub Placed : Type 0
Placed = List What × (Bool × Option Limit)

abbrev pub kept_whats : List What → Placed
kept_whats whats = (whats, (false, None))

abbrev pub replaceable_whats : List What × Option Limit → Placed
replaceable_whats (whats, limit) = (whats, (true, limit))

abbrev pub elements_of : Bool → (Bool × (Bool × (Bool × Bool))) × Placed → List Item
elements_of hidden (flags, x) =
    map (λ what. Member (record { flags = record { redeclare = flags.0; last = flags.1.0; inner = flags.1.1.0; outer = flags.1.1.1; replaceable = x.1.0; hidden = hidden }; what = what; limit = x.1.1 })) x.0

abbrev pub import_items : Import → List Item
import_items import = import_item import ∷ []

abbrev pub extends_items : Bool → ReferenceOf Expr × Option Mods → List Item
extends_items hidden (base, mods) = extends_item (record { base = base; mods = mods_or_none mods; hidden = hidden }) ∷ []

-- ---- imports

abbrev pub place_of_names : List Lexeme → Place
place_of_names [] = record { file = 0; byte = 0 }
place_of_names (t ∷ names) = t.place

abbrev pub renamed_import : Lexeme × List Lexeme → Import
renamed_import (t, names) = Renamed t.text (path_of names) (place_of_names names)

-- what is taken from a name: itself, all that stands in it, or these
abbrev pub Taken : Type 0
Taken = Option (Option (List Lexeme))

abbrev pub Imported : Type 0
Imported = List Lexeme × Taken

abbrev pub import_of : Imported → Import
import_of (names, None) = Named (path_of names) (place_of_names names)
import_of (names, Some None) = All (path_of names) (place_of_names names)
import_of (names, Some (Some group)) = Group (path_of names) (map text_of group) (place_of_names names)

abbrev pub from_all : Lexeme → Imported
from_all t = ([], Some None)

abbrev pub from_group : List Lexeme → Imported
from_group group = ([], Some (Some group))

abbrev pub all_names : Lexeme → Option (List Lexeme)
all_names t = None

abbrev pub imported : Lexeme × Option Imported → Imported
imported (t, None) = (t ∷ [], None)
imported (t, Some x) = (t ∷ x.0, x.1)

-- ---- classes

abbrev pub Kinded : Type 0
Kinded = ClassKind × ClassFlags

-- the flags of a class that is neither encapsulated nor partial
abbrev pub flags_of_words : (operator expandable : Bool) → Option Bool → ClassFlags
flags_of_words operator expandable purity =
    record { encapsulated = false; partial = false; operator = operator; expandable = expandable; purity = purity }

abbrev pub kinded : ClassKind → (operator expandable : Bool) → Option Bool → Kinded
kinded kind operator expandable purity = (kind, flags_of_words operator expandable purity)

abbrev pub kind_of : Lexeme → ClassKind
kind_of t =
    if code_of t == model_word then Model else (if code_of t == block_word then block_kind else (if code_of t == record_word then Recd
    else (if code_of t == connector_word then Connector else (if code_of t == type_word then TypeDef else (if code_of t == package_word then Package
    else (if code_of t == function_word then function_kind else Plain))))))

abbrev pub one_word_kind : Lexeme → Kinded
one_word_kind t = kinded (kind_of t) false false None

abbrev pub expandable_kind : Lexeme → Kinded
expandable_kind t = kinded Connector false true None

abbrev pub pure_kind : Lexeme × (Bool × Lexeme) → Kinded
pure_kind (t, x) = kinded function_kind x.0 false (Some (code_of t == pure_word))

abbrev pub operator_or : Option Lexeme → Kinded
operator_or None = kinded operator_kind false false None
operator_or (Some t) = kinded (kind_of t) true false None

abbrev pub partial_kind : Bool × Kinded → Kinded
partial_kind (partial, x) = (x.0, record x.1 { partial = partial })

abbrev pub class_named : Kinded → Lexeme × Body → ClassDefOf Body
class_named kind (t, body) = record { kind = kind.0; flags = kind.1; name = t.text; place = t.place; body = body }

abbrev pub class_tree : Bool × (Kinded × (Lexeme × Body)) → ClassDefOf Body
class_tree (encapsulated, x) = class_named (x.0.0, record x.0.1 { encapsulated = encapsulated }) x.1

abbrev pub declares_class : Kinded × (Lexeme × Body) → Declares
declares_class (kind, x) = (x.0, Class (class_named kind x))

-- the items of a class, and whether an `external` clause stands in it
abbrev pub Inside : Type 0
Inside = List Item × Bool

abbrev pub appended_items : List Item → List (List Item) → List Item
appended_items more [] = more
appended_items more (items ∷ lists) = items ++ appended_items more lists

abbrev pub items_before : List (List Item) × Inside → Inside
items_before (lists, x) = (appended_items x.0 lists, x.1)

abbrev pub nothing_more : Lexeme → Inside
nothing_more t = ([], false)

abbrev pub external_clause : Inside → Inside
external_clause x = (x.0, true)

abbrev pub equations_section : Bool → List Equation × Inside → Inside
equations_section initial (equations, x) = (Equations initial equations ∷ x.0, x.1)

abbrev pub algorithm_section : Bool → List Statement × Inside → Inside
algorithm_section initial (statements, x) = (Algorithm initial statements ∷ x.0, x.1)

abbrev pub no_more_equations : Inside → List Equation × Inside
no_more_equations x = ([], x)

abbrev pub one_more_equation : Equation × (List Equation × Inside) → List Equation × Inside
one_more_equation (equation, x) = (equation ∷ x.0, x.1)

abbrev pub long_body : Lexeme × Inside → Lexeme × Body
long_body (t, x) = (t, Long None x.0 x.1)

abbrev pub extending_body : Lexeme × (Option Mods × Inside) → Lexeme × Body
extending_body (t, x) = (t, Long (Some (mods_or_none x.0)) x.1.0 x.1.1)

abbrev pub short_body : Option Causal × (ReferenceOf Expr × (Option (List (Option Expr)) × Option Mods)) → Body
short_body (way, x) = Short (way_or_neither way) x.0 (or_nothing x.1.0) (mods_or_none x.1.1)

abbrev pub open_enumeration : Lexeme → Option (List (List ℕ))
open_enumeration t = None

abbrev pub listed_enumeration : Option (List (List ℕ)) → Option (List (List ℕ))
listed_enumeration literals = Some (or_nothing literals)

abbrev pub der_body : ReferenceOf Expr × List Lexeme → Body
der_body (base, names) = Der base (map text_of names)

-- ---- files

abbrev pub within_of : Option (Option (Place × List Lexeme)) → Option (Path × Place)
within_of None = None
within_of (Some None) = None
within_of (Some (Some x)) = Some (path_of x.1, x.0)

abbrev pub file_tree : Option (Option (Place × List Lexeme)) × (List (ClassDefOf Body) × Lexeme) → FileTree
file_tree (within, x) = record { file = x.1.place.file; within = within_of within; classes = x.0 }
