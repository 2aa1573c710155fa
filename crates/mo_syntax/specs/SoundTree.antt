-- When a tree is sound: it is as the grammar makes every tree (Modelica Language Specification 3.5, appendix A.2). No reference,
-- no name of an argument and no name of an import is empty. No list of a sum, a product, `and`, `or`, an if-expression, an array
-- or a matrix is empty, and no product begins with a factor to divide by. Besides, each name in it passes a test that is given.
-- The form of each part is said over any test of its own parts.
use Rattle.std.specs.Prelude.{ℕ, Bool, true, false, ◌&&◌, not, List, [], ◌∷◌, Option, Some, None, IsTrue}
use Rattle.std.specs.List.{list_all}
use Rattle.mo_syntax.specs.declared.text.Path.{Path}
use Rattle.mo_syntax.specs.declared.expr.PartOf.{PartOf}
use Rattle.mo_syntax.specs.declared.expr.ReferenceOf.{ReferenceOf}
use Rattle.mo_syntax.specs.declared.expr.IndexOf.{IndexOf}
use Rattle.mo_syntax.specs.declared.expr.TermOf.{TermOf}
use Rattle.mo_syntax.specs.declared.expr.FactorOf.{FactorOf}
use Rattle.mo_syntax.specs.declared.expr.BranchOf.{BranchOf}
use Rattle.mo_syntax.specs.declared.expr.CalleeOf.{CalleeOf}
use Rattle.mo_syntax.specs.declared.expr.CalleeOf.TheVariants.{Named as named_callee, Der as der_callee, Initial as initial_callee, Pure as pure_callee}
use Rattle.mo_syntax.specs.declared.expr.Expr.{Expr, Expr-F, fold-Expr}
use Rattle.mo_syntax.specs.declared.expr.Node.{Node, Node-F, fold-Node}
use Rattle.mo_syntax.specs.declared.expr.Arg.{Arg, Arg-F, fold-Arg}
use Rattle.mo_syntax.specs.declared.expr.Args.{Args, Args-F, fold-Args}
use Rattle.mo_syntax.specs.declared.equation.EquationOf.{EquationOf}
use Rattle.mo_syntax.specs.declared.equation.EquationKind.{EquationKind, EquationKind-F, fold-EquationKind}
use Rattle.mo_syntax.specs.declared.equation.StatementOf.{StatementOf}
use Rattle.mo_syntax.specs.declared.equation.StatementKind.{StatementKind, StatementKind-F, fold-StatementKind}
use Rattle.mo_syntax.specs.declared.class.ArgumentOf.{ArgumentOf}
use Rattle.mo_syntax.specs.declared.class.ModsOf.{ModsOf}
use Rattle.mo_syntax.specs.declared.class.ExtendsOf.{ExtendsOf}
use Rattle.mo_syntax.specs.declared.class.ComponentOf.{ComponentOf}
use Rattle.mo_syntax.specs.declared.class.ClassDefOf.{ClassDefOf}
use Rattle.mo_syntax.specs.declared.class.Import.{Import}
use Rattle.mo_syntax.specs.declared.class.Import.TheVariants.{Renamed, Named, Group, All as from_all}
use Rattle.mo_syntax.specs.declared.class.Body.{Body, Body-F, fold-Body}
use Rattle.mo_syntax.specs.declared.class.Give.{Give, Give-F, fold-Give}
use Rattle.mo_syntax.specs.declared.class.Item.{Item, Item-F, fold-Item}
use Rattle.mo_syntax.specs.declared.class.What.{What, What-F, fold-What}
use Rattle.mo_syntax.specs.declared.class.Element.{Element, Element-F, fold-Element}
use Rattle.mo_syntax.specs.declared.class.FileTree.{FileTree}
use Rattle.mo_syntax.specs.declared.place.Place.{Place}

-- a test of names
abbrev pub Naming : Type 0
Naming = List ℕ → Bool

-- any name
abbrev pub any_name : Naming
any_name name = true

-- what has been tested
abbrev pub itself : Bool → Bool
itself b = b

abbrev pub is_nonempty : {A : Type 0} → List A → Bool
is_nonempty [] = false
is_nonempty (x ∷ xs) = true

-- nothing, or what passes
abbrev pub option_by : {A : Type 0} → (A → Bool) → Option A → Bool
option_by test None = true
option_by test (Some a) = test a

-- one or more, each of which passes
abbrev pub some_by : {A : Type 0} → (A → Bool) → List A → Bool
some_by test xs = is_nonempty xs && list_all test xs

-- ---- expressions

abbrev pub part_by : Naming → {E : Type 0} → (E → Bool) → PartOf E → Bool
part_by is_name expr part = is_name part.name && list_all (option_by expr) part.subs

abbrev pub reference_by : Naming → {E : Type 0} → (E → Bool) → ReferenceOf E → Bool
reference_by is_name expr reference = some_by (part_by is_name expr) reference.parts

abbrev pub callee_by : Naming → {E : Type 0} → (E → Bool) → CalleeOf E → Bool
callee_by is_name expr (named_callee reference) = reference_by is_name expr reference
callee_by is_name expr der_callee = true
callee_by is_name expr initial_callee = true
callee_by is_name expr pure_callee = true

abbrev pub index_by : Naming → {E : Type 0} → (E → Bool) → IndexOf E → Bool
index_by is_name expr index = is_name index.name && option_by expr index.range

abbrev pub named_by : Naming → {A : Type 0} → (A → Bool) → List ℕ × A → Bool
named_by is_name arg named = is_name named.0 && arg named.1

abbrev pub terms_by : {E : Type 0} → (E → Bool) → List (TermOf E) → Bool
terms_by expr terms = some_by (λ term. expr term.value) terms

-- a product begins with a factor that is multiplied
abbrev pub begins_multiplied : {E : Type 0} → List (FactorOf E) → Bool
begins_multiplied [] = false
begins_multiplied (factor ∷ factors) = not factor.divide

abbrev pub factors_by : {E : Type 0} → (E → Bool) → List (FactorOf E) → Bool
factors_by expr factors = begins_multiplied factors && list_all (λ factor. expr factor.value) factors

abbrev pub branch_by : {E : Type 0} → (E → Bool) → BranchOf E → Bool
branch_by expr branch = expr branch.condition && expr branch.value

abbrev pub node_by : Naming → {A N G E : Type 0} → (G → Bool) → (E → Bool) → Node-F A N G E → Bool
node_by is_name args expr (Node-F.Whole value) = true
node_by is_name args expr (Node-F.Decimal text) = true
node_by is_name args expr (Node-F.Str text) = true
node_by is_name args expr (Node-F.Truth truth) = true
node_by is_name args expr (Node-F.Ref reference) = reference_by is_name expr reference
node_by is_name args expr (Node-F.Sum terms) = terms_by expr terms
node_by is_name args expr (Node-F.Product factors) = factors_by expr factors
node_by is_name args expr (Node-F.Power base dotted exponent) = expr base && expr exponent
node_by is_name args expr (Node-F.Relation op left right) = expr left && expr right
node_by is_name args expr (Node-F.Not operand) = expr operand
node_by is_name args expr (Node-F.All operands) = some_by expr operands
node_by is_name args expr (Node-F.Any operands) = some_by expr operands
node_by is_name args expr (Node-F.Range first step last) = expr first && (option_by expr step && expr last)
node_by is_name args expr (Node-F.If branches other) = some_by (branch_by expr) branches && expr other
node_by is_name args expr (Node-F.Call callee given) = callee_by is_name expr callee && args given
node_by is_name args expr (Node-F.Tuple outputs) = list_all (option_by expr) outputs
node_by is_name args expr (Node-F.Array elements) = some_by expr elements
node_by is_name args expr (Node-F.ArrayFor element iterators) = expr element && list_all (index_by is_name expr) iterators
node_by is_name args expr (Node-F.Matrix rows) = some_by (some_by expr) rows
node_by is_name args expr Node-F.EndMark = true

abbrev pub args_by : Naming → {A N G E : Type 0} → (A → Bool) → (E → Bool) → Args-F A N G E → Bool
args_by is_name arg expr args = list_all arg args.plain && (list_all (named_by is_name arg) args.named && list_all (index_by is_name expr) args.iters)

abbrev pub arg_by : Naming → {A N G E : Type 0} → (A → Bool) → (E → Bool) → Arg-F A N G E → Bool
arg_by is_name arg expr (Arg-F.Value value) = expr value
arg_by is_name arg expr (Arg-F.Partial function named) = reference_by is_name expr function && list_all (named_by is_name arg) named

abbrev pub expr_by : {A N G E : Type 0} → (N → Bool) → Expr-F A N G E → Bool
expr_by node e = node e.node

unfoldable pub is_sound_expr : Naming → Expr → Bool
is_sound_expr is_name = fold-Expr Bool Bool Bool Bool (arg_by is_name itself itself) (node_by is_name itself itself) (args_by is_name itself itself) (expr_by itself)

unfoldable pub is_sound_node : Naming → Node → Bool
is_sound_node is_name = fold-Node Bool Bool Bool Bool (arg_by is_name itself itself) (node_by is_name itself itself) (args_by is_name itself itself) (expr_by itself)

unfoldable pub is_sound_args : Naming → Args → Bool
is_sound_args is_name = fold-Args Bool Bool Bool Bool (arg_by is_name itself itself) (node_by is_name itself itself) (args_by is_name itself itself) (expr_by itself)

unfoldable pub is_sound_arg : Naming → Arg → Bool
is_sound_arg is_name = fold-Arg Bool Bool Bool Bool (arg_by is_name itself itself) (node_by is_name itself itself) (args_by is_name itself itself) (expr_by itself)

abbrev pub is_sound_option : Naming → Option Expr → Bool
is_sound_option is_name = option_by (is_sound_expr is_name)

-- subscripts, dimensions or outputs
abbrev pub are_sound_options : Naming → List (Option Expr) → Bool
are_sound_options is_name = list_all (is_sound_option is_name)

abbrev pub is_sound_reference : Naming → ReferenceOf Expr → Bool
is_sound_reference is_name = reference_by is_name (is_sound_expr is_name)

abbrev pub are_sound_indices : Naming → List (IndexOf Expr) → Bool
are_sound_indices is_name = list_all (index_by is_name (is_sound_expr is_name))

-- ---- equations and statements

-- conditions with what stands under them
abbrev pub branches_by : Naming → {A : Type 0} → (A → Bool) → List (Expr × List A) → Bool
branches_by is_name test branches = list_all (λ branch. is_sound_expr is_name branch.0 && list_all test branch.1) branches

abbrev pub equation_by : {K : Type 0} → (K → Bool) → EquationOf K → Bool
equation_by kind equation = kind equation.what

abbrev pub equation_kind_by : Naming → {K : Type 0} → (K → Bool) → EquationKind-F K → Bool
equation_kind_by is_name kind (EquationKind-F.Equal left right) = is_sound_expr is_name left && is_sound_expr is_name right
equation_kind_by is_name kind (EquationKind-F.If branches others) = branches_by is_name (equation_by kind) branches && list_all (equation_by kind) others
equation_kind_by is_name kind (EquationKind-F.For indices equations) = are_sound_indices is_name indices && list_all (equation_by kind) equations
equation_kind_by is_name kind (EquationKind-F.When branches) = branches_by is_name (equation_by kind) branches
equation_kind_by is_name kind (EquationKind-F.Connect left right) = is_sound_reference is_name left && is_sound_reference is_name right
equation_kind_by is_name kind (EquationKind-F.Call called args) = is_sound_reference is_name called && is_sound_args is_name args

unfoldable pub is_sound_equation_kind : Naming → EquationKind → Bool
is_sound_equation_kind is_name = fold-EquationKind Bool (equation_kind_by is_name itself)

abbrev pub is_sound_equation : Naming → EquationOf EquationKind → Bool
is_sound_equation is_name = equation_by (is_sound_equation_kind is_name)

abbrev pub statement_by : {K : Type 0} → (K → Bool) → StatementOf K → Bool
statement_by kind statement = kind statement.what

abbrev pub statement_kind_by : Naming → {K : Type 0} → (K → Bool) → StatementKind-F K → Bool
statement_kind_by is_name kind (StatementKind-F.Assign variable value) = is_sound_reference is_name variable && is_sound_expr is_name value
statement_kind_by is_name kind (StatementKind-F.Call called args) = is_sound_reference is_name called && is_sound_args is_name args
statement_kind_by is_name kind (StatementKind-F.Outputs outputs called args) =
    are_sound_options is_name outputs && (is_sound_reference is_name called && is_sound_args is_name args)
statement_kind_by is_name kind StatementKind-F.Break = true
statement_kind_by is_name kind StatementKind-F.Return = true
statement_kind_by is_name kind (StatementKind-F.If branches others) = branches_by is_name (statement_by kind) branches && list_all (statement_by kind) others
statement_kind_by is_name kind (StatementKind-F.For indices statements) = are_sound_indices is_name indices && list_all (statement_by kind) statements
statement_kind_by is_name kind (StatementKind-F.While condition statements) = is_sound_expr is_name condition && list_all (statement_by kind) statements
statement_kind_by is_name kind (StatementKind-F.When branches) = branches_by is_name (statement_by kind) branches

unfoldable pub is_sound_statement_kind : Naming → StatementKind → Bool
is_sound_statement_kind is_name = fold-StatementKind Bool (statement_kind_by is_name itself)

abbrev pub is_sound_statement : Naming → StatementOf StatementKind → Bool
is_sound_statement is_name = statement_by (is_sound_statement_kind is_name)

-- ---- classes

-- the name of an argument or of an import
abbrev pub is_sound_path : Naming → Path → Bool
is_sound_path is_name path = some_by is_name path.0

abbrev pub argument_by : Naming → {G : Type 0} → (G → Bool) → ArgumentOf G → Bool
argument_by is_name give argument = is_sound_path is_name argument.name && give argument.give

abbrev pub mods_by : Naming → {G : Type 0} → (G → Bool) → ModsOf G → Bool
mods_by is_name give mods = list_all (argument_by is_name give) mods.0

abbrev pub is_sound_import : Naming → Import → Bool
is_sound_import is_name (Renamed name path place) = is_name name && is_sound_path is_name path
is_sound_import is_name (Named path place) = is_sound_path is_name path
is_sound_import is_name (Group path names place) = is_sound_path is_name path && list_all is_name names
is_sound_import is_name (from_all path place) = is_sound_path is_name path

abbrev pub extends_by : Naming → {G : Type 0} → (G → Bool) → ExtendsOf G → Bool
extends_by is_name give clause = is_sound_reference is_name clause.base && mods_by is_name give clause.mods

abbrev pub component_by : Naming → {G : Type 0} → (G → Bool) → ComponentOf G → Bool
component_by is_name give component =
    is_name component.name && (is_sound_reference is_name component.base && (are_sound_options is_name component.base_subs
    && (are_sound_options is_name component.subs && (mods_by is_name give component.mods
    && (is_sound_option is_name component.binding && is_sound_option is_name component.condition)))))

abbrev pub class_by : Naming → {B : Type 0} → (B → Bool) → ClassDefOf B → Bool
class_by is_name body class = is_name class.name && body class.body

abbrev pub limit_by : Naming → {G : Type 0} → (G → Bool) → ReferenceOf Expr × ModsOf G → Bool
limit_by is_name give limit = is_sound_reference is_name limit.0 && mods_by is_name give limit.1

abbrev pub body_by : Naming → {B G I W E : Type 0} → (G → Bool) → (I → Bool) → Body-F B G I W E → Bool
body_by is_name give item (Body-F.Long extending items external) = option_by (mods_by is_name give) extending && list_all item items
body_by is_name give item (Body-F.Short causal base subs mods) =
    is_sound_reference is_name base && (are_sound_options is_name subs && mods_by is_name give mods)
body_by is_name give item (Body-F.Enumeration literals) = option_by (list_all is_name) literals
body_by is_name give item (Body-F.Der function names) = is_sound_reference is_name function && list_all is_name names

abbrev pub give_by : Naming → {B G I W E : Type 0} → (G → Bool) → (E → Bool) → Give-F B G I W E → Bool
give_by is_name give element (Give-F.Modify mods value) = mods_by is_name give mods && is_sound_option is_name value
give_by is_name give element (Give-F.Redeclare declared) = element declared
give_by is_name give element (Give-F.Replaceable declared) = element declared

abbrev pub item_by : Naming → {B G I W E : Type 0} → (G → Bool) → (E → Bool) → Item-F B G I W E → Bool
item_by is_name give element (Item-F.Import clause) = is_sound_import is_name clause
item_by is_name give element (Item-F.Extends clause) = extends_by is_name give clause
item_by is_name give element (Item-F.Member declared) = element declared
item_by is_name give element (Item-F.Equations initial equations) = list_all (is_sound_equation is_name) equations
item_by is_name give element (Item-F.Algorithm initial statements) = list_all (is_sound_statement is_name) statements

abbrev pub what_by : Naming → {B G I W E : Type 0} → (B → Bool) → (G → Bool) → What-F B G I W E → Bool
what_by is_name body give (What-F.Class class) = class_by is_name body class
what_by is_name body give (What-F.Component component) = component_by is_name give component

abbrev pub element_by : Naming → {B G I W E : Type 0} → (G → Bool) → (W → Bool) → Element-F B G I W E → Bool
element_by is_name give what element = what element.what && option_by (limit_by is_name give) element.limit

unfoldable pub is_sound_body : Naming → Body → Bool
is_sound_body is_name = fold-Body Bool Bool Bool Bool Bool (body_by is_name itself itself) (give_by is_name itself itself) (item_by is_name itself itself) (what_by is_name itself itself) (element_by is_name itself itself)

unfoldable pub is_sound_give : Naming → Give → Bool
is_sound_give is_name = fold-Give Bool Bool Bool Bool Bool (body_by is_name itself itself) (give_by is_name itself itself) (item_by is_name itself itself) (what_by is_name itself itself) (element_by is_name itself itself)

unfoldable pub is_sound_item : Naming → Item → Bool
is_sound_item is_name = fold-Item Bool Bool Bool Bool Bool (body_by is_name itself itself) (give_by is_name itself itself) (item_by is_name itself itself) (what_by is_name itself itself) (element_by is_name itself itself)

unfoldable pub is_sound_what : Naming → What → Bool
is_sound_what is_name = fold-What Bool Bool Bool Bool Bool (body_by is_name itself itself) (give_by is_name itself itself) (item_by is_name itself itself) (what_by is_name itself itself) (element_by is_name itself itself)

unfoldable pub is_sound_element : Naming → Element → Bool
is_sound_element is_name = fold-Element Bool Bool Bool Bool Bool (body_by is_name itself itself) (give_by is_name itself itself) (item_by is_name itself itself) (what_by is_name itself itself) (element_by is_name itself itself)

abbrev pub is_sound_mods : Naming → ModsOf Give → Bool
is_sound_mods is_name = mods_by is_name (is_sound_give is_name)

abbrev pub is_sound_class : Naming → ClassDefOf Body → Bool
is_sound_class is_name = class_by is_name (is_sound_body is_name)

-- ---- files

-- the name behind `within`
abbrev pub is_sound_within : Naming → Option (Path × Place) → Bool
is_sound_within is_name = option_by (λ within. list_all is_name within.0.0)

abbrev pub is_sound_file : Naming → FileTree → Bool
is_sound_file is_name file = is_sound_within is_name file.within && list_all (is_sound_class is_name) file.classes

-- sound expressions, modifiers, classes and files, whatever the names are

abbrev pub IsSoundExpr : Expr → Type 0
IsSoundExpr e = IsTrue (is_sound_expr any_name e)

abbrev pub IsSoundReference : ReferenceOf Expr → Type 0
IsSoundReference reference = IsTrue (is_sound_reference any_name reference)

abbrev pub IsSoundMods : ModsOf Give → Type 0
IsSoundMods mods = IsTrue (is_sound_mods any_name mods)

abbrev pub IsSoundClass : ClassDefOf Body → Type 0
IsSoundClass class = IsTrue (is_sound_class any_name class)

abbrev pub IsSoundTree : List FileTree → Type 0
IsSoundTree files = IsTrue (list_all (is_sound_file any_name) files)

-- a sound tree, each name in which passes the test
abbrev pub IsSoundNamedTree : Naming → List FileTree → Type 0
IsSoundNamedTree is_name files = IsTrue (list_all (is_sound_file is_name) files)
