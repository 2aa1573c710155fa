-- Classes and files with no places: every place is set to `nowhere`, and a file's number to 0. `placeless` does it to what any
-- production makes.
use Rattle.std.specs.Prelude.{map}
use Rattle.std.specs.Option.{option_map}
use Rattle.mo_syntax.specs.declared.place.Place.{Place}
use Rattle.mo_syntax.specs.declared.text.Path.{Path}
use Rattle.mo_syntax.specs.declared.expr.Expr.{Expr}
use Rattle.mo_syntax.specs.declared.expr.ReferenceOf.{ReferenceOf}
use Rattle.mo_syntax.specs.declared.class.Body.{Body, Body-F, fold-Body}
use Rattle.mo_syntax.specs.declared.class.Body.TheVariants.{Long, Short, Enumeration, Der}
use Rattle.mo_syntax.specs.declared.class.Give.{Give, Give-F, fold-Give}
use Rattle.mo_syntax.specs.declared.class.Give.TheVariants.{Modify, Redeclare, Replaceable}
use Rattle.mo_syntax.specs.declared.class.Item.{Item, Item-F, fold-Item}
use Rattle.mo_syntax.specs.declared.class.Item.TheVariants.{Import as import_item, Extends as extends_item, Member, Equations, Algorithm}
use Rattle.mo_syntax.specs.declared.class.Import.{Import}
use Rattle.mo_syntax.specs.declared.class.Import.TheVariants.{Renamed, Named, Group, All}
use Rattle.mo_syntax.specs.declared.class.What.{What, What-F, fold-What}
use Rattle.mo_syntax.specs.declared.class.What.TheVariants.{Class, Component}
use Rattle.mo_syntax.specs.declared.class.Element.{Element, Element-F, fold-Element, roll-Element}
use Rattle.mo_syntax.specs.declared.class.ModsOf.{ModsOf}
use Rattle.mo_syntax.specs.declared.class.ArgumentOf.{ArgumentOf}
use Rattle.mo_syntax.specs.declared.class.ExtendsOf.{ExtendsOf}
use Rattle.mo_syntax.specs.declared.class.ComponentOf.{ComponentOf}
use Rattle.mo_syntax.specs.declared.class.ClassDefOf.{ClassDefOf}
use Rattle.mo_syntax.specs.declared.class.FileTree.{FileTree}
use Rattle.mo_grammar.specs.Symbols.{Symbol, ValueOf, Expressions, Simples, Logicals, Conjunctions, Negations, Relations, Sums, Products, Powers, Primaries, CallArguments, Arguments, MoreArguments, OneArgument, Indices, References, Subscripts, TypeSpecs, Names, ClassMods, ModArguments, EquationItems, ForEquations, WhenEquations, ElseEquations, IfEquations, StatementItems, ImportNames, ElementItems, Compositions, Sections, SectionEquations, ClassDefinitions, Files}
use Rattle.mo_grammar.specs.Trees.{Given}
use Rattle.mo_grammar.specs.ClassTrees.{Branched, BranchedElse, Imported, Inside}
use Rattle.mo_pieces.specs.Pieces.{nowhere, placeless_token}
use Rattle.mo_unparse.specs.Placeless.{placeless_expr, placeless_arg, placeless_args, placeless_option, placeless_options, placeless_reference, placeless_indices, placeless_named, placeless_equation, placeless_equations, placeless_equation_branch, placeless_statement, placeless_statements}

-- ---- forms that hold parts of a tree, with their own places set; what they hold is left alone

abbrev pub argument_nowhere : ArgumentOf Give → ArgumentOf Give
argument_nowhere argument = record argument { place = nowhere }

abbrev pub mods_nowhere : ModsOf Give → ModsOf Give
mods_nowhere mods = record { 0 = map argument_nowhere mods.0 }

abbrev pub limit_nowhere : ReferenceOf Expr × ModsOf Give → ReferenceOf Expr × ModsOf Give
limit_nowhere limit = (placeless_reference limit.0, mods_nowhere limit.1)

abbrev pub class_nowhere : ClassDefOf Body → ClassDefOf Body
class_nowhere class = record class { place = nowhere }

abbrev pub component_nowhere : ComponentOf Give → ComponentOf Give
component_nowhere component = record {
  prefix = component.prefix;
  base = placeless_reference component.base;
  base_subs = placeless_options component.base_subs;
  name = component.name;
  place = nowhere;
  subs = placeless_options component.subs;
  mods = mods_nowhere component.mods;
  binding = placeless_option component.binding;
  condition = placeless_option component.condition;
}

abbrev pub extends_nowhere : ExtendsOf Give → ExtendsOf Give
extends_nowhere clause = record { base = placeless_reference clause.base; mods = mods_nowhere clause.mods; hidden = clause.hidden }

abbrev pub placeless_import : Import → Import
placeless_import (Renamed name path place) = Renamed name path nowhere
placeless_import (Named path place) = Named path nowhere
placeless_import (Group path names place) = Group path names nowhere
placeless_import (All path place) = All path nowhere

-- ---- a step of each kind

abbrev pub body_nowhere : Body-F Body Give Item What Element → Body
body_nowhere (Body-F.Long extending items external) = Long (option_map mods_nowhere extending) items external
body_nowhere (Body-F.Short causal base subs mods) = Short causal (placeless_reference base) (placeless_options subs) (mods_nowhere mods)
body_nowhere (Body-F.Enumeration literals) = Enumeration literals
body_nowhere (Body-F.Der function names) = Der (placeless_reference function) names

abbrev pub give_nowhere : Give-F Body Give Item What Element → Give
give_nowhere (Give-F.Modify mods value) = Modify (mods_nowhere mods) (placeless_option value)
give_nowhere (Give-F.Redeclare element) = Redeclare element
give_nowhere (Give-F.Replaceable element) = Replaceable element

abbrev pub item_nowhere : Item-F Body Give Item What Element → Item
item_nowhere (Item-F.Import clause) = import_item (placeless_import clause)
item_nowhere (Item-F.Extends clause) = extends_item (extends_nowhere clause)
item_nowhere (Item-F.Member element) = Member element
item_nowhere (Item-F.Equations initial equations) = Equations initial (placeless_equations equations)
item_nowhere (Item-F.Algorithm initial statements) = Algorithm initial (placeless_statements statements)

abbrev pub what_nowhere : What-F Body Give Item What Element → What
what_nowhere (What-F.Class class) = Class (class_nowhere class)
what_nowhere (What-F.Component component) = Component (component_nowhere component)

abbrev pub element_nowhere : Element-F Body Give Item What Element → Element
element_nowhere element = roll-Element (record { flags = element.flags; what = element.what; limit = option_map limit_nowhere element.limit })

-- ---- classes

unfoldable pub placeless_body : Body → Body
placeless_body = fold-Body Body Give Item What Element body_nowhere give_nowhere item_nowhere what_nowhere element_nowhere

unfoldable pub placeless_give : Give → Give
placeless_give = fold-Give Body Give Item What Element body_nowhere give_nowhere item_nowhere what_nowhere element_nowhere

unfoldable pub placeless_item : Item → Item
placeless_item = fold-Item Body Give Item What Element body_nowhere give_nowhere item_nowhere what_nowhere element_nowhere

unfoldable pub placeless_what : What → What
placeless_what = fold-What Body Give Item What Element body_nowhere give_nowhere item_nowhere what_nowhere element_nowhere

unfoldable pub placeless_element : Element → Element
placeless_element = fold-Element Body Give Item What Element body_nowhere give_nowhere item_nowhere what_nowhere element_nowhere

abbrev pub placeless_argument : ArgumentOf Give → ArgumentOf Give
placeless_argument argument = record { each = argument.each; last = argument.last; name = argument.name; place = nowhere; give = placeless_give argument.give }

abbrev pub placeless_mods : ModsOf Give → ModsOf Give
placeless_mods mods = record { 0 = map placeless_argument mods.0 }

abbrev pub placeless_limit : ReferenceOf Expr × ModsOf Give → ReferenceOf Expr × ModsOf Give
placeless_limit limit = (placeless_reference limit.0, placeless_mods limit.1)

abbrev pub placeless_extends : ExtendsOf Give → ExtendsOf Give
placeless_extends clause = record { base = placeless_reference clause.base; mods = placeless_mods clause.mods; hidden = clause.hidden }

abbrev pub placeless_component : ComponentOf Give → ComponentOf Give
placeless_component component = record {
  prefix = component.prefix;
  base = placeless_reference component.base;
  base_subs = placeless_options component.base_subs;
  name = component.name;
  place = nowhere;
  subs = placeless_options component.subs;
  mods = placeless_mods component.mods;
  binding = placeless_option component.binding;
  condition = placeless_option component.condition;
}

abbrev pub placeless_class : ClassDefOf Body → ClassDefOf Body
placeless_class class = record { kind = class.kind; flags = class.flags; name = class.name; place = nowhere; body = placeless_body class.body }

-- ---- files

abbrev pub placeless_within : Path × Place → Path × Place
placeless_within within = (within.0, nowhere)

abbrev pub placeless_file : FileTree → FileTree
placeless_file file = record { file = 0; within = option_map placeless_within file.within; classes = map placeless_class file.classes }

-- ---- what each production makes

abbrev pub placeless_given : Given → Given
placeless_given given = (map placeless_arg given.0, map placeless_named given.1)

abbrev pub placeless_branched : Branched → Branched
placeless_branched x = (placeless_equations x.0, map placeless_equation_branch x.1)

abbrev pub placeless_branched_else : BranchedElse → BranchedElse
placeless_branched_else x = (placeless_equations x.0, (map placeless_equation_branch x.1.0, placeless_equations x.1.1))

abbrev pub placeless_imported : Imported → Imported
placeless_imported x = (map placeless_token x.0, option_map (option_map (map placeless_token)) x.1)

abbrev pub placeless_inside : Inside → Inside
placeless_inside x = (map placeless_item x.0, x.1)

abbrev pub placeless : (x : Symbol) → ValueOf x → ValueOf x
placeless Expressions = placeless_expr
placeless Simples = placeless_expr
placeless Logicals = placeless_expr
placeless Conjunctions = placeless_expr
placeless Negations = placeless_expr
placeless Relations = placeless_expr
placeless Sums = placeless_expr
placeless Products = placeless_expr
placeless Powers = placeless_expr
placeless Primaries = placeless_expr
placeless CallArguments = placeless_args
placeless Arguments = placeless_args
placeless MoreArguments = placeless_given
placeless OneArgument = placeless_arg
placeless Indices = placeless_indices
placeless References = placeless_reference
placeless Subscripts = placeless_options
placeless TypeSpecs = placeless_reference
placeless Names = map placeless_token
placeless ClassMods = placeless_mods
placeless ModArguments = placeless_argument
placeless EquationItems = placeless_equation
placeless ForEquations = placeless_equations
placeless WhenEquations = placeless_branched
placeless ElseEquations = placeless_equations
placeless IfEquations = placeless_branched_else
placeless StatementItems = placeless_statement
placeless ImportNames = placeless_imported
placeless (ElementItems hidden) = map placeless_item
placeless Compositions = placeless_inside
placeless Sections = placeless_inside
placeless SectionEquations = λ x. (placeless_equations x.0, placeless_inside x.1)
placeless ClassDefinitions = placeless_class
placeless Files = placeless_file
