-- Classes by number, and what they declare (Modelica Language Specification 3.5, sections 4.5, 5.3, 7.1 and 13.2).
--
-- The definitions of names read these rows alone: a class with the home of its name, its own elements with those that files place
-- under it, its extends clauses, its imports, and its elements with the word `redeclare`.
use Rattle.std.specs.Prelude.{ℕ, ◌+◌, Bool, true, false, ◌&&◌, ◌||◌, List, [], ◌∷◌, ◌++◌, length, map, find, filter, flat_map, Option, Some, None, option_map, if◌then◌else◌, nat_eq}
use Rattle.std.specs.Str.{bytes_eq}
use Rattle.mo_syntax.specs.declared.expr.Expr.{Expr}
use Rattle.mo_syntax.specs.declared.expr.ReferenceOf.{ReferenceOf}
use Rattle.mo_syntax.specs.declared.class.ArgumentOf.{ArgumentOf}
use Rattle.mo_syntax.specs.declared.class.Body.{Body, Body-F, out-Body}
use Rattle.mo_syntax.specs.declared.class.Causal.{Causal}
use Rattle.mo_syntax.specs.declared.class.ClassDefOf.{ClassDefOf}
use Rattle.mo_syntax.specs.declared.class.ClassKind.{ClassKind}
use Rattle.mo_syntax.specs.declared.class.ClassKind.TheVariants.{Recd}
use Rattle.mo_syntax.specs.declared.class.ComponentOf.{ComponentOf}
use Rattle.mo_syntax.specs.declared.class.Element.{Element, out-Element}
use Rattle.mo_syntax.specs.declared.class.ElementFlags.{ElementFlags}
use Rattle.mo_syntax.specs.declared.class.ExtendsOf.{ExtendsOf}
use Rattle.mo_syntax.specs.declared.class.FileTree.{FileTree}
use Rattle.mo_syntax.specs.declared.class.Give.{Give}
use Rattle.mo_syntax.specs.declared.class.Import.{Import}
use Rattle.mo_syntax.specs.declared.class.Item.{Item, Item-F, out-Item}
use Rattle.mo_syntax.specs.declared.class.ModsOf.{ModsOf}
use Rattle.mo_syntax.specs.declared.class.Vary.{Vary}
use Rattle.mo_syntax.specs.declared.class.Vary.TheVariants.{Constant}
use Rattle.mo_syntax.specs.declared.class.What.{What, What-F, out-What}
use Rattle.mo_syntax.specs.declared.place.Place.{Place}
use Rattle.mo_syntax.specs.Classes.{Home, Under, Apart, ClassRow, Declared, Component, Class, Declaration}
use Rattle.mo_syntax.specs.ClassTable.{declarations, first_number, path_eq, placed_under}

-- ---- modifier lists

-- A modifier list with the value behind it, if there is one.
pub record Modifiers : Type 0 where
  pub list : List (ArgumentOf Give)
  pub value : Option Expr

abbrev pub no_modifiers : Modifiers
no_modifiers = record { list = []; value = None }

-- ---- elements

pub data Sort : Type 0 where
  -- a class, by its number
  A_class : (number : ℕ) → (encapsulated : Bool) → Sort
  A_component : ComponentOf Give → Sort

pub record Constraint : Type 0 where
  pub class : ReferenceOf Expr
  pub modifiers : Modifiers

-- What declares an element of a class: its name with its place, its prefixes, whether it is a class or a component, its own modifiers
-- (of a component with its binding, of a short class), and its constraining clause.
pub record Declares : Type 0 where
  pub name : List ℕ
  pub place : Place
  pub flags : ElementFlags
  pub sort : Sort
  pub own : Modifiers
  pub limit : Option Constraint

-- the modifiers of a short class
abbrev pub short_modifiers : Body → Modifiers
short_modifiers body = modifiers_in (out-Body body)
  where
    modifiers_in : Body-F Body Give Item What Element → Modifiers
    modifiers_in (Body-F.Short causal base subs mods) = record { list = mods.0; value = None }
    modifiers_in other = no_modifiers

abbrev pub place_eq : Place → Place → Bool
place_eq a b = nat_eq a.file b.file && nat_eq a.byte b.byte

abbrev pub no_flags : ElementFlags
no_flags = record { redeclare = false; last = false; inner = false; outer = false; replaceable = false; hidden = false }

-- a class that stands at the top, or that `within` places under another, has no prefixes
abbrev pub declared_class : ClassDefOf Body → ℕ → ElementFlags → Option Constraint → Declares
declared_class class number flags limit = record {
  name = class.name;
  place = class.place;
  flags = flags;
  sort = A_class number class.flags.encapsulated;
  own = short_modifiers class.body;
  limit = limit;
}

abbrev pub declared_component : ComponentOf Give → ElementFlags → Option Constraint → Declares
declared_component component flags limit = record {
  name = component.name;
  place = component.place;
  flags = flags;
  sort = A_component component;
  own = record { list = component.mods.0; value = component.binding };
  limit = limit;
}

abbrev pub constraint_in : Option (ReferenceOf Expr × ModsOf Give) → Option Constraint
constraint_in None = None
constraint_in (Some limit) = Some (record { class = limit.0; modifiers = record { list = limit.1.0; value = None } })

-- an element of the text; the number is that of the class that it declares, if it declares one
abbrev pub declared_by : Element → ℕ → Declares
declared_by element number = declared_in (out-What (out-Element element).what)
  where
    limit : Option Constraint
    limit = constraint_in (out-Element element).limit

    declared_in : What-F Body Give Item What Element → Declares
    declared_in (What-F.Class class) = declared_class class number (out-Element element).flags limit
    declared_in (What-F.Component component) = declared_component component (out-Element element).flags limit

abbrev pub is_class : Declares → Bool
is_class declares = is_class_sort declares.sort
  where
    is_class_sort : Sort → Bool
    is_class_sort (A_class number encapsulated) = true
    is_class_sort (A_component component) = false

abbrev pub is_constant_prefix : Vary → Bool
is_constant_prefix Constant = true
is_constant_prefix vary = false

-- a component that is declared constant
abbrev pub is_constant : Declares → Bool
is_constant declares = is_constant_sort declares.sort
  where
    is_constant_sort : Sort → Bool
    is_constant_sort (A_class number encapsulated) = false
    is_constant_sort (A_component component) = is_constant_prefix component.prefix.vary

-- an encapsulated class
abbrev pub is_encapsulated : Declares → Bool
is_encapsulated declares = is_encapsulated_sort declares.sort
  where
    is_encapsulated_sort : Sort → Bool
    is_encapsulated_sort (A_class number encapsulated) = encapsulated
    is_encapsulated_sort (A_component component) = false

-- the number of the class that it declares
abbrev pub class_number : Declares → ℕ
class_number declares = number_in declares.sort
  where
    number_in : Sort → ℕ
    number_in (A_class number encapsulated) = number
    number_in (A_component component) = 0

-- the component that it declares
abbrev pub component_of : Declares → Option (ComponentOf Give)
component_of declares = component_in declares.sort
  where
    component_in : Sort → Option (ComponentOf Give)
    component_in (A_class number encapsulated) = None
    component_in (A_component component) = Some component

-- ---- the parts of a class

-- an extends clause; of a short class, what stands behind `=`
abbrev pub Clause : Type 0
Clause = ExtendsOf Give

-- a part of a class that elements come from
pub data Part : Type 0 where
  Element_of : Declares → Part
  Base_of : Clause → Part

-- the items of a long class
abbrev pub items_in : Body-F Body Give Item What Element → List Item
items_in (Body-F.Long extending items external) = items
items_in other = []

-- what stands behind `=` in a short class
abbrev pub bases_in : Body-F Body Give Item What Element → List Clause
bases_in (Body-F.Short causal base subs mods) = record { base = base; mods = mods; hidden = false } ∷ []
bases_in other = []

abbrev pub part_of : (Element → ℕ) → Item → List Part
part_of number item = part_in (out-Item item)
  where
    part_in : Item-F Body Give Item What Element → List Part
    part_in (Item-F.Member element) =
        if (out-Element element).flags.redeclare then [] else Element_of (declared_by element (number element)) ∷ []
    part_in (Item-F.Extends clause) = Base_of clause ∷ []
    part_in other = []

abbrev pub placed_part : ClassRow → Part
placed_part row = Element_of (declared_class row.class row.number no_flags None)

-- the classes that files place under a class
abbrev pub placed_in : List FileTree → Home → List ℕ → List ClassRow
placed_in files (Under path) name = placed_under (path ++ name ∷ []) (declarations files)
placed_in files home name = []

-- the elements and extends clauses of a class in the order of the text, then the classes that files place under it
abbrev pub parts_in : List FileTree → (Element → ℕ) → Home → ClassRow → List Part
parts_in files number home row =
    flat_map (part_of number) (items_in (out-Body row.class.body)) ++ map Base_of (bases_in (out-Body row.class.body))
    ++ map placed_part (placed_in files home row.class.name)

-- an element of a class that replaces an inherited one
abbrev pub replacing_in : Item → List Element
replacing_in item = replacing_by (out-Item item)
  where
    replacing_by : Item-F Body Give Item What Element → List Element
    replacing_by (Item-F.Member element) = if (out-Element element).flags.redeclare then element ∷ [] else []
    replacing_by other = []

abbrev pub import_in : Item → List Import
import_in item = import_by (out-Item item)
  where
    import_by : Item-F Body Give Item What Element → List Import
    import_by (Item-F.Import clause) = clause ∷ []
    import_by other = []

-- ---- forms of classes

pub data Form : Type 0 where
  Long_class : Form
  -- its causality prefix and its dimensions, None for `:`
  Short_class : Causal → List (Option Expr) → Form
  -- its literals; `enumeration(:)` has none
  Enumeration_class : List (List ℕ) → Form
  -- `class extends` and `der` classes
  Other_class : Form

abbrev pub form_in : Body-F Body Give Item What Element → Form
form_in (Body-F.Long None items external) = Long_class
form_in (Body-F.Long (Some mods) items external) = Other_class
form_in (Body-F.Short causal base subs mods) = Short_class causal subs
form_in (Body-F.Enumeration None) = Enumeration_class []
form_in (Body-F.Enumeration (Some literals)) = Enumeration_class literals
form_in (Body-F.Der function names) = Other_class

-- ---- rows

-- A class by its number, with whose element its name is, and what stands in it.
pub record Row : Type 0 where
  pub number : ℕ
  pub home : Home
  -- whether it stands in no other class of its file
  pub outermost : Bool
  pub class : ClassDefOf Body
  pub form : Form
  pub parts : List Part
  pub replacing : List Element
  pub imports : List Import

abbrev pub Table : Type 0
Table = List Row

-- A class with whose element its name is.
pub record ClassEntry : Type 0 where
  pub row : ClassRow
  pub home : Home

abbrev pub entry_in : Declaration → List ClassEntry
entry_in d = entry_by d.what
  where
    entry_by : Declared → List ClassEntry
    entry_by Component = []
    entry_by (Class row) = record { row = row; home = d.home } ∷ []

-- the classes of the files in the order of files and bytes, which is that of their numbers
abbrev pub entries_of : List FileTree → List ClassEntry
entries_of files = flat_map entry_in (declarations files)

-- The number of the class that an element declares: a class is known by where its name stands.
abbrev pub number_by : (Place → ℕ) → Element → ℕ
number_by number element = number_in (out-What (out-Element element).what)
  where
    number_in : What-F Body Give Item What Element → ℕ
    number_in (What-F.Class class) = number class.place
    number_in (What-F.Component component) = 0

abbrev pub number_among : List ClassEntry → Place → ℕ
number_among [] place = 0
number_among (entry ∷ entries) place = if place_eq entry.row.class.place place then entry.row.number else number_among entries place

abbrev pub row_of : List FileTree → (Place → ℕ) → ClassEntry → Row
row_of files number entry = record {
  number = entry.row.number;
  home = entry.home;
  outermost = entry.row.outermost;
  class = entry.row.class;
  form = form_in (out-Body entry.row.class.body);
  parts = parts_in files (number_by number) entry.home entry.row;
  replacing = flat_map replacing_in (items_in (out-Body entry.row.class.body));
  imports = flat_map import_in (items_in (out-Body entry.row.class.body));
}

abbrev pub table_of : List FileTree → Table
table_of files = map (row_of files (number_among (entries_of files))) (entries_of files)

-- the class with that number, None for a predefined type
abbrev pub row_at : Table → ℕ → Option Row
row_at table number = find (λ row. nat_eq row.number number) table

abbrev pub number_at : Table → Place → ℕ
number_at [] place = 0
number_at (row ∷ rows) place = if place_eq row.class.place place then row.number else number_at rows place

-- the number of the class that an element of a modifier list declares
abbrev pub number_of_element : Table → Element → ℕ
number_of_element table = number_by (number_at table)

-- how many classes there are, the predefined types among them
abbrev pub number_of_classes : Table → ℕ
number_of_classes table = first_number + length table

abbrev pub is_top_class : Row → Bool
is_top_class row = row.outermost && is_top_home row.home
  where
    is_top_home : Home → Bool
    is_top_home (Under path) = path_eq path []
    is_top_home home = false

-- the classes at the top
abbrev pub top_classes : Table → List Row
top_classes table = filter is_top_class table

-- the number of the class at the top with that name
abbrev pub top_number : Table → List ℕ → Option ℕ
top_number table name = option_map (λ row. row.number) (find (λ row. bytes_eq row.class.name name) (top_classes table))

abbrev pub elements_in : List Part → List Declares
elements_in parts = flat_map element_in parts
  where
    element_in : Part → List Declares
    element_in (Element_of declares) = declares ∷ []
    element_in (Base_of clause) = []

abbrev pub clauses_in : List Part → List Clause
clauses_in parts = flat_map clause_in parts
  where
    clause_in : Part → List Clause
    clause_in (Element_of declares) = []
    clause_in (Base_of clause) = clause ∷ []

abbrev pub is_record : ClassKind → Bool
is_record Recd = true
is_record kind = false

abbrev pub is_other_form : Form → Bool
is_other_form Other_class = true
is_other_form form = false

-- An expandable connector, an operator record, `class extends` and a `der` class are left out.
abbrev pub is_left_out : Row → Bool
is_left_out row = row.class.flags.expandable || row.class.flags.operator && is_record row.class.kind || is_other_form row.form

abbrev pub is_short_form : Form → Bool
is_short_form (Short_class causal subs) = true
is_short_form form = false

abbrev pub literals_in : Form → Option (List (List ℕ))
literals_in (Enumeration_class literals) = Some literals
literals_in form = None

abbrev pub is_apart_home : Home → Bool
is_apart_home Apart = true
is_apart_home home = false

-- a short class that an argument of a modifier list or an element with `redeclare` declares
abbrev pub is_short_redeclaration : Row → Bool
is_short_redeclaration row = is_short_form row.form && is_apart_home row.home
