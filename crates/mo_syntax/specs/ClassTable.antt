-- The class tree of a set of files as a table of rows by class number (Modelica Language Specification 3.5, sections 5.3,
-- 5.6 and 13.2.2.3). Numbers 0 to 5 are the predefined types; the classes of the files follow in the order of files and bytes.
use Rattle.std.specs.Prelude.{ℕ, ◌+◌, ◌&&◌, Bool, true, false, List, [], ◌∷◌, ◌++◌, Option, Some, None, map, if◌then◌else◌, nat_eq}
use Rattle.std.specs.List.{flat_map, list_any}
use Rattle.std.specs.Str.{bytes_eq}
use Rattle.mo_syntax.specs.declared.class.Body.{Body, Body-F, out-Body}
use Rattle.mo_syntax.specs.declared.class.ClassDefOf.{ClassDefOf}
use Rattle.mo_syntax.specs.declared.class.ClassKind.{ClassKind}
use Rattle.mo_syntax.specs.declared.class.ClassKind.TheVariants.{Package, Function, Operator, TypeDef}
use Rattle.mo_syntax.specs.declared.class.Element.{Element}
use Rattle.mo_syntax.specs.declared.class.FileTree.{FileTree}
use Rattle.mo_syntax.specs.declared.class.Give.{Give}
use Rattle.mo_syntax.specs.declared.class.Item.{Item}
use Rattle.mo_syntax.specs.declared.class.Item.TheVariants.{Extends}
use Rattle.mo_syntax.specs.declared.class.ModsOf.{ModsOf}
use Rattle.mo_syntax.specs.declared.class.What.{What}
use Rattle.mo_syntax.specs.declared.place.Broken.{Broken}
use Rattle.mo_syntax.specs.declared.place.Place.{Place}
use Rattle.mo_syntax.specs.declared.rules.TheConstants.{WITHIN_NAMES_NO_CLASS, DECLARED_TWICE, CLASS_NOT_FOUND, WRONG_KIND_OF_NAME}
use Rattle.mo_syntax.specs.declared.text.Path.{Path}
use Rattle.mo_syntax.specs.Classes.{Home, Under, Inside, Apart, ClassRow, Declared, Component, Class, Declaration, Outline, Outlined, each, in_class, outline_of_body, outline_of_give, outline_of_item}

-- ---- what files declare

-- a tree with its outline
abbrev pub with_outline : ClassDefOf Body → ClassDefOf (Outlined Body)
with_outline class =
    record { kind = class.kind; flags = class.flags; name = class.name; place = class.place; body = (class.body, outline_of_body class.body) }

abbrev pub names_of : Option (Path × Place) → List (List ℕ)
names_of None = []
names_of (Some within) = within.0.0

-- the classes of a file stand under the path that its `within` names, or at the top
abbrev pub in_file : FileTree → Outline
in_file file = record {
  classes = (each (λ class. in_class true (with_outline class)) file.classes).classes;
  declared = λ home n. (each (λ class. in_class true (with_outline class)) file.classes).declared (Under (names_of file.within)) n;
}

-- the number of the first class that is not predefined
abbrev pub first_number : ℕ
first_number = 6

-- how many classes stand in the files
abbrev pub class_count : List FileTree → ℕ
class_count files = (each in_file files).classes

abbrev pub declarations : List FileTree → List Declaration
declarations files = (each in_file files).declared Apart first_number

-- ---- paths

-- the path of a declared name, None where its home has none
abbrev pub path_of : Declaration → Option (List (List ℕ))
path_of d = path_in d.home
  where
    path_in : Home → Option (List (List ℕ))
    path_in (Under path) = Some (path ++ d.name ∷ [])
    path_in (Inside n) = None
    path_in Apart = None

abbrev pub path_eq : List (List ℕ) → List (List ℕ) → Bool
path_eq [] [] = true
path_eq [] (name ∷ names) = false
path_eq (name ∷ names) [] = false
path_eq (name ∷ names) (other ∷ others) = bytes_eq name other && path_eq names others

abbrev pub row_at : List (List ℕ) → Declaration → Option ClassRow
row_at path d = row_of d.what (path_of d)
  where
    row_of : Declared → Option (List (List ℕ)) → Option ClassRow
    row_of Component at = None
    row_of (Class row) None = None
    row_of (Class row) (Some at) = if path_eq at path then Some row else None

abbrev pub otherwise : {A : Type 0} → Option A → Option A → Option A
otherwise (Some a) other = Some a
otherwise None other = other

abbrev pub first_row : List (List ℕ) → List Declaration → Option ClassRow
first_row path [] = None
first_row path (d ∷ ds) = otherwise (row_at path d) (first_row path ds)

-- the class of that path: no two have one path where no rule of the class tree is broken
abbrev pub class_of_path : List FileTree → List (List ℕ) → Option ClassRow
class_of_path files path = first_row path (declarations files)

-- ---- the elements of a class

-- A part of a class, with the number of the first class in it: of the class itself that a member declares.
pub record Numbered : Type 0 where
  pub item : Item
  pub first : ℕ

abbrev pub numbered : ℕ → List Item → List Numbered
numbered n [] = []
numbered n (item ∷ items) = record { item = item; first = n } ∷ numbered (n + (outline_of_item item).classes) items

abbrev pub classes_in_mods : Option (ModsOf Give) → ℕ
classes_in_mods None = 0
classes_in_mods (Some mods) = (each (λ argument. outline_of_give argument.give) mods.0).classes

-- The parts of a class in the order of the text; a short class has one base.
abbrev pub own_parts : ClassRow → List Numbered
own_parts row = parts_of (out-Body row.class.body)
  where
    parts_of : Body-F Body Give Item What Element → List Numbered
    parts_of (Body-F.Long extending items external) = numbered (row.number + 1 + classes_in_mods extending) items
    parts_of (Body-F.Short causal base subs mods) =
        record { item = Extends (record { base = base; mods = mods; hidden = false }); first = row.number + 1 } ∷ []
    parts_of (Body-F.Enumeration literals) = []
    parts_of (Body-F.Der function names) = []

-- the classes that files place under a path by `within`, in the order of the files
abbrev pub placed_under : List (List ℕ) → List Declaration → List ClassRow
placed_under path ds = flat_map placed ds
  where
    placed_in : Home → Declared → List ClassRow
    placed_in (Under at) (Class row) = if row.outermost && path_eq at path then row ∷ [] else []
    placed_in home what = []

    placed : Declaration → List ClassRow
    placed d = placed_in d.home d.what

-- ---- the rules of the class tree

abbrev pub is_long : Option ClassRow → Bool
is_long None = false
is_long (Some row) = is_long_body (out-Body row.class.body)
  where
    is_long_body : Body-F Body Give Item What Element → Bool
    is_long_body (Body-F.Long extending items external) = true
    is_long_body _ = false

abbrev pub same_home : Home → Home → Bool
same_home (Under path) (Under other) = path_eq path other
same_home (Inside n) (Inside m) = nat_eq n m
same_home home other = false

-- whether the name stands among the elements before, in the same class or at the top
abbrev pub is_repeated : List Declaration → Declaration → Bool
is_repeated before d = list_any (λ other. same_home other.home d.home && bytes_eq other.name d.name) before

-- A name with its place that a rule of the class tree asks of: that behind `within`, or a declared one.
pub data Asked : Type 0 where
  Within : List (List ℕ) → Place → Asked
  Names : Declaration → Asked

-- the names of the files, in the order of files and bytes
abbrev pub asked_from : ℕ → List FileTree → List Asked
asked_from n [] = []
asked_from n (file ∷ files) = within file.within ++ (map Names ((in_file file).declared Apart n) ++ asked_from (n + (in_file file).classes) files)
  where
    within : Option (Path × Place) → List Asked
    within None = []
    within (Some w) = Within w.0.0 w.1 ∷ []

abbrev pub declared_in : List Asked → List Declaration
declared_in asked = flat_map declared asked
  where
    declared : Asked → List Declaration
    declared (Within path place) = []
    declared (Names d) = d ∷ []

-- Rule 10: a `within` that is not the path of a long class. Rule 9: a name that stands among the elements before.
abbrev pub broken_by : List FileTree → List Asked → Asked → Option Broken
broken_by files before (Within path place) =
    if is_long (class_of_path files path) then None else Some (record { rule = WITHIN_NAMES_NO_CLASS; place = place })
broken_by files before (Names d) =
    if is_repeated (declared_in before) d then Some (record { rule = DECLARED_TWICE; place = d.place }) else None

abbrev pub first_broken : List FileTree → List Asked → List Asked → Option Broken
first_broken files before [] = None
first_broken files before (asked ∷ more) = otherwise (broken_by files before asked) (first_broken files (before ++ asked ∷ []) more)

-- the first broken rule of the class tree, in the order of files and bytes
abbrev pub broken_tree : List FileTree → Option Broken
broken_tree files = first_broken files [] (asked_from first_number files)

-- ---- the class that is asked for

-- A function, type, package or operator has no flat model: rule 13 at its name. No class of that path: rule 11.
abbrev pub is_flattened : ClassKind → Bool
is_flattened Package = false
is_flattened Function = false
is_flattened Operator = false
is_flattened TypeDef = false
is_flattened kind = true

abbrev pub broken_class : Option ClassRow → Option Broken
broken_class None = Some (record { rule = CLASS_NOT_FOUND; place = record { file = 0; byte = 0 } })
broken_class (Some row) = if is_flattened row.class.kind then None else Some (record { rule = WRONG_KIND_OF_NAME; place = row.class.place })
