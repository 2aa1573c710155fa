-- The places of names, clauses and arguments in the trees of files: one list for each form, read from the lists of its parts.
use Rattle.std.specs.Prelude.{List, [], ◌∷◌, ◌++◌, map, flat_map, Option, Some, None}
use Rattle.mo_syntax.specs.declared.expr.Expr.{Expr}
use Rattle.mo_syntax.specs.declared.expr.PartOf.{PartOf}
use Rattle.mo_syntax.specs.declared.expr.ReferenceOf.{ReferenceOf}
use Rattle.mo_syntax.specs.declared.class.ArgumentOf.{ArgumentOf}
use Rattle.mo_syntax.specs.declared.class.Body.{Body, Body-F, fold-Body}
use Rattle.mo_syntax.specs.declared.class.ClassDefOf.{ClassDefOf}
use Rattle.mo_syntax.specs.declared.class.Element.{Element, Element-F, fold-Element}
use Rattle.mo_syntax.specs.declared.class.FileTree.{FileTree}
use Rattle.mo_syntax.specs.declared.class.Give.{Give, Give-F, fold-Give}
use Rattle.mo_syntax.specs.declared.class.Import.{Import}
use Rattle.mo_syntax.specs.declared.class.Import.TheVariants.{Renamed, Named, Group, All as Star}
use Rattle.mo_syntax.specs.declared.class.Item.{Item, Item-F, fold-Item}
use Rattle.mo_syntax.specs.declared.class.ModsOf.{ModsOf}
use Rattle.mo_syntax.specs.declared.class.What.{What, What-F, fold-What}
use Rattle.mo_syntax.specs.declared.place.Place.{Place}
use Rattle.mo_syntax.specs.declared.class.ComponentOf.{ComponentOf}
use Rattle.mo_places.specs.Written.{Written, At, Valued, Stated}

-- the place of what has none
abbrev pub nowhere : Place
nowhere = record { file = 0; byte = 0 }

-- the identifiers of a name; one without identifiers, which no reader makes, stands nowhere
abbrev pub places_of_parts : List (PartOf Expr) → List Written
places_of_parts [] = At nowhere ∷ []
places_of_parts (part ∷ parts) = At part.place ∷ map (λ other. At other.place) parts

abbrev pub place_of_import : Import → Place
place_of_import (Renamed alias path place) = place
place_of_import (Named path place) = place
place_of_import (Group path names place) = place
place_of_import (Star path place) = place

-- ---- the steps

abbrev pub Places : Type 0
Places = List Written

abbrev pub in_value : Option Expr → Places
in_value None = []
in_value (Some e) = Valued e ∷ []

-- dimensions; `:` is none
abbrev pub in_subs : List (Option Expr) → Places
in_subs subs = flat_map in_value subs

-- the expressions of a component
abbrev pub in_component : {G : Type 0} → ComponentOf G → Places
in_component component = in_subs component.base_subs ++ in_subs component.subs ++ in_value component.binding ++ in_value component.condition

abbrev pub in_arguments : List (ArgumentOf Places) → Places
in_arguments arguments = flat_map (λ argument. At argument.place ∷ argument.give) arguments

abbrev pub in_extending : Option (ModsOf Places) → Places
in_extending None = []
in_extending (Some mods) = in_arguments mods.0

abbrev pub in_limit : Option (ReferenceOf Expr × ModsOf Places) → Places
in_limit None = []
in_limit (Some limit) = places_of_parts limit.0.parts ++ in_arguments limit.1.0

abbrev pub in_body : Body-F Places Places Places Places Places → Places
in_body (Body-F.Long extending items external) = in_extending extending ++ flat_map (λ item. item) items
in_body (Body-F.Short causal base subs mods) = places_of_parts base.parts ++ (in_arguments mods.0 ++ in_subs subs)
in_body (Body-F.Enumeration literals) = []
in_body (Body-F.Der function names) = []

abbrev pub in_give : Give-F Places Places Places Places Places → Places
in_give (Give-F.Modify mods value) = in_arguments mods.0 ++ in_value value
in_give (Give-F.Redeclare element) = element
in_give (Give-F.Replaceable element) = element

abbrev pub in_item : Item-F Places Places Places Places Places → Places
in_item (Item-F.Import clause) = At (place_of_import clause) ∷ []
in_item (Item-F.Extends clause) = places_of_parts clause.base.parts ++ in_arguments clause.mods.0
in_item (Item-F.Member element) = element
in_item (Item-F.Equations initial equations) = map Stated equations
in_item (Item-F.Algorithm initial statements) = []

abbrev pub in_what : What-F Places Places Places Places Places → Places
in_what (What-F.Class class) = At class.place ∷ class.body
in_what (What-F.Component component) = At component.place ∷ places_of_parts component.base.parts ++ (in_arguments component.mods.0 ++ in_component component)

abbrev pub in_element : Element-F Places Places Places Places Places → Places
in_element element = element.what ++ in_limit element.limit

-- ---- trees

abbrev pub places_in_body : Body → Places
places_in_body = fold-Body Places Places Places Places Places in_body in_give in_item in_what in_element

abbrev pub places_in_give : Give → Places
places_in_give = fold-Give Places Places Places Places Places in_body in_give in_item in_what in_element

abbrev pub places_in_item : Item → Places
places_in_item = fold-Item Places Places Places Places Places in_body in_give in_item in_what in_element

abbrev pub places_in_what : What → Places
places_in_what = fold-What Places Places Places Places Places in_body in_give in_item in_what in_element

abbrev pub places_in_element : Element → Places
places_in_element = fold-Element Places Places Places Places Places in_body in_give in_item in_what in_element

abbrev pub places_in_class : ClassDefOf Body → Places
places_in_class class = At class.place ∷ places_in_body class.body

abbrev pub places_in_files : List FileTree → Places
places_in_files files = flat_map (λ file. flat_map places_in_class file.classes) files
