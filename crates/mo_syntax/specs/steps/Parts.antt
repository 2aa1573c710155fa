-- The outlines of the parts of a tree by the parts themselves, and how many classes stand in each.
use Rattle.std.specs.Prelude.{ℕ, ◌+◌, Bool, List, ◌∷◌, Option, Some, None, if◌then◌else◌}
use Rattle.mo_syntax.specs.declared.expr.Expr.{Expr}
use Rattle.mo_syntax.specs.declared.expr.ReferenceOf.{ReferenceOf}
use Rattle.mo_syntax.specs.declared.class.Body.{Body}
use Rattle.mo_syntax.specs.declared.class.ClassDefOf.{ClassDefOf}
use Rattle.mo_syntax.specs.declared.class.ComponentOf.{ComponentOf}
use Rattle.mo_syntax.specs.declared.class.Element.{Element}
use Rattle.mo_syntax.specs.declared.class.FileTree.{FileTree}
use Rattle.mo_syntax.specs.declared.class.Give.{Give}
use Rattle.mo_syntax.specs.declared.class.Item.{Item}
use Rattle.mo_syntax.specs.declared.class.ModsOf.{ModsOf}
use Rattle.mo_syntax.specs.declared.class.What.{What}
use Rattle.mo_syntax.specs.declared.place.Place.{Place}
use Rattle.mo_syntax.specs.Classes.{Component, Outline, nothing, each, apart, in_class, outline_of_body, outline_of_give, outline_of_item, outline_of_what, outline_of_element}
use Rattle.mo_syntax.specs.ClassTable.{with_outline, in_file}

abbrev pub outline_of_mods : ModsOf Give → Outline
outline_of_mods mods = apart (each (λ argument. outline_of_give argument.give) mods.0)

abbrev pub outline_of_extending : Option (ModsOf Give) → Outline
outline_of_extending None = nothing
outline_of_extending (Some mods) = outline_of_mods mods

abbrev pub outline_of_limit : Option (ReferenceOf Expr × ModsOf Give) → Outline
outline_of_limit None = nothing
outline_of_limit (Some limit) = outline_of_mods limit.1

-- a class or component that may be marked as replacing an inherited one
abbrev pub marked : Bool → Outline → Outline
marked redeclare part = if redeclare then apart part else part

abbrev pub outline_of_class : Bool → ClassDefOf Body → Outline
outline_of_class outermost class = in_class outermost (with_outline class)

-- a component's name before what stands in its modifiers
abbrev pub declares : List ℕ → Place → Outline → Outline
declares name place mods = record {
  classes = mods.classes;
  declared = λ home n. record { home = home; name = name; place = place; what = Component } ∷ mods.declared home n;
}

abbrev pub outline_of_component : ComponentOf Give → Outline
outline_of_component component = declares component.name component.place (outline_of_mods component.mods)

-- how many classes stand in a part
abbrev pub classes_in_body : Body → ℕ
classes_in_body body = (outline_of_body body).classes

abbrev pub classes_in_class : ClassDefOf Body → ℕ
classes_in_class class = 1 + classes_in_body class.body

abbrev pub classes_in_give : Give → ℕ
classes_in_give give = (outline_of_give give).classes

abbrev pub classes_in_item : Item → ℕ
classes_in_item item = (outline_of_item item).classes

abbrev pub classes_in_what : What → ℕ
classes_in_what what = (outline_of_what what).classes

abbrev pub classes_in_element : Element → ℕ
classes_in_element element = (outline_of_element element).classes

abbrev pub classes_in_extending : Option (ModsOf Give) → ℕ
classes_in_extending mods = (outline_of_extending mods).classes

abbrev pub classes_in_limit : Option (ReferenceOf Expr × ModsOf Give) → ℕ
classes_in_limit limit = (outline_of_limit limit).classes

abbrev pub classes_in_file : FileTree → ℕ
classes_in_file file = (in_file file).classes
