-- The classes of a set of files (Modelica Language Specification 3.5, sections 4.5, 5.3, 5.6 and 13.2.2.3): what the files
-- declare, in the order of files and bytes, each class with its number and each name with the class that it is an element of.
use Rattle.std.specs.Prelude.{ℕ, ◌+◌, Bool, false, List, [], ◌∷◌, ◌++◌, Option, Some, None, if◌then◌else◌}
use Rattle.mo_syntax.specs.declared.expr.Expr.{Expr}
use Rattle.mo_syntax.specs.declared.expr.ReferenceOf.{ReferenceOf}
use Rattle.mo_syntax.specs.declared.place.Place.{Place}
use Rattle.mo_syntax.specs.declared.class.Body.{Body, Body-F, para-Body}
use Rattle.mo_syntax.specs.declared.class.ClassDefOf.{ClassDefOf}
use Rattle.mo_syntax.specs.declared.class.ComponentOf.{ComponentOf}
use Rattle.mo_syntax.specs.declared.class.Element.{Element, Element-F, para-Element}
use Rattle.mo_syntax.specs.declared.class.Give.{Give, Give-F, para-Give}
use Rattle.mo_syntax.specs.declared.class.Item.{Item, Item-F, para-Item}
use Rattle.mo_syntax.specs.declared.class.ModsOf.{ModsOf}
use Rattle.mo_syntax.specs.declared.class.What.{What, What-F, para-What}

-- Whose element a declared name is.
pub data Home : Type 0 where
  -- of the class with that path; of the top of the class tree where the path is empty
  Under : List (List ℕ) → Home
  -- of the class with that number, which has no path
  Inside : ℕ → Home
  -- of none: it stands in an argument of a modifier list or behind `redeclare`, and replaces what is declared elsewhere
  Apart : Home

-- A class by its number.
pub record ClassRow : Type 0 where
  pub number : ℕ
  pub class : ClassDefOf Body
  -- whether it stands in no other class of its file
  pub outermost : Bool

pub data Declared : Type 0 where
  Component : Declared
  Class : ClassRow → Declared

-- A declared name.
pub record Declaration : Type 0 where
  pub home : Home
  pub name : List ℕ
  -- where the name stands
  pub place : Place
  pub what : Declared

-- What stands in a part of a tree: how many classes, and what they and the components declare, in the order of the text,
-- where the part is read with its home and the number of its first class.
pub record Outline : Type 0 where
  pub classes : ℕ
  pub declared : Home → ℕ → List Declaration

abbrev pub nothing : Outline
nothing = record { classes = 0; declared = λ home n. [] }

-- one part behind the other
abbrev pub both : Outline → Outline → Outline
both a b = record { classes = a.classes + b.classes; declared = λ home n. a.declared home n ++ b.declared home (n + a.classes) }

abbrev pub each : {A : Type 0} → (A → Outline) → List A → Outline
each outline [] = nothing
each outline (x ∷ xs) = both (outline x) (each outline xs)

-- what is no element of the class around it
abbrev pub apart : Outline → Outline
apart part = record { classes = part.classes; declared = λ home n. part.declared Apart n }

-- a tree with its outline
abbrev pub Outlined : Type 0 → Type 0
Outlined A = A × Outline

abbrev pub in_mods : ModsOf (Outlined Give) → Outline
in_mods mods = apart (each (λ argument. argument.give.1) mods.0)

abbrev pub in_option : Option (ModsOf (Outlined Give)) → Outline
in_option None = nothing
in_option (Some mods) = in_mods mods

abbrev pub in_limit : Option (ReferenceOf Expr × ModsOf (Outlined Give)) → Outline
in_limit None = nothing
in_limit (Some limit) = in_mods limit.1

-- the elements of a class with a path have that path as their home
abbrev pub inside : Home → List ℕ → ℕ → Home
inside (Under path) name n = Under (path ++ name ∷ [])
inside (Inside m) name n = Inside n
inside Apart name n = Inside n

-- a class, which has its number before those of its parts
abbrev pub in_class : Bool → ClassDefOf (Outlined Body) → Outline
in_class outermost class = record {
  classes = 1 + class.body.1.classes;
  declared = λ home n.
      record {
        home = home;
        name = class.name;
        place = class.place;
        what = Class (record {
          number = n;
          class = record { kind = class.kind; flags = class.flags; name = class.name; place = class.place; body = class.body.0 };
          outermost = outermost;
        });
      } ∷ class.body.1.declared (inside home class.name n) (n + 1);
}

abbrev pub in_component : ComponentOf (Outlined Give) → Outline
in_component component = record {
  classes = (in_mods component.mods).classes;
  declared = λ home n.
      record { home = home; name = component.name; place = component.place; what = Component } ∷ (in_mods component.mods).declared home n;
}

abbrev pub in_body : Body-F (Outlined Body) (Outlined Give) (Outlined Item) (Outlined What) (Outlined Element) → Outline
in_body (Body-F.Long extending items external) = both (in_option extending) (each (λ item. item.1) items)
in_body (Body-F.Short causal base subs mods) = in_mods mods
in_body (Body-F.Enumeration literals) = nothing
in_body (Body-F.Der function names) = nothing

abbrev pub in_give : Give-F (Outlined Body) (Outlined Give) (Outlined Item) (Outlined What) (Outlined Element) → Outline
in_give (Give-F.Modify mods value) = in_mods mods
in_give (Give-F.Redeclare element) = element.1
in_give (Give-F.Replaceable element) = element.1

abbrev pub in_item : Item-F (Outlined Body) (Outlined Give) (Outlined Item) (Outlined What) (Outlined Element) → Outline
in_item (Item-F.Import clause) = nothing
in_item (Item-F.Extends clause) = in_mods clause.mods
in_item (Item-F.Member element) = element.1
in_item (Item-F.Equations initial equations) = nothing
in_item (Item-F.Algorithm initial statements) = nothing

abbrev pub in_what : What-F (Outlined Body) (Outlined Give) (Outlined Item) (Outlined What) (Outlined Element) → Outline
in_what (What-F.Class class) = in_class false class
in_what (What-F.Component component) = in_component component

abbrev pub in_element : Element-F (Outlined Body) (Outlined Give) (Outlined Item) (Outlined What) (Outlined Element) → Outline
in_element element = both (if element.flags.redeclare then apart element.what.1 else element.what.1) (in_limit element.limit)

abbrev pub outline_of_body : Body → Outline
outline_of_body = para-Body Outline Outline Outline Outline Outline in_body in_give in_item in_what in_element

abbrev pub outline_of_give : Give → Outline
outline_of_give = para-Give Outline Outline Outline Outline Outline in_body in_give in_item in_what in_element

abbrev pub outline_of_item : Item → Outline
outline_of_item = para-Item Outline Outline Outline Outline Outline in_body in_give in_item in_what in_element

abbrev pub outline_of_what : What → Outline
outline_of_what = para-What Outline Outline Outline Outline Outline in_body in_give in_item in_what in_element

abbrev pub outline_of_element : Element → Outline
outline_of_element = para-Element Outline Outline Outline Outline Outline in_body in_give in_item in_what in_element
