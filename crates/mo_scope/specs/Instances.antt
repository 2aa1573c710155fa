-- Instances (Modelica Language Specification 3.5, sections 4.4, 4.8, 5.6 and 7.2): what a tree of instances is as data, and what the
-- equations of instances ask of one.
use Rattle.std.specs.Prelude.{◌≡◌, ◌≢◌, ℕ, ◌<◌, List, [], ◌∷◌, ◌++◌, Option, Some, None, IsTrue, All, Any}
use Rattle.std.specs.List.{list_all}
use Rattle.mo_syntax.specs.declared.meaning.Kind.{Kind}
use Rattle.mo_syntax.specs.declared.meaning.Role.{Role}
use Rattle.mo_syntax.specs.declared.place.Place.{Place}
use Rattle.mo_syntax.specs.SoundTree.{Naming}
use Rattle.mo_scope.specs.Rows.{Table, number_of_classes}
use Rattle.mo_scope.specs.Frames.{Frame, Indexed, at_of, class_of}
use Rattle.mo_scope.specs.Parts.{Picked}

-- ---- instances

-- An expression that is chosen for an attribute or a binding, with the scope that it is looked up in and its pending indices.
abbrev pub Chosen : Type 0
Chosen = Picked

-- A component of a predefined type or an enumeration: its kind and its role; the attributes that are given, each by its number among
-- those of Real, from 0, in their order; and its binding.
pub record Leaf : Type 0 where
  pub kind : Kind
  pub role : Role
  pub attributes : List (ℕ × Chosen)
  pub binding : Option Chosen

-- A component, or an element of an array of components: the frame that it is entered as, the names and indices that lead to it, where
-- its name is declared, and the dimensions of the component. The asked class is an instance with an empty path, and no leaf.
pub record Instance : Type 0 where
  pub frame : Frame
  pub path : Indexed
  pub place : Place
  pub dims : List ℕ
  pub leaf : Option Leaf

-- ---- trees

-- an instance of the path
abbrev pub IsAt : Indexed → Instance → Type 0
IsAt path instance = instance.path ≡ path

-- A component stands one name below an instance before it.
pub record IsBelow (before : List Instance) (path : Indexed) : Type 0 where
  pub parent : Indexed
  pub name : List ℕ
  pub index : List ℕ
  pub splits : path ≡ parent ++ (name, index) ∷ []
  pub stands : Any (IsAt parent) before

-- An instance behind those before it: with a path of its own, below one of them, as a frame of a class that there is.
pub record Follows (naming : Naming) (table : Table) (before : List Instance) (instance : Instance) : Type 0 where
  pub new : All (λ other. other.path ≢ instance.path) before
  pub below : IsBelow before instance.path
  pub frame : at_of instance.frame ≡ Some instance.path
  pub class : class_of instance.frame < number_of_classes table
  pub names : IsTrue (list_all (λ step. naming step.0) instance.path)

-- instances, each of which follows those before it
abbrev pub Follow : Naming → Table → (before : List Instance) → List Instance → Type 0
Follow naming table before [] = Unit {0}
Follow naming table before (instance ∷ others) =
    Follows naming table before instance × Follow naming table (before ++ instance ∷ []) others

-- the asked class
pub record IsRoot (table : Table) (instance : Instance) : Type 0 where
  pub path : instance.path ≡ []
  pub frame : at_of instance.frame ≡ Some []
  pub class : class_of instance.frame < number_of_classes table
  pub dims : instance.dims ≡ []
  pub leaf : instance.leaf ≡ None

-- What the equations of instances ask of a tree of instances: the asked class comes first, each other instance has a path of its own and
-- stands behind the instance that it is a part of, their frames have these paths, and the names in the paths pass a test.
pub data IsInstanceTree (naming : Naming) (table : Table) : List Instance → Type 0 where
  tree : {root : Instance} {others : List Instance} → IsRoot table root → Follow naming table (root ∷ []) others →
      IsInstanceTree naming table (root ∷ others)
