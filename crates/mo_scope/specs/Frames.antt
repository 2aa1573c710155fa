-- Sources, frames and scopes (Modelica Language Specification 3.5, sections 5.1, 5.3, 5.4 and 7.2).
--
-- A frame is a class as it is met in one place: with its sources, outermost first, which modify it; the frame around it, in which
-- its class was found; the path of its instance or none; and its owner, the frame whose class declares the component that it is
-- entered for, or the frame that it is a base of. A scope is a frame with the iteration variables around a text.
use Rattle.std.specs.Prelude.{ℕ, ℤ, Bool, true, false, ◌&&◌, List, [], ◌∷◌, Option, Some, None, nat_eq}
use Rattle.std.specs.Str.{bytes_eq}
use Rattle.mo_syntax.specs.declared.class.ArgumentOf.{ArgumentOf}
use Rattle.mo_syntax.specs.declared.class.Element.{Element}
use Rattle.mo_syntax.specs.declared.class.Give.{Give}
use Rattle.mo_syntax.specs.declared.place.Place.{Place}
use Rattle.mo_syntax.specs.ClassTable.{path_eq}
use Rattle.mo_scope.specs.Rows.{Declares, Modifiers, place_eq}

-- ---- what a source carries

-- What modifies a class: a modifier list with the value behind it; an argument of which so many names were passed, at least one; or the
-- elements with `redeclare` of a class.
pub data Given : Type 0 where
  Listed : Modifiers → Given
  Argued : ArgumentOf Give → (passed : ℕ) → Given
  Replacing : List Element → Given

-- The list that a source is a part of: where it stands, and the names that were passed since. A list stands where its first argument
-- stands, or where its value stands if it has no argument; the elements with `redeclare` of a class stand at its name.
pub record Listing : Type 0 where
  pub place : Place
  pub passed : List (List ℕ)

-- Whether the list holds the own modifiers of a declaration, or those of its constraining clause: of the declaration whose name
-- stands there.
pub data Origin : Type 0 where
  Elsewhere : Origin
  Own_of : Place → Origin
  Constraint_of : Place → Origin

-- A path of names, each with its indices.
abbrev pub Indexed : Type 0
Indexed = List (List ℕ × List ℕ)

-- the iteration variables around a text, the innermost first
abbrev pub Iterations : Type 0
Iterations = List (List ℕ × ℤ)

-- A source without its scope.
pub record Piece : Type 0 where
  pub given : Given
  -- the indices at which its values are still to be taken
  pub pending : List ℕ
  pub listing : Listing
  -- whether a `final` stood before a name that was passed
  pub last : Bool
  -- whether it has passed through a component
  pub outside : Bool
  pub origin : Origin

-- ---- frames

mutual
  pub data Frame : Type 0 where
    -- what is around the classes at the top; also the owner of a frame that has none
    Top : Frame
    In : (class : ℕ) → (sources : Sources) → (outer : Frame) → (at : Option Indexed) → (owner : Frame) → Frame

  -- the sources of a frame, outermost first, each with the frame and the iteration variables of its scope
  pub data Sources : Type 0 where
    No_source : Sources
    Source_then : Piece → Frame → Iterations → Sources → Sources

pub record Scope : Type 0 where
  pub frame : Frame
  pub iterations : Iterations

pub record Source : Type 0 where
  pub piece : Piece
  pub scope : Scope

abbrev pub listed : Sources → List Source
listed No_source = []
listed (Source_then piece frame iterations others) =
    record { piece = piece; scope = record { frame = frame; iterations = iterations } } ∷ listed others

abbrev pub gathered : List Source → Sources
gathered [] = No_source
gathered (source ∷ sources) = Source_then source.piece source.scope.frame source.scope.iterations (gathered sources)

-- ---- the parts of a frame

-- the number of its class; around the top there is none, and this is the number of `Real`
abbrev pub class_of : Frame → ℕ
class_of Top = 0
class_of (In class sources outer at owner) = class

abbrev pub sources_of : Frame → List Source
sources_of Top = []
sources_of (In class sources outer at owner) = listed sources

abbrev pub outer_of : Frame → Frame
outer_of Top = Top
outer_of (In class sources outer at owner) = outer

abbrev pub at_of : Frame → Option Indexed
at_of Top = None
at_of (In class sources outer at owner) = at

abbrev pub owner_of : Frame → Frame
owner_of Top = Top
owner_of (In class sources outer at owner) = owner

abbrev pub is_top : Frame → Bool
is_top Top = true
is_top (In class sources outer at owner) = false

-- a class that is only looked up: it has no path and no owner
abbrev pub looked_up : ℕ → List Source → Frame → Frame
looked_up class sources outer = In class (gathered sources) outer None Top

-- the owners of a frame: its owner, the owner of that, and so on
abbrev pub owners : Frame → List Frame
owners Top = []
owners (In class sources outer at Top) = []
owners (In class sources outer at (In class' sources' outer' at' owner')) =
    In class' sources' outer' at' owner' ∷ owners (In class' sources' outer' at' owner')

-- the owner of a base frame: the frame, if it has a path or an owner
abbrev pub owner_of_base : Frame → Frame
owner_of_base Top = Top
owner_of_base (In class sources outer (Some at) owner) = In class sources outer (Some at) owner
owner_of_base (In class sources outer None Top) = Top
owner_of_base (In class sources outer None (In class' sources' outer' at' owner')) =
    In class sources outer None (In class' sources' outer' at' owner')

-- ---- elements

-- An element of a frame, inherited or own: its name; the frame whose class declares it, and its place among that class's elements;
-- whether it is protected; and what declares it.
pub record Member : Type 0 where
  pub name : List ℕ
  pub home : Frame
  pub item : ℕ
  pub hidden : Bool
  pub declares : Declares

-- ---- what is one

abbrev pub listing_eq : Listing → Listing → Bool
listing_eq a b = place_eq a.place b.place && path_eq a.passed b.passed

abbrev pub same_listings : List Source → List Source → Bool
same_listings [] [] = true
same_listings (a ∷ as_) (b ∷ bs) = listing_eq a.piece.listing b.piece.listing && same_listings as_ bs
same_listings _ _ = false

-- Base frames of one class whose sources are lists at the same places are one base.
abbrev pub is_same_base : Frame → Frame → Bool
is_same_base a b = nat_eq (class_of a) (class_of b) && same_listings (sources_of a) (sources_of b)

abbrev pub numbers_eq : List ℕ → List ℕ → Bool
numbers_eq = bytes_eq

abbrev pub indexed_eq : Indexed → Indexed → Bool
indexed_eq [] [] = true
indexed_eq (a ∷ as_) (b ∷ bs) = bytes_eq a.0 b.0 && numbers_eq a.1 b.1 && indexed_eq as_ bs
indexed_eq _ _ = false

abbrev pub at_eq : Option Indexed → Option Indexed → Bool
at_eq None None = true
at_eq (Some a) (Some b) = indexed_eq a b
at_eq _ _ = false

-- one declaration, whatever the frames are
abbrev pub is_same_declaration : Member → Member → Bool
is_same_declaration a b = nat_eq (class_of a.home) (class_of b.home) && nat_eq a.item b.item

-- one declaration in one instance
abbrev pub is_same_element : Member → Member → Bool
is_same_element a b = is_same_declaration a b && at_eq (at_of a.home) (at_of b.home)
