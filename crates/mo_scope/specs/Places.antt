-- Where what the definitions of names answer stands.
--
-- Whatever holds of the places of all names, clauses and arguments in the trees of the files, and of the place at which is asked,
-- holds of the place of each rule that is broken. These are its premises and its conclusion, for a property of places.
use Rattle.std.specs.Prelude.{◌≡◌, ◌⊎◌, List, [], ◌∷◌, Contains, Option, Some, None, Ok, Err}
use Rattle.mo_syntax.specs.Outcome.{Outcome}
use Rattle.mo_syntax.specs.declared.expr.Expr.{Expr}
use Rattle.mo_syntax.specs.declared.expr.ReferenceOf.{ReferenceOf}
use Rattle.mo_syntax.specs.declared.class.ArgumentOf.{ArgumentOf}
use Rattle.mo_syntax.specs.declared.class.Element.{Element as Declaring}
use Rattle.mo_syntax.specs.declared.class.FileTree.{FileTree}
use Rattle.mo_syntax.specs.declared.class.Give.{Give}
use Rattle.mo_syntax.specs.declared.class.Import.{Import}
use Rattle.mo_syntax.specs.declared.place.Place.{Place}
use Rattle.mo_scope.specs.TreePlaces.{places_of_parts, places_in_give, places_in_element, places_in_files, place_of_import}
use Rattle.mo_scope.specs.Rows.{Table, Row, Declares, Sort, A_class, A_component, Modifiers, Constraint, Part, Element_of, Base_of, Clause}
use Rattle.mo_scope.specs.Frames.{Given, Listed, Argued, Replacing, Frame, Top, In, Sources, No_source, Source_then, Source, Member}
use Rattle.mo_scope.specs.Parts.{Redeclaration, Saying, Modifies, Redeclares}
use Rattle.mo_scope.specs.Lookup.{Found, Component, Class, Walked, Reached, Element, Other, Absent, Asking}

-- it holds of each element
abbrev pub Every : {A : Type 0} → (A → Type 0) → List A → Type 0
Every P [] = Unit {0}
Every P (x ∷ xs) = P x × Every P xs

abbrev pub IfAny : {A : Type 0} → (A → Type 0) → Option A → Type 0
IfAny P None = Unit {0}
IfAny P (Some x) = P x

-- ---- what stands in a text

abbrev pub NameStands : (Place → Type 0) → ReferenceOf Expr → Type 0
NameStands P reference = Every P (places_of_parts reference.parts)

abbrev pub ArgumentStands : (Place → Type 0) → ArgumentOf Give → Type 0
ArgumentStands P argument = P argument.place × Every P (places_in_give argument.give)

abbrev pub ModifiersStand : (Place → Type 0) → Modifiers → Type 0
ModifiersStand P modifiers = Every (ArgumentStands P) modifiers.list

abbrev pub SortStands : (Place → Type 0) → Sort → Type 0
SortStands P (A_class number encapsulated) = Unit {0}
SortStands P (A_component component) = NameStands P component.base

pub record ConstraintStands (P : Place → Type 0) (limit : Constraint) : Type 0 where
  pub class : NameStands P limit.class
  pub modifiers : ModifiersStand P limit.modifiers

pub record DeclaresStand (P : Place → Type 0) (declares : Declares) : Type 0 where
  pub place : P declares.place
  pub sort : SortStands P declares.sort
  pub own : ModifiersStand P declares.own
  pub limit : IfAny (ConstraintStands P) declares.limit

-- ---- classes

pub record ClauseStands (P : Place → Type 0) (clause : Clause) : Type 0 where
  pub base : NameStands P clause.base
  pub arguments : Every (ArgumentStands P) clause.mods.0

abbrev pub PartStands : (Place → Type 0) → Part → Type 0
PartStands P (Element_of declares) = DeclaresStand P declares
PartStands P (Base_of clause) = ClauseStands P clause

-- an element with `redeclare`
abbrev pub ElementStands : (Place → Type 0) → Declaring → Type 0
ElementStands P element = Every P (places_in_element element)

abbrev pub ImportStands : (Place → Type 0) → Import → Type 0
ImportStands P clause = P (place_of_import clause)

pub record RowStands (P : Place → Type 0) (row : Row) : Type 0 where
  pub place : P row.class.place
  pub parts : Every (PartStands P) row.parts
  pub replacing : Every (ElementStands P) row.replacing
  pub imports : Every (ImportStands P) row.imports

abbrev pub TableStands : (Place → Type 0) → Table → Type 0
TableStands P table = Every (RowStands P) table

-- ---- frames

abbrev pub GivenStands : (Place → Type 0) → Given → Type 0
GivenStands P (Listed modifiers) = ModifiersStand P modifiers
GivenStands P (Argued argument passed) = ArgumentStands P argument
GivenStands P (Replacing elements) = Every (ElementStands P) elements

abbrev mutual
  -- the sources of the frame, and of those that belong to it, hold what stands
  pub FrameStands : (Place → Type 0) → Frame → Type 0
  FrameStands P Top = Unit {0}
  FrameStands P (In class sources outer at owner) = SourcesStand P sources × FrameStands P outer × FrameStands P owner

  pub SourcesStand : (Place → Type 0) → Sources → Type 0
  SourcesStand P No_source = Unit {0}
  SourcesStand P (Source_then piece frame iterations others) = GivenStands P piece.given × FrameStands P frame × SourcesStand P others

abbrev pub SourceStands : (Place → Type 0) → Source → Type 0
SourceStands P source = GivenStands P source.piece.given × FrameStands P source.scope.frame

pub record MemberStands (P : Place → Type 0) (member : Member) : Type 0 where
  pub home : FrameStands P member.home
  pub declares : DeclaresStand P member.declares

pub record RedeclarationStands (P : Place → Type 0) (redeclaration : Redeclaration) : Type 0 where
  pub declares : DeclaresStand P redeclaration.declares
  pub place : P redeclaration.place
  pub source : SourceStands P redeclaration.source

abbrev pub SayingStands : (Place → Type 0) → Saying → Type 0
SayingStands P (Modifies source) = SourceStands P source
SayingStands P (Redeclares redeclaration) = RedeclarationStands P redeclaration

-- ---- what is found

abbrev pub FoundStands : (Place → Type 0) → Found → Type 0
FoundStands P (Component frame member) = FrameStands P frame × MemberStands P member
FoundStands P (Class frame replaceable) = FrameStands P frame
FoundStands P found = Unit {0}

abbrev pub ReachedStands : (Place → Type 0) → Reached → Type 0
ReachedStands P (Element member) = MemberStands P member
ReachedStands P (Other found) = FoundStands P found
ReachedStands P Absent = Unit {0}

abbrev pub WalkedStands : (Place → Type 0) → Walked → Type 0
WalkedStands P walked = Every (λ inherited. MemberStands P inherited.member) walked.members

abbrev pub HoldsOf : {A : Type 0} → (Place → Type 0) → (A → Type 0) → Outcome A → Type 0
HoldsOf P Q (Ok value) = Q value
HoldsOf P Q (Err broken) = P broken.place

-- a value of that property, or a rule that is broken where the property of places holds
pub record Answers {A : Type 0} (P : Place → Type 0) (Q : A → Type 0) (outcome : Outcome A) : Type 0 where
  pub holds : HoldsOf P Q outcome

pub record AskingStands (P : Place → Type 0) (asking : Asking) : Type 0 where
  pub elements : (place : Place) (frame : Frame) → P place → FrameStands P frame → Answers P (WalkedStands P) (asking.elements place frame)

-- ---- the trees of files

-- the place of a name, a clause or an argument in the trees of the files
abbrev pub StandsIn : List FileTree → Place → Type 0
StandsIn files place = Contains (places_in_files files) place

-- such a place, or the one at which is asked
abbrev pub StandsInOrAsked : List FileTree → (asked : Place) → Place → Type 0
StandsInOrAsked files asked place = StandsIn files place ⊎ (place ≡ asked)
