-- What stands of what the definitions of names answer, for a property of what is written in the trees of the files: where it holds of all in
-- the trees, and of the place at which is asked, it holds of all in what is answered, and of the place of each rule that is broken.
use Rattle.std.specs.Prelude.{List, [], ◌∷◌, Option, Some, None, Ok, Err}
use Rattle.mo_syntax.specs.Outcome.{Outcome}
use Rattle.mo_syntax.specs.declared.expr.Expr.{Expr}
use Rattle.mo_syntax.specs.declared.expr.ReferenceOf.{ReferenceOf}
use Rattle.mo_syntax.specs.declared.class.ArgumentOf.{ArgumentOf}
use Rattle.mo_syntax.specs.declared.class.Element.{Element as Declaring}
use Rattle.mo_syntax.specs.declared.class.Give.{Give}
use Rattle.mo_syntax.specs.declared.class.Import.{Import}
use Rattle.mo_syntax.specs.declared.place.Place.{Place}
use Rattle.mo_places.specs.Written.{Written, At, Valued}
use Rattle.mo_places.specs.TreeWritten.{in_component, in_subs, places_in_class, places_of_parts, places_in_give, places_in_element, place_of_import}
use Rattle.mo_scope.specs.Rows.{Table, Row, Declares, Sort, A_class, A_component, Modifiers, Constraint, Part, Element_of, Base_of, Clause, Form, Short_class}
use Rattle.mo_scope.specs.Frames.{Given, Listed, Argued, Replacing, Frame, Top, In, Sources, No_source, Source_then, Source, Member}
use Rattle.mo_scope.specs.Parts.{Picked, Redeclaration, Saying, Modifies, Redeclares}
use Rattle.mo_scope.specs.Names.{Child}
use Rattle.mo_scope.specs.Lookup.{Found, Component, Class, Walked, Reached, Element, Other, Absent, Asking}

-- it holds of each element
abbrev pub Every : {A : Type 0} → (A → Type 0) → List A → Type 0
Every P [] = Unit {0}
Every P (x ∷ xs) = P x × Every P xs

abbrev pub IfAny : {A : Type 0} → (A → Type 0) → Option A → Type 0
IfAny P None = Unit {0}
IfAny P (Some x) = P x

-- of what has no place, nothing is asked
abbrev pub Anything : {A : Type 0} → A → Type 0
Anything a = Unit {0}

-- ---- what stands in a text

abbrev pub NameStands : (Written → Type 0) → ReferenceOf Expr → Type 0
NameStands P reference = Every P (places_of_parts reference.parts)

abbrev pub ArgumentStands : (Written → Type 0) → ArgumentOf Give → Type 0
ArgumentStands P argument = P (At argument.place) × Every P (places_in_give argument.give)

abbrev pub ValueStands : (Written → Type 0) → Option Expr → Type 0
ValueStands P value = IfAny (λ e. P (Valued e)) value

-- the modifiers of a list and the value behind it
abbrev pub ModifiersStand : (Written → Type 0) → Modifiers → Type 0
ModifiersStand P modifiers = Every (ArgumentStands P) modifiers.list × ValueStands P modifiers.value

abbrev pub SortStands : (Written → Type 0) → Sort → Type 0
SortStands P (A_class number encapsulated) = Unit {0}
SortStands P (A_component component) = NameStands P component.base × Every P (in_component component)

pub record ConstraintStands (P : Written → Type 0) (limit : Constraint) : Type 0 where
  pub class : NameStands P limit.class
  pub modifiers : ModifiersStand P limit.modifiers

pub record DeclaresStand (P : Written → Type 0) (declares : Declares) : Type 0 where
  pub place : P (At declares.place)
  pub sort : SortStands P declares.sort
  pub own : ModifiersStand P declares.own
  pub limit : IfAny (ConstraintStands P) declares.limit

-- ---- classes

pub record ClauseStands (P : Written → Type 0) (clause : Clause) : Type 0 where
  pub base : NameStands P clause.base
  pub arguments : Every (ArgumentStands P) clause.mods.0

abbrev pub PartStands : (Written → Type 0) → Part → Type 0
PartStands P (Element_of declares) = DeclaresStand P declares
PartStands P (Base_of clause) = ClauseStands P clause

-- an element with `redeclare`
abbrev pub ElementStands : (Written → Type 0) → Declaring → Type 0
ElementStands P element = Every P (places_in_element element)

abbrev pub ImportStands : (Written → Type 0) → Import → Type 0
ImportStands P clause = P (At (place_of_import clause))

-- the dimensions of a short class
abbrev pub FormStands : (Written → Type 0) → Form → Type 0
FormStands P (Short_class causal subs) = Every P (in_subs subs)
FormStands P form = Unit {0}

pub record RowStands (P : Written → Type 0) (row : Row) : Type 0 where
  pub class : Every P (places_in_class row.class)
  pub place : P (At row.class.place)
  pub form : FormStands P row.form
  pub parts : Every (PartStands P) row.parts
  pub replacing : Every (ElementStands P) row.replacing
  pub imports : Every (ImportStands P) row.imports

abbrev pub TableStands : (Written → Type 0) → Table → Type 0
TableStands P table = Every (RowStands P) table

-- ---- frames

abbrev pub GivenStands : (Written → Type 0) → Given → Type 0
GivenStands P (Listed modifiers) = ModifiersStand P modifiers
GivenStands P (Argued argument passed) = ArgumentStands P argument
GivenStands P (Replacing elements) = Every (ElementStands P) elements

abbrev mutual
  -- the sources of the frame, and of those that belong to it, hold what stands
  pub FrameStands : (Written → Type 0) → Frame → Type 0
  FrameStands P Top = Unit {0}
  FrameStands P (In class sources outer at owner) = SourcesStand P sources × FrameStands P outer × FrameStands P owner

  pub SourcesStand : (Written → Type 0) → Sources → Type 0
  SourcesStand P No_source = Unit {0}
  SourcesStand P (Source_then piece frame iterations others) = GivenStands P piece.given × FrameStands P frame × SourcesStand P others

abbrev pub SourceStands : (Written → Type 0) → Source → Type 0
SourceStands P source = GivenStands P source.piece.given × FrameStands P source.scope.frame

pub record MemberStands (P : Written → Type 0) (member : Member) : Type 0 where
  pub home : FrameStands P member.home
  pub declares : DeclaresStand P member.declares

pub record RedeclarationStands (P : Written → Type 0) (redeclaration : Redeclaration) : Type 0 where
  pub declares : DeclaresStand P redeclaration.declares
  pub place : P (At redeclaration.place)
  pub source : SourceStands P redeclaration.source

abbrev pub SayingStands : (Written → Type 0) → Saying → Type 0
SayingStands P (Modifies source) = SourceStands P source
SayingStands P (Redeclares redeclaration) = RedeclarationStands P redeclaration

-- a value that sources give: what it is, and the scope that it is read in
pub record PickedStands (P : Written → Type 0) (picked : Picked) : Type 0 where
  pub value : P (Valued picked.value)
  pub scope : FrameStands P picked.scope.frame

-- ---- what is found

abbrev pub FoundStands : (Written → Type 0) → Found → Type 0
FoundStands P (Component frame member) = FrameStands P frame × MemberStands P member
FoundStands P (Class frame replaceable) = FrameStands P frame
FoundStands P found = Unit {0}

-- a child: its declaration, the redeclaration that wins, the class of its type and its sources stand
pub record ChildStands (P : Written → Type 0) (child : Child) : Type 0 where
  pub declares : DeclaresStand P child.declares
  pub redeclared : IfAny (RedeclarationStands P) child.redeclared
  pub class : FrameStands P child.class
  pub sources : Every (SourceStands P) child.sources

-- the inner component that stands for an outer one, and its owner
abbrev pub InnerStands : (Written → Type 0) → Frame × Member → Type 0
InnerStands P inner = FrameStands P inner.0 × MemberStands P inner.1

abbrev pub ReachedStands : (Written → Type 0) → Reached → Type 0
ReachedStands P (Element member) = MemberStands P member
ReachedStands P (Other found) = FoundStands P found
ReachedStands P Absent = Unit {0}

-- the elements of a frame, its base frames with those on the way to them, and the frame at the end of its bases
pub record WalkedStands (P : Written → Type 0) (walked : Walked) : Type 0 where
  pub members : Every (λ inherited. MemberStands P inherited.member) walked.members
  pub bases : Every (Every (FrameStands P)) walked.bases
  pub sections : Every (Every (FrameStands P)) walked.sections
  pub leaf : IfAny (FrameStands P) walked.leaf

abbrev pub HoldsOf : {A : Type 0} → (Written → Type 0) → (A → Type 0) → Outcome A → Type 0
HoldsOf P Q (Ok value) = Q value
HoldsOf P Q (Err broken) = P (At broken.place)

-- a value of that property, or a rule that is broken where the property of places holds
pub record Answers {A : Type 0} (P : Written → Type 0) (Q : A → Type 0) (outcome : Outcome A) : Type 0 where
  pub holds : HoldsOf P Q outcome

pub record AskingStands (P : Written → Type 0) (asking : Asking) : Type 0 where
  pub elements : (place : Place) (frame : Frame) → P (At place) → FrameStands P frame → Answers P (WalkedStands P) (asking.elements place frame)
