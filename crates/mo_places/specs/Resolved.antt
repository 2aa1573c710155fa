-- What stands of resolved expressions, of their virtual variables, and of what is read one reference deeper.
use Rattle.std.specs.Prelude.{ℤ, Bool, List, [], ◌∷◌, ◌++◌, flat_map, map, Option, Some, None}
use Rattle.mo_syntax.specs.Outcome.{Outcome}
use Rattle.mo_syntax.specs.declared.place.Place.{Place}
use Rattle.mo_flat.specs.declared.array.ArrayExpr.{ArrayExpr, ArrayExpr-F, fold-ArrayExpr}
use Rattle.mo_flat.specs.declared.array.ArrayNode.{ArrayNode, ArrayNode-F, fold-ArrayNode}
use Rattle.mo_flat.specs.declared.array.Subscript.{Subscript}
use Rattle.mo_flat.specs.declared.array.Subscript.TheVariants.{All, One, Many}
use Rattle.mo_scope.specs.Frames.{Member}
use Rattle.mo_eval.specs.Contexts.{Part}
use Rattle.mo_eval.specs.Ends.{Ended, Is_other, Is_removed, Selects}
use Rattle.mo_values.specs.Scalars.{Known}
use Rattle.mo_eval.specs.Virtuals.{Ask, Component_element, Division, Element, Making, Reading, Resolved, Virtual}
use Rattle.mo_values.specs.declared.context.Context.{Context}
use Rattle.mo_places.specs.Stands.{Answers, Anything, Every, MemberStands}
use Rattle.mo_places.specs.Written.{Written, At, Valued}

-- ---- the places in a resolved expression: one list for each form

abbrev pub in_subscript : Subscript → List Place
in_subscript All = []
in_subscript (One place n) = place ∷ []
in_subscript (Many place ns) = place ∷ []

abbrev pub in_subscripts : List Subscript → List Place
in_subscripts subs = flat_map in_subscript subs

abbrev pub in_signed : List (Bool × Bool × List Place) → List Place
in_signed terms = flat_map (λ term. term.2) terms

abbrev pub in_parts : List (List Place) → List Place
in_parts parts = flat_map (λ part. part) parts

abbrev pub in_branches : List (List Place × List Place) → List Place
in_branches branches = flat_map (λ branch. branch.0 ++ branch.1) branches

abbrev pub in_number : Option (Place × ℤ) → List Place
in_number None = []
in_number (Some at) = at.0 ∷ []

abbrev pub in_filling : Option (List Place) → List Place
in_filling None = []
in_filling (Some places) = places

abbrev pub in_array_node : ArrayNode-F (List Place) (List Place) → List Place
in_array_node (ArrayNode-F.Vars vars kind dims subs) = in_subscripts subs
in_array_node (ArrayNode-F.Sum terms) = in_signed terms
in_array_node (ArrayNode-F.Product factors) = in_signed factors
in_array_node (ArrayNode-F.Power base dotted exponent) = base ++ exponent
in_array_node (ArrayNode-F.Relation op left right) = left ++ right
in_array_node (ArrayNode-F.Not inner) = inner
in_array_node (ArrayNode-F.All parts) = in_parts parts
in_array_node (ArrayNode-F.Any parts) = in_parts parts
in_array_node (ArrayNode-F.If branches other) = in_branches branches ++ other
in_array_node (ArrayNode-F.Call function args) = in_parts args
in_array_node (ArrayNode-F.Der inner) = inner
in_array_node (ArrayNode-F.Array parts) = in_parts parts
in_array_node (ArrayNode-F.Size part at) = part ++ in_number at
in_array_node (ArrayNode-F.Sized function part sizes) = in_filling part ++ map (λ size. size.0) sizes
in_array_node _ = []

abbrev pub in_array : ArrayExpr-F (List Place) (List Place) → List Place
in_array e = e.place ∷ e.node

abbrev pub places_in_array : ArrayExpr → List Place
places_in_array = fold-ArrayExpr (List Place) (List Place) in_array_node in_array

abbrev pub places_in_array_node : ArrayNode → List Place
places_in_array_node = fold-ArrayNode (List Place) (List Place) in_array_node in_array

-- ---- what stands

abbrev pub PlaceStands : (Written → Type 0) → Place → Type 0
PlaceStands P place = P (At place)

abbrev pub ArrayStands : (Written → Type 0) → ArrayExpr → Type 0
ArrayStands P e = Every (PlaceStands P) (places_in_array e)

abbrev pub ArrayNodeStands : (Written → Type 0) → ArrayNode → Type 0
ArrayNodeStands P node = Every (PlaceStands P) (places_in_array_node node)

pub record ElementStands (P : Written → Type 0) (element : Element) : Type 0 where
  pub member : MemberStands P element.member
  pub place : P (At element.place)

abbrev pub VirtualStands : (Written → Type 0) → Virtual → Type 0
VirtualStands P (Component_element element) = ElementStands P element
VirtualStands P (Division place function a b) = P (At place) × ArrayStands P a × ArrayStands P b

abbrev pub VirtualsStand : (Written → Type 0) → List Virtual → Type 0
VirtualsStand P virtuals = Every (VirtualStands P) virtuals

pub record ResolvedStands (P : Written → Type 0) (resolved : Resolved) : Type 0 where
  pub expression : ArrayStands P resolved.expression
  pub virtuals : VirtualsStand P resolved.virtuals

-- ---- what is read one reference deeper

pub record ReadingStands (P : Written → Type 0) (reading : Reading) : Type 0 where
  pub is_there : (member : Member) → MemberStands P member → Answers P Anything (reading.is_there member)
  pub dims : (member : Member) → MemberStands P member → Answers P Anything (reading.dims member)
  pub value : (element : Element) → ElementStands P element → Answers P Anything (reading.value element)

abbrev pub AskStands : (Written → Type 0) → Ask → Type 0
AskStands P ask = (place : Place) → P (At place) → Answers P (ReadingStands P) (ask place)

-- what is read of the elements that an expression names
abbrev pub ReadStands : (Written → Type 0) → (Element → Outcome Known) → Type 0
ReadStands P read = (element : Element) → ElementStands P element → Answers P Anything (read element)

-- ---- what is made

-- behind variables that stand it makes what stands, and variables that stand
abbrev pub Makes : {A : Type 0} → (Written → Type 0) → (A → Type 0) → Making A → Type 0
Makes P Q making = (virtuals : List Virtual) → VirtualsStand P virtuals → Answers P (λ made. Q made.0 × VirtualsStand P made.1) (making virtuals)

-- an expression, and how it is resolved in any context
abbrev pub PartStands : (Written → Type 0) → Part → Type 0
PartStands P part = P (Valued part.0) × ((context : Context) → Makes P (ArrayStands P) (part.1 context))

-- two sides over one list of variables
abbrev pub SidesStand : (Written → Type 0) → (ArrayExpr × ArrayExpr) × List Virtual → Type 0
SidesStand P sides = (ArrayStands P sides.0.0 × ArrayStands P sides.0.1) × VirtualsStand P sides.1

-- an end of a connect: its subscripts, and the components whose elements it selects
abbrev pub EndedStands : (Written → Type 0) → Ended → Type 0
EndedStands P Is_removed = Unit {0}
EndedStands P Is_other = Unit {0}
EndedStands P (Selects dims subs elements) = Every (λ sub. Every (PlaceStands P) (in_subscript sub)) subs × Every (λ element. MemberStands P element.0) elements
