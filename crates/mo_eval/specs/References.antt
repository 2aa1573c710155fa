-- References to components, with subscripts (Modelica Language Specification 3.5, sections 4.4.5, 5.3 and 10.5).
--
-- All identifiers are looked up first. Then, part by part, along the first element that is selected: whether it is there, its
-- dimensions, its subscripts. Then all elements that are selected agree with the first one. A reference hands in these elements alone.
use Rattle.std.specs.Prelude.{ℕ, ℤ, Bool, true, false, ◌&&◌, List, [], ◌∷◌, ◌++◌, map, flat_map, length, Option, Some, None, Ok, is_none, is_ok, replicate, if◌then◌else◌, nat_eq}
use Rattle.std.specs.List.{list_any}
use Rattle.mo_syntax.specs.Outcome.{Outcome, and_then, breaks}
use Rattle.mo_syntax.specs.declared.expr.Expr.{Expr}
use Rattle.mo_syntax.specs.declared.expr.PartOf.{PartOf}
use Rattle.mo_syntax.specs.declared.expr.ReferenceOf.{ReferenceOf}
use Rattle.mo_syntax.specs.declared.meaning.Kind.{Kind}
use Rattle.mo_syntax.specs.declared.meaning.Kind.TheVariants.{Real, Whole as whole_kind, Truth as truth_kind, Str, Enumeration}
use Rattle.mo_syntax.specs.declared.place.Place.{Place}
use Rattle.mo_flat.specs.declared.array.Subscript.{Subscript}
use Rattle.mo_flat.specs.declared.array.Subscript.TheVariants.{All, One, Many}
use Rattle.mo_flat.specs.declared.array.ArrayNode.{ArrayNode}
use Rattle.mo_flat.specs.declared.array.ArrayNode.TheVariants.{Vars}
use Rattle.mo_scope.specs.Rows.{Table, is_constant}
use Rattle.mo_scope.specs.Frames.{Frame, Scope, Member, class_of, at_of}
use Rattle.mo_scope.specs.Lookup.{Found, Component, Reached, Element as Found_element, asking_of, found_first, reached}
use Rattle.mo_scope.specs.Names.{child_of_member, component_frame, stands_for, taken, behind_found, walk_of}
use Rattle.mo_scope.specs.Sizes.{declared_sizes, type_sizes, count_sizes, is_nothing}
use Rattle.mo_syntax.specs.declared.rules.TheConstants.{WRONG_TYPE, NAME_NOT_FOUND, WRONG_SIZE, OUTSIDE_PROFILE}
use Rattle.mo_typing.specs.Outcome.{each}
use Rattle.mo_typing.specs.Dims.{Dims, subscripted, are_equal}
use Rattle.mo_typing.specs.Indices.{Index, numbers_to}
use Rattle.mo_typing.specs.Subscripts.{Checked, fine, subscripts}
use Rattle.mo_values.specs.Scalars.{Known}
use Rattle.mo_eval.specs.Virtuals.{Element, Virtual, Component_element, Reading, Ask, Making, make, make_then, make_from, make_variables, known_at}
use Rattle.mo_values.specs.declared.context.Context.{Context}
use Rattle.mo_eval.specs.Contexts.{Part, alone, place_of, read_element}
use Rattle.mo_values.specs.Asked.{subscript_of, layered, only_whole, scalar_or_vector, must_be_whole}
use Rattle.mo_values.specs.Selected.{selected, emptied}

-- ---- names

abbrev pub identifier : PartOf Part → PartOf Expr
identifier part = record { name = part.name; place = part.place; subs = [] }

abbrev pub number_of_dims : Table → Member → Outcome ℕ
number_of_dims table member =
    and_then (child_of_member table member []) (λ child.
    Ok (count_sizes (declared_sizes member child.redeclared ++ type_sizes table child.class)))

-- Where there are subscripts, what was found is a component with as many dimensions.
abbrev pub counted_subscripts : Table → Found → PartOf Part → Checked
counted_subscripts table found part = if is_nothing part.subs then fine else counted found
  where
    counted : Found → Checked
    counted (Component frame member) =
        and_then (number_of_dims table member) (λ n. if nat_eq n (length part.subs) then fine else breaks WRONG_TYPE part.place)
    counted other = breaks WRONG_TYPE part.place

-- A component behind a class or at the front, with the components behind it, each with its identifier; or what else the last identifier
-- found.
pub data Named : Type 0 where
  Components : List (Member × PartOf Part) → Named
  Found_at : Found → Place → Named

abbrev pub named_last : Found → PartOf Part → Named
named_last (Component frame member) part = Components ((member, part) ∷ [])
named_last found part = Found_at found part.place

abbrev pub named_before : Found → PartOf Part → Named → Named
named_before (Component frame member) part (Components others) = Components ((member, part) ∷ others)
named_before found part named = named

abbrev pub named_from : Table → Found → PartOf Part → List (PartOf Part) → Outcome Named
named_from table found part [] = and_then (counted_subscripts table found part) (λ _. Ok (named_last found part))
named_from table found part (next ∷ parts) =
    and_then (counted_subscripts table found part) (λ _.
    and_then (behind_found table found (identifier next)) (λ behind.
    and_then (named_from table behind next parts) (λ named. Ok (named_before found part named))))

abbrev pub named : Table → Scope → ReferenceOf Part → Outcome Named
named table scope reference = named_parts reference.parts
  where
    named_parts : List (PartOf Part) → Outcome Named
    named_parts [] = breaks NAME_NOT_FOUND (record { file = 0; byte = 0 })
    named_parts (part ∷ parts) =
        and_then (found_first table (asking_of table) false reference.top scope (identifier part)) (λ met.
        and_then (taken table met.near part.place met.found) (λ found. named_from table found part parts))

-- ---- subscripts

-- the numbers of a vector
abbrev pub numbers_of : (Index → Outcome Known) → Place → ℕ → Outcome (List ℤ)
numbers_of known place n = each (λ k. and_then (known (k ∷ [])) (must_be_whole place)) (numbers_to n)

-- A subscript is a scalar or a vector of Integers with values, or `:`.
abbrev pub read_subscript : (Element → Outcome Known) → ℕ → Option Part → Outcome Subscript
read_subscript read size None = Ok All
read_subscript read size (Some part) =
    and_then (alone part (subscript_of size)) (λ resolved.
    and_then (layered (only_whole place) (scalar_or_vector place) resolved.expression) (numbers_in (known_at read resolved)))
  where
    place : Place
    place = place_of part

    numbers_in : (Index → Outcome Known) → Dims → Outcome Subscript
    numbers_in known (n ∷ dims) = and_then (numbers_of known place n) (λ ns. Ok (Many place ns))
    numbers_in known [] = and_then (known []) (λ one. and_then (must_be_whole place one) (λ n. Ok (One place n)))

-- one for each dimension; `:` where none is written
abbrev pub read_subscripts : (Element → Outcome Known) → Dims → List (Option Part) → Outcome (List Subscript)
read_subscripts read [] subs = Ok []
read_subscripts read (n ∷ dims) [] = and_then (read_subscripts read dims []) (λ others. Ok (All ∷ others))
read_subscripts read (n ∷ dims) (sub ∷ subs) =
    and_then (read_subscript read n sub) (λ first. and_then (read_subscripts read dims subs) (λ others. Ok (first ∷ others)))

-- ---- along the first element

-- an identifier with the dimensions of its component and the subscripts
pub record Selection : Type 0 where
  pub name : List ℕ
  pub place : Place
  pub dims : Dims
  pub subs : List Subscript

-- A component that its condition removes breaks rule 12 at its identifier.
abbrev pub there : Reading → Place → Member → Checked
there reading place member = and_then (reading.is_there member) (λ is_there. if is_there then fine else breaks NAME_NOT_FOUND place)

abbrev pub nothings : ℕ → Dims
nothings n = replicate n 0

-- The dimensions of the first element that is selected, if it is there; where none is, as many dimensions of size 0.
abbrev pub dims_at : Table → Reading → Option Member → Member × PartOf Part → Outcome Dims
dims_at table reading (Some member) name = and_then (there reading name.1.place member) (λ _. reading.dims member)
dims_at table reading None name = and_then (number_of_dims table name.0) (λ n. Ok (nothings n))

abbrev pub selection_at : Table → Reading → (Element → Outcome Known) → Option Member → Member × PartOf Part → Outcome Selection
selection_at table reading read member name =
    and_then (dims_at table reading member name) (λ dims.
    and_then (read_subscripts read dims name.1.subs) (λ subs.
    Ok (record { name = name.1.name; place = name.1.place; dims = dims; subs = subs })))

-- the component of that name in an element of a component
abbrev pub component_behind : Table → Place → Member → Index → List ℕ → Outcome Member
component_behind table place member index name =
    and_then (child_of_member table member index) (λ child.
    and_then (reached table (asking_of table) place (component_frame member index child) name) (found_in (component_frame member index child)))
  where
    member_of : Found → Outcome Member
    member_of (Component frame part) = Ok part
    member_of found = breaks NAME_NOT_FOUND place

    found_in : Frame → Reached → Outcome Member
    found_in frame (Found_element part) = and_then (stands_for table place (Component frame part)) member_of
    found_in frame other = breaks NAME_NOT_FOUND place

-- the first element that is selected, and in it the next component
abbrev pub next_member : Table → Option Member → Selection → PartOf Part → Outcome (Option Member)
next_member table None selection part = Ok None
next_member table (Some member) selection part = next_in (selected selection.dims selection.subs)
  where
    next_in : List Index → Outcome (Option Member)
    next_in [] = Ok None
    next_in (index ∷ indices) = and_then (component_behind table part.place member index part.name) (λ next. Ok (Some next))

-- A subscript outside its dimension breaks rule 32 at once on a part that is not the last.
abbrev pub selections : Table → Reading → (Element → Outcome Known) → Option Member → List (Member × PartOf Part) → Outcome (List Selection)
selections table reading read member [] = Ok []
selections table reading read member (name ∷ []) =
    and_then (selection_at table reading read member name) (λ selection. Ok (selection ∷ []))
selections table reading read member (name ∷ next ∷ names) =
    and_then (selection_at table reading read member name) (λ selection.
    and_then (subscripts selection.dims selection.subs) (λ _.
    and_then (next_member table member selection next.1) (λ behind.
    and_then (selections table reading read behind (next ∷ names)) (λ others. Ok (selection ∷ others)))))

-- ---- all elements

-- Another element that is selected is there, and has the same dimensions: else rule 31 at the reference.
abbrev pub agrees : Reading → Place → Selection → Member → Checked
agrees reading place selection member =
    and_then (there reading selection.place member) (λ _.
    and_then (reading.dims member) (λ dims. if are_equal dims selection.dims then fine else breaks WRONG_SIZE place))

abbrev pub joined : {A : Type 0} → List (List A) → List A
joined lists = flat_map (λ list. list) lists

-- the elements that are selected below a component, each by the declaration in its frame and its index
abbrev pub elements_below : Table → Reading → Place → Member → List Selection → Outcome (List (Member × Index))
elements_below table reading place member [] = Ok []
elements_below table reading place member (selection ∷ []) =
    and_then (agrees reading place selection member) (λ _.
    Ok (map (λ index. (member, index)) (selected selection.dims selection.subs)))
elements_below table reading place member (selection ∷ next ∷ others) =
    and_then (agrees reading place selection member) (λ _.
    and_then
    (each (λ index.
    and_then (component_behind table next.place member index next.name) (λ part.
    elements_below table reading place part (next ∷ others)))
    (selected selection.dims selection.subs))
    (λ elements. Ok (joined elements)))

-- whether all subscripts of the last part lie within their dimensions
abbrev pub is_inside : List Selection → Bool
is_inside [] = true
is_inside (selection ∷ []) = is_ok (subscripts selection.dims selection.subs)
is_inside (selection ∷ next ∷ others) = is_inside (next ∷ others)

abbrev pub elements_selected : Table → Reading → Place → Member → List Selection → Outcome (List (Member × Index))
elements_selected table reading place member chosen =
    if is_inside chosen then elements_below table reading place member chosen else Ok []

-- ---- what is handed in

abbrev pub kept_dims : List Selection → Dims
kept_dims chosen = flat_map (λ selection. subscripted selection.subs selection.dims) chosen

abbrev pub every : {A : Type 0} → List A → List Subscript
every xs = map (λ x. All) xs

-- Dimensions and subscripts: none of these where all lie inside, else those of the last part as they are.
abbrev pub handed_in : List Selection → Dims × List Subscript
handed_in [] = ([], [])
handed_in (selection ∷ []) =
    if is_ok (subscripts selection.dims selection.subs) then (subscripted selection.subs selection.dims, []) else
    (emptied selection.dims selection.subs, selection.subs)
handed_in (selection ∷ next ∷ others) =
    if is_inside (next ∷ others) then (kept_dims (selection ∷ next ∷ others), []) else (
      subscripted selection.subs selection.dims ++ (handed_in (next ∷ others)).0,
      every (subscripted selection.subs selection.dims) ++ (handed_in (next ∷ others)).1,
    )

abbrev pub kind_of_class : ℕ → Kind
kind_of_class class =
    if nat_eq class 0 then Real else
    (if nat_eq class 1 then whole_kind else
    (if nat_eq class 2 then truth_kind else
    (if nat_eq class 3 then Str else Enumeration (record { 0 = class }))))

-- the kind of a component of leaf type
abbrev pub leaf_kind : Table → Member → Index → Outcome (Option Kind)
leaf_kind table member index =
    and_then (child_of_member table member index) (λ child.
    and_then (walk_of table (component_frame member index child)) (λ walked. Ok (kind_in walked.leaf)))
  where
    kind_in : Option Frame → Option Kind
    kind_in None = None
    kind_in (Some leaf) = Some (kind_of_class (class_of leaf))

-- A component that is no leaf breaks rule 34 at the reference; where one is accepted, it is of any kind.
abbrev pub kind_accepted : Context → Place → Option Kind → Outcome Kind
kind_accepted context place (Some kind) = Ok kind
kind_accepted context place None = if context.sized then Ok Real else breaks OUTSIDE_PROFILE place

abbrev pub last_of : {A : Type 0} → A → List A → A
last_of x [] = x
last_of x (y ∷ ys) = last_of y ys

-- the first element decides, or the component as it is named where none is selected
abbrev pub kind_among : Table → Member → List (Member × Index) → Outcome (Option Kind)
kind_among table member [] = leaf_kind table member []
kind_among table member (element ∷ elements) = leaf_kind table element.0 element.1

abbrev pub virtual_elements : Place → Kind → Bool → List (Member × Index) → List Virtual
virtual_elements place kind constant elements =
    map (λ element. Component_element (record { member = element.0; index = element.1; kind = kind; place = place; constant = constant })) elements

-- a constant that is replaced: it has no instance, and a declaration found by the names of the reference makes it constant
abbrev pub is_replaced : Element → Bool
is_replaced element = element.constant && is_none (at_of element.member.home)

-- the components that the names find, the first one and those behind it
abbrev pub made_reference : Table → Ask → Context → Place → Member × PartOf Part → List (Member × PartOf Part) → Making ArrayNode
made_reference table ask context place first others =
    make_then (make_from (ask place)) (λ reading.
    make_then (make_from (selections table reading (read_element ask is_replaced) (Some first.0) (first ∷ others))) (λ chosen.
    make_then (make_from (elements_selected table reading place first.0 chosen)) (λ elements.
    make_then (make_from (and_then (kind_among table (last_of first others).0 elements) (kind_accepted context place))) (λ kind.
    make_then (make_variables (virtual_elements place kind constant elements)) (λ variables.
    make (Vars variables kind (handed_in chosen).0 (handed_in chosen).1))))))
  where
    constant : Bool
    constant = list_any (λ name. is_constant name.0.declares) (first ∷ others)
