-- The kind of an array expression: that of each of its elements (Modelica Language Specification 3.5, section 4.8 on the predefined
-- types, 3.4 to 3.7 on operators and functions, and 10.3 to 10.6 on arrays). An Integer is accepted where a Real is wanted.
--
-- The kinds of the operands are asked before that of the operation, from left to right. Arithmetic on an enumeration value and a
-- relation of two different enumerations break rule 39, every other disagreement of kinds and a wrong number of arguments rule 33.
use Rattle.std.specs.Prelude.{ℕ, Bool, true, false, ◌||◌, List, [], ◌∷◌, ◌++◌, map, fold, length, Option, Some, None, Ok, if◌then◌else◌, nat_eq, nat_lt}
use Rattle.std.specs.List.{list_any}
use Rattle.mo_syntax.specs.Outcome.{Outcome, and_then, breaks}
use Rattle.mo_syntax.specs.declared.place.Place.{Place}
use Rattle.mo_syntax.specs.declared.meaning.Kind.{Kind}
use Rattle.mo_syntax.specs.declared.meaning.Kind.TheVariants.{Real, Whole, Truth, Str, Enumeration}
use Rattle.mo_syntax.specs.declared.rules.TheConstants.{WRONG_ENUMERATION, WRONG_TYPE}
use Rattle.mo_tables.specs.declared.functions.TheConstants.{ABS, ATAN2, CROSS, IDENTITY, MAX, MIN, NDIMS, NO_EVENT, PRODUCT, SUM, TRANSPOSE}
use Rattle.mo_flat.specs.declared.array.ArrayExpr.{ArrayExpr, ArrayExpr-F, fold-ArrayExpr}
use Rattle.mo_flat.specs.declared.array.ArrayNode.{ArrayNode, ArrayNode-F, fold-ArrayNode}
use Rattle.mo_typing.specs.declared.agree.Shared.{Shared}
use Rattle.mo_typing.specs.declared.agree.Shared.TheVariants.{Unseen, Alike, Different}
use Rattle.mo_typing.specs.Outcome.{each}

-- the one kind of two values, if there is one
abbrev pub common : Kind → Kind → Option Kind
common Real Real = Some Real
common Real Whole = Some Real
common Whole Real = Some Real
common Whole Whole = Some Whole
common Truth Truth = Some Truth
common Str Str = Some Str
common (Enumeration a) (Enumeration b) = if nat_eq a.0 b.0 then Some (Enumeration a) else None
common _ _ = None

-- that kind, or a broken rule at the operation
abbrev pub or_breaks : Option Kind → ℕ → Place → Outcome Kind
or_breaks (Some kind) rule place = Ok kind
or_breaks None rule place = breaks rule place

-- An operand of + - * / ^.
abbrev pub number : Place → Kind → Outcome Kind
number place Real = Ok Real
number place Whole = Ok Whole
number place (Enumeration class) = breaks WRONG_ENUMERATION place
number place _ = breaks WRONG_TYPE place

-- Integer where both are
abbrev pub wider : Kind → Kind → Kind
wider Whole Whole = Whole
wider _ _ = Real

abbrev pub with_number : Place → Outcome Kind → Kind → Outcome Kind
with_number place so_far kind = and_then so_far (λ a. and_then (number place kind) (λ b. Ok (wider a b)))

-- arithmetic: Integer where all operands are Integers, else Real
abbrev pub arithmetic : Place → List Kind → Outcome Kind
arithmetic place kinds = fold (with_number place) (Ok Whole) kinds

abbrev pub is_truth : Kind → Bool
is_truth Truth = true
is_truth _ = false

abbrev pub truth : Place → Kind → Outcome Kind
truth place kind = if is_truth kind then Ok Truth else breaks WRONG_TYPE place

abbrev pub with_truth : Place → Outcome Kind → Kind → Outcome Kind
with_truth place so_far kind = and_then so_far (λ _. truth place kind)

-- `and`, `or`
abbrev pub logical : Place → List Kind → Outcome Kind
logical place kinds = fold (with_truth place) (Ok Truth) kinds

-- what the values so far have in common with one more
abbrev pub joined_by : Option Kind → Shared
joined_by None = Different
joined_by (Some kind) = Alike kind

abbrev pub joined : Shared → Kind → Shared
joined Unseen kind = Alike kind
joined (Alike a) kind = joined_by (common a kind)
joined Different kind = Different

abbrev pub settled : Place → Shared → Outcome Kind
settled place Unseen = Ok Real
settled place (Alike kind) = Ok kind
settled place Different = breaks WRONG_TYPE place

-- the elements of an array, the values of an if-expression
abbrev pub alike : Place → List Kind → Outcome Kind
alike place kinds = settled place (fold joined Unseen kinds)

abbrev pub are_enumerations : Kind → Kind → Bool
are_enumerations (Enumeration a) (Enumeration b) = true
are_enumerations _ _ = false

-- what is accepted where a kind is wanted: that kind, and an Integer where a Real is wanted
abbrev pub is_accepted : Kind → Kind → Bool
is_accepted Real Real = true
is_accepted Real Whole = true
is_accepted Whole Whole = true
is_accepted Truth Truth = true
is_accepted Str Str = true
is_accepted (Enumeration a) (Enumeration b) = nat_eq a.0 b.0
is_accepted _ _ = false

-- a binding, or the value of an attribute
abbrev pub accepts : Kind → Kind → Place → Outcome (Unit {0})
accepts want got place = if is_accepted want got then Ok (tt {0}) else breaks (if are_enumerations want got then WRONG_ENUMERATION else WRONG_TYPE) place

-- a relation
abbrev pub relation : Place → Kind → Kind → Outcome Kind
relation place a b =
    and_then (or_breaks (common a b) (if are_enumerations a b then WRONG_ENUMERATION else WRONG_TYPE) place) (λ _. Ok Truth)

abbrev pub is_number : Kind → Bool
is_number Real = true
is_number Whole = true
is_number _ = false

-- an argument of a function of numbers
abbrev pub numeric : Place → Kind → Outcome Kind
numeric place kind = if is_number kind then Ok kind else breaks WRONG_TYPE place

abbrev pub real_of : Place → Kind → Outcome Kind
real_of place kind = and_then (numeric place kind) (λ _. Ok Real)

-- `noEvent` takes a Real, an Integer or a Boolean
abbrev pub kept : Place → Kind → Outcome Kind
kept place kind = if is_number kind || is_truth kind then Ok kind else breaks WRONG_TYPE place

abbrev pub is_among : List ℕ → ℕ → Bool
is_among codes code = list_any (nat_eq code) codes

-- a call with one argument
abbrev pub call_of_one : Place → ℕ → Kind → Outcome Kind
call_of_one place function kind =
    if nat_eq function NDIMS then Ok Whole else
    (if nat_eq function TRANSPOSE then Ok kind else
    (if nat_eq function NO_EVENT then kept place kind else
    (if is_among (ABS ∷ PRODUCT ∷ SUM ∷ []) function then numeric place kind else
    (if is_among (ATAN2 ∷ CROSS ∷ MAX ∷ MIN ∷ []) function then breaks WRONG_TYPE place else real_of place kind))))

abbrev pub both_numeric : Place → Kind → Kind → Outcome Kind
both_numeric place a b = and_then (numeric place a) (λ a. and_then (numeric place b) (λ b. Ok (wider a b)))

-- a call with two arguments
abbrev pub call_of_two : Place → ℕ → Kind → Kind → Outcome Kind
call_of_two place function a b =
    if is_among (CROSS ∷ MAX ∷ MIN ∷ []) function then both_numeric place a b else
    (if nat_eq function ATAN2 then and_then (numeric place a) (λ _. real_of place b) else breaks WRONG_TYPE place)

abbrev pub call : Place → ℕ → List Kind → Outcome Kind
call place function (a ∷ []) = call_of_one place function a
call place function (a ∷ b ∷ []) = call_of_two place function a b
call place function _ = breaks WRONG_TYPE place

-- `identity` takes one size, `fill`, `zeros` and `ones` at least one
abbrev pub takes_sizes : ℕ → ℕ → Bool
takes_sizes function count = if nat_eq function IDENTITY then nat_eq count 1 else nat_lt 0 count

-- A part: its place, and its kind or the first rule that it breaks.
pub record Part : Type 0 where
  pub place : Place
  pub kind : Outcome Kind

-- the kinds of all operands
abbrev pub kinds_of : List Part → Outcome (List Kind)
kinds_of = each (λ part. part.kind)

-- a condition is Boolean
abbrev pub condition : Part → Outcome Kind
condition part = and_then part.kind (truth part.place)

-- the kind of a branch's value, the condition being asked first
abbrev pub branch_kind : Part × Part → Outcome Kind
branch_kind branch = and_then (condition branch.0) (λ _. branch.1.kind)

abbrev pub kinds_of_branches : List (Part × Part) → Outcome (List Kind)
kinds_of_branches = each branch_kind

abbrev pub sum_of : List Part → Place → Outcome Kind
sum_of parts place = and_then (kinds_of parts) (arithmetic place)

-- dividing gives Real
abbrev pub divided : Bool → Kind → Kind
divided true kind = Real
divided false kind = kind

abbrev pub product_of : Bool → List Part → Place → Outcome Kind
product_of divides parts place = and_then (sum_of parts place) (λ kind. Ok (divided divides kind))

abbrev pub raised : Place → Kind → Kind → Outcome Kind
raised place a b = and_then (arithmetic place (a ∷ b ∷ [])) (λ _. Ok Real)

-- what two operands in turn give
abbrev pub both : Part → Part → (Kind → Kind → Outcome Kind) → Outcome Kind
both left right f = and_then left.kind (λ a. and_then right.kind (f a))

abbrev pub choice : List (Part × Part) → Part → Place → Outcome Kind
choice branches other place =
    and_then (kinds_of_branches branches) (λ kinds. and_then other.kind (λ kind. alike place (kinds ++ kind ∷ [])))

-- what `fill` fills with; the others fill with Integers
abbrev pub filling : Option Part → Outcome Kind
filling None = Ok Whole
filling (Some part) = part.kind

abbrev pub sized : ℕ → Option Part → ℕ → Place → Outcome Kind
sized function part count place =
    and_then (filling part) (λ kind. if takes_sizes function count then Ok kind else breaks WRONG_TYPE place)

-- the kind of a node at its place, by the kinds of its parts
abbrev pub kind_node : ArrayNode-F (Place → Outcome Kind) Part → Place → Outcome Kind
kind_node (ArrayNode-F.Whole n) place = Ok Whole
kind_node (ArrayNode-F.Decimal text) place = Ok Real
kind_node (ArrayNode-F.Str text) place = Ok Str
kind_node (ArrayNode-F.Truth b) place = Ok Truth
kind_node (ArrayNode-F.Literal class n name) place = Ok (Enumeration class)
kind_node ArrayNode-F.Time place = Ok Real
kind_node (ArrayNode-F.Vars vars kind dims subs) place = Ok kind
kind_node (ArrayNode-F.Sum terms) place = sum_of (map (λ term. term.2) terms) place
kind_node (ArrayNode-F.Product factors) place = product_of (list_any (λ factor. factor.0) factors) (map (λ factor. factor.2) factors) place
kind_node (ArrayNode-F.Power base dotted exponent) place = both base exponent (raised place)
kind_node (ArrayNode-F.Relation op left right) place = both left right (relation place)
kind_node (ArrayNode-F.Not inner) place = and_then inner.kind (truth place)
kind_node (ArrayNode-F.All parts) place = and_then (kinds_of parts) (logical place)
kind_node (ArrayNode-F.Any parts) place = and_then (kinds_of parts) (logical place)
kind_node (ArrayNode-F.If branches other) place = choice branches other place
kind_node (ArrayNode-F.Call function args) place = and_then (kinds_of args) (call place function)
kind_node (ArrayNode-F.Der inner) place = and_then inner.kind (real_of place)
kind_node (ArrayNode-F.Array parts) place = and_then (kinds_of parts) (alike place)
kind_node (ArrayNode-F.Range first step last) place = Ok Whole
kind_node (ArrayNode-F.Size part at) place = and_then part.kind (λ _. Ok Whole)
kind_node (ArrayNode-F.Sized function part sizes) place = sized function part (length sizes) place

abbrev pub kind_part : ArrayExpr-F (Place → Outcome Kind) Part → Part
kind_part e = record { place = e.place; kind = e.node e.place }

-- an expression as a part
abbrev pub part_of : ArrayExpr → Part
part_of = fold-ArrayExpr (Place → Outcome Kind) Part kind_node kind_part

abbrev pub kind_of_node : ArrayNode → Place → Outcome Kind
kind_of_node = fold-ArrayNode (Place → Outcome Kind) Part kind_node kind_part

-- the kind of an expression, or the first rule that its kinds break
abbrev pub kind_of : ArrayExpr → Outcome Kind
kind_of e = (part_of e).kind

-- the terms of a sum, the branches of an if-expression as parts
abbrev pub signed_parts : List (Bool × Bool × ArrayExpr) → List Part
signed_parts terms = map (λ term. part_of term.2) terms

abbrev pub branch_parts : List (ArrayExpr × ArrayExpr) → List (Part × Part)
branch_parts branches = map (λ branch. (part_of branch.0, part_of branch.1)) branches
