-- An expression resolved in a scope (Modelica Language Specification 3.5, chapters 3 and 10): each name is replaced by virtual
-- variables, each subscript, range and size by its numbers.
--
-- Parts are resolved from left to right. A form that is left out is refused before its parts are read.
use Rattle.std.specs.Prelude.{ℕ, pos, Bool, true, false, ◌&&◌, List, [], ◌∷◌, ◌++◌, Option, Some, None, Ok, if◌then◌else◌, codes, slice_get}
use Rattle.mo_syntax.specs.Outcome.{Outcome, and_then, breaks}
use Rattle.mo_syntax.specs.declared.expr.Arg.{Arg, Arg-F}
use Rattle.mo_syntax.specs.declared.expr.Args.{Args, Args-F}
use Rattle.mo_syntax.specs.declared.expr.BranchOf.{BranchOf}
use Rattle.mo_syntax.specs.declared.expr.Expr.{Expr, Expr-F, para-Expr}
use Rattle.mo_syntax.specs.declared.expr.FactorOf.{FactorOf}
use Rattle.mo_syntax.specs.declared.expr.Node.{Node, Node-F}
use Rattle.mo_syntax.specs.declared.expr.ReferenceOf.{ReferenceOf}
use Rattle.mo_syntax.specs.declared.expr.TermOf.{TermOf}
use Rattle.mo_syntax.specs.declared.place.Place.{Place}
use Rattle.mo_syntax.specs.Classes.{Home, Under}
use Rattle.mo_flat.specs.declared.array.ArrayExpr.{ArrayExpr, roll-ArrayExpr}
use Rattle.mo_flat.specs.declared.array.ArrayNode.{ArrayNode}
use Rattle.mo_flat.specs.declared.array.ArrayNode.TheVariants.{Whole, Decimal, Str, Truth, Literal, Time, Sum, Product, Power, Relation, Not, All, Any, If, Array, Range}
use Rattle.mo_scope.specs.Rows.{Table, Row, row_at}
use Rattle.mo_scope.specs.Frames.{Scope}
use Rattle.mo_scope.specs.Lookup.{Found, Iteration, literals_at, type_names}
use Rattle.mo_scope.specs.Lookup.{Literal as found_literal, Time as found_time}
use Rattle.mo_syntax.specs.declared.rules.TheConstants.{WRONG_KIND_OF_NAME, NAME_NOT_FOUND, WRONG_TYPE, OUTSIDE_PROFILE}
use Rattle.mo_typing.specs.Indices.{or_else}
use Rattle.mo_values.specs.declared.value.Scalar.{Scalar}
use Rattle.mo_values.specs.declared.value.Scalar.TheVariants.{Truth as truth_scalar}
use Rattle.mo_values.specs.Scalars.{Known}
use Rattle.mo_eval.specs.Virtuals.{Element, Ask, Making, make, make_then, make_from, make_each, Resolved, resolved_by, known_at}
use Rattle.mo_values.specs.declared.context.Context.{Context}
use Rattle.mo_eval.specs.Contexts.{Part, alone, place_of, read_element, truth_of}
use Rattle.mo_values.specs.Asked.{operand, read_in, layered, only_whole, only_scalar}
use Rattle.mo_eval.specs.References.{Named, Components, Found_at, named, made_reference, is_replaced}
use Rattle.mo_eval.specs.Calls.{made_call}
use Rattle.mo_values.specs.Made.{sum_of, power_of, range_of, Choice, chosen, made_end}

-- ---- names

-- names with dots between them
abbrev pub dotted : List (List ℕ) → List ℕ
dotted [] = []
dotted (name ∷ []) = name
dotted (name ∷ next ∷ names) = name ++ codes "." ++ dotted (next ∷ names)

-- the path of a class; of one without a path its name alone
abbrev pub path_of_class : Table → ℕ → List (List ℕ)
path_of_class table class = path_of (row_at table class)
  where
    path_in : Home → List (List ℕ)
    path_in (Under path) = path
    path_in home = []

    path_of : Option Row → List (List ℕ)
    path_of None = or_else (slice_get type_names class) [] ∷ []
    path_of (Some row) = path_in row.home ++ row.class.name ∷ []

-- a literal as it is printed
abbrev pub literal_text : Table → ℕ → ℕ → List ℕ
literal_text table class place = dotted (path_of_class table class ++ or_else (slice_get (literals_at table class) place) [] ∷ [])

-- what a name stands for that is no component; a class or a function breaks rule 13 at its identifier
abbrev pub made_found : Table → Place → Found → Outcome ArrayNode
made_found table place (found_literal class n) = Ok (Literal (record { 0 = class }) n (literal_text table class n))
made_found table place (Iteration n) = Ok (Whole n)
made_found table place found_time = Ok Time
made_found table place found = breaks WRONG_KIND_OF_NAME place

abbrev pub made_named : Table → Ask → Context → Place → Named → Making ArrayNode
made_named table ask context place (Components (first ∷ others)) = made_reference table ask context place first others
made_named table ask context place (Components []) = make_from (breaks NAME_NOT_FOUND place)
made_named table ask context place (Found_at found at) = make_from (made_found table at found)

abbrev pub made_name : Table → Ask → Scope → Context → Place → ReferenceOf Part → Making ArrayNode
made_name table ask scope context place reference =
    make_then (make_from (named table scope reference)) (made_named table ask context place)

-- ---- chains

abbrev pub make_part : Context → Part → Making ArrayExpr
make_part context part = part.1 (operand context)

abbrev pub make_parts : Context → List Part → Making (List ArrayExpr)
make_parts context = make_each (make_part context)

abbrev pub made_sum : Context → Place → List (TermOf Part) → Making ArrayNode
made_sum context place terms =
    make_then (make_each (λ term. make_then (make_part context term.value) (λ e. make (term.minus, term.dotted, e))) terms) (λ terms.
    make_from (sum_of place terms))

abbrev pub made_product : Context → List (FactorOf Part) → Making ArrayNode
made_product context factors =
    make_then (make_each (λ factor. make_then (make_part context factor.value) (λ e. make (factor.divide, factor.dotted, e))) factors) (λ factors.
    make (Product factors))

abbrev pub made_power : Context → Place → Part → Bool → Part → Making ArrayNode
made_power context place base dotted exponent =
    make_then (make_part context base) (λ base.
    make_then (make_part context exponent) (λ exponent. make_from (power_of place base dotted exponent)))

-- ---- ranges

-- an end or the step of a range, decided or not
abbrev pub read_end : (Element → Outcome Known) → Context → Part → Outcome Known
read_end read context part =
    and_then (alone part (read_in context)) (λ resolved.
    and_then (layered (only_whole (place_of part)) (only_scalar WRONG_TYPE (place_of part)) resolved.expression) (λ _. known_at read resolved []))

abbrev pub read_step : (Element → Outcome Known) → Context → Option Part → Outcome Known
read_step read context None = Ok (Some (Scalar.Whole (pos 1)))
read_step read context (Some part) = read_end read context part

abbrev pub made_range : (Element → Outcome Known) → Context → Place → Part → Option Part → Part → Outcome ArrayNode
made_range read context place first step last =
    and_then (read_end read context first) (λ first.
    and_then (read_step read context step) (λ step.
    and_then (read_end read context last) (λ last. range_of place first step last)))

-- ---- if-expressions

-- A condition is a scalar Boolean, else rule 33 is broken at it. It is read for its value: a false one is dropped with its branch; a
-- true one makes its branch the last, and nothing behind it is read.
abbrev pub made_choice : (Element → Outcome Known) → Context → List (BranchOf Part) → Part → Making Choice
made_choice read context [] other = make_then (make_part context other) (λ other. make ([], other))
made_choice read context (branch ∷ branches) other =
    make_then (make_from (and_then (alone branch.condition (read_in context)) (truth_of read WRONG_TYPE (place_of branch.condition))))
    (decided (made_choice read context branches other))
  where
    decided : Making Choice → Known → Making Choice
    decided further (Some (truth_scalar true)) = make_then (make_part context branch.value) (λ value. make ([], value))
    decided further (Some (truth_scalar false)) = further
    decided further known =
        make_then (make_part context branch.condition) (λ condition.
        make_then (make_part context branch.value) (λ value.
        make_then further (λ choice. make ((condition, value) ∷ choice.0, choice.1))))

-- ---- all forms

abbrev pub at_place : Place → Making ArrayNode → Making ArrayExpr
at_place place made = make_then made (λ node. make (roll-ArrayExpr (record { place = place; node = node })))

-- An argument that is no function; the arguments of a call, where none has a name, is a function, or is iterated.
abbrev pub argument_of : Arg-F (Arg × Option Part) (Node × (Place → Context → Making ArrayExpr)) (Args × Option (List Part)) Part → Option Part
argument_of (Arg-F.Value value) = Some value
argument_of (Arg-F.Partial function named) = None

abbrev pub with_argument : Option Part → Option (List Part) → Option (List Part)
with_argument (Some argument) (Some arguments) = Some (argument ∷ arguments)
with_argument argument arguments = None

abbrev pub all_arguments : List (Arg × Option Part) → Option (List Part)
all_arguments [] = Some []
all_arguments (argument ∷ arguments) = with_argument argument.1 (all_arguments arguments)

abbrev pub is_empty : {A : Type 0} → List A → Bool
is_empty [] = true
is_empty (x ∷ xs) = false

abbrev pub arguments_of : Args-F (Arg × Option Part) (Node × (Place → Context → Making ArrayExpr)) (Args × Option (List Part)) Part → Option (List Part)
arguments_of arguments =
    if is_empty arguments.named && is_empty arguments.iters then all_arguments arguments.plain else None

-- What is read while a node is resolved: the classes, what is read one reference deeper, and the scope.
abbrev pub made_node : Table → Ask → Scope → Node-F (Arg × Option Part) (Node × (Place → Context → Making ArrayExpr)) (Args × Option (List Part)) Part → Place → Context → Making ArrayExpr
made_node table ask scope (Node-F.Whole n) place context = at_place place (make (Whole n))
made_node table ask scope (Node-F.Decimal text) place context = at_place place (make (Decimal text))
made_node table ask scope (Node-F.Str text) place context = at_place place (make (Str text))
made_node table ask scope (Node-F.Truth b) place context = at_place place (make (Truth b))
made_node table ask scope (Node-F.Ref reference) place context = at_place place (made_name table ask scope context place reference)
made_node table ask scope (Node-F.Sum terms) place context = at_place place (made_sum context place terms)
made_node table ask scope (Node-F.Product factors) place context = at_place place (made_product context factors)
made_node table ask scope (Node-F.Power base dotted exponent) place context = at_place place (made_power context place base dotted exponent)
made_node table ask scope (Node-F.Relation op left right) place context =
    at_place place (make_then (make_part context left) (λ left. make_then (make_part context right) (λ right. make (Relation op left right))))
made_node table ask scope (Node-F.Not inner) place context = at_place place (make_then (make_part context inner) (λ inner. make (Not inner)))
made_node table ask scope (Node-F.All operands) place context = at_place place (make_then (make_parts context operands) (λ operands. make (All operands)))
made_node table ask scope (Node-F.Any operands) place context = at_place place (make_then (make_parts context operands) (λ operands. make (Any operands)))
made_node table ask scope (Node-F.Range first step last) place context =
    at_place place (make_from (made_range (read_element ask is_replaced) context place first step last))
made_node table ask scope (Node-F.If branches other) place context =
    make_then (made_choice (read_element ask is_replaced) context branches other) (λ choice. make (chosen place choice))
made_node table ask scope (Node-F.Call callee arguments) place context =
    at_place place (made_call table scope (read_element ask is_replaced) context place callee arguments.1)
made_node table ask scope (Node-F.Tuple outputs) place context = make_from (breaks OUTSIDE_PROFILE place)
made_node table ask scope (Node-F.Array elements) place context = at_place place (make_then (make_parts context elements) (λ elements. make (Array elements)))
made_node table ask scope (Node-F.ArrayFor element iterators) place context = make_from (breaks OUTSIDE_PROFILE place)
made_node table ask scope (Node-F.Matrix rows) place context = make_from (breaks OUTSIDE_PROFILE place)
made_node table ask scope Node-F.EndMark place context = at_place place (make_from (made_end context place))

abbrev pub made_expr : Expr-F (Arg × Option Part) (Node × (Place → Context → Making ArrayExpr)) (Args × Option (List Part)) Part → Context → Making ArrayExpr
made_expr e = e.node.1 e.place

abbrev pub made : Table → Ask → Scope → Expr → Context → Making ArrayExpr
made table ask scope =
    para-Expr (Option Part) (Place → Context → Making ArrayExpr) (Option (List Part)) (Context → Making ArrayExpr)
    argument_of (made_node table ask scope) arguments_of made_expr

-- an expression resolved in a scope
abbrev pub resolved_in : Table → Ask → Scope → Context → Expr → Outcome Resolved
resolved_in table ask scope context e = resolved_by (made table ask scope e context [])
