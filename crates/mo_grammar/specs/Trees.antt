-- What the productions of expressions make of their parts.
use Rattle.std.specs.Prelude.{◌==◌, ◌||◌, ◌+◌, ◌-◌, ◌*◌, ◌^◌, ℕ, Bool, true, false, List, [], ◌∷◌, map, Option, Some, None, if◌then◌else◌, min, pos}
use Rattle.mo_syntax.specs.declared.place.Place.{Place}
use Rattle.mo_syntax.specs.declared.expr.Expr.{Expr}
use Rattle.mo_syntax.specs.declared.expr.Node.{Node}
use Rattle.mo_syntax.specs.declared.expr.Node.TheVariants.{Whole, Decimal, Str, Truth, Ref, Sum, Product, Power, Relation, Not, All, Any, Range, If, Call, Tuple, Array, ArrayFor, Matrix, EndMark}
use Rattle.mo_syntax.specs.declared.expr.Args.{Args, roll-Args}
use Rattle.mo_syntax.specs.declared.expr.Arg.{Arg}
use Rattle.mo_syntax.specs.declared.expr.Arg.TheVariants.{Value, Partial}
use Rattle.mo_syntax.specs.declared.expr.TermOf.{TermOf}
use Rattle.mo_syntax.specs.declared.expr.FactorOf.{FactorOf}
use Rattle.mo_syntax.specs.declared.expr.BranchOf.{BranchOf}
use Rattle.mo_syntax.specs.declared.expr.ReferenceOf.{ReferenceOf}
use Rattle.mo_syntax.specs.declared.expr.PartOf.{PartOf}
use Rattle.mo_syntax.specs.declared.expr.IndexOf.{IndexOf}
use Rattle.mo_syntax.specs.declared.expr.CalleeOf.{CalleeOf}
use Rattle.mo_syntax.specs.declared.expr.CalleeOf.TheVariants.{Named, Der, Initial, Pure}
use Rattle.mo_syntax.specs.declared.expr.RelOp.{RelOp}
use Rattle.mo_syntax.specs.declared.expr.RelOp.TheVariants.{Less, LessEqual, Greater, GreaterEqual, Equal, NotEqual}
use Rattle.mo_grammar.specs.Lexeme.{Lexeme, code_of}
use Rattle.mo_grammar.specs.Codes.{less, less_equal, greater, greater_equal, equal_equal, minus, dot_minus, dot_plus, divides, dot_divides, dot_times, dot_power, der_word, initial_word}

-- ---- parts

abbrev pub expr_at : Place → Node → Expr
expr_at place node = record { place = place; node = node }

-- the value of digits that follow others; 48 is the code of `0`
abbrev pub digits_after : ℕ → List ℕ → ℕ
digits_after value [] = value
digits_after value (digit ∷ digits) = digits_after (value * 10 + (digit - 48)) digits

-- an Integer literal by its value; the limits of tokens keep it below 2 ^ 63
abbrev pub whole_tree : Lexeme → Expr
whole_tree t = expr_at t.place (Whole (pos (min (digits_after 0 t.text) (2 ^ 63 - 1))))

abbrev pub decimal_tree : Lexeme → Expr
decimal_tree t = expr_at t.place (Decimal t.text)

abbrev pub string_tree : Lexeme → Expr
string_tree t = expr_at t.place (Str t.text)

abbrev pub truth_tree : Bool → Lexeme → Expr
truth_tree truth t = expr_at t.place (Truth truth)

abbrev pub end_tree : Lexeme → Expr
end_tree t = expr_at t.place EndMark

-- ---- references

-- an identifier without subscripts
abbrev pub plain_part : Lexeme → PartOf Expr
plain_part t = record { name = t.text; place = t.place; subs = [] }

abbrev pub or_nothing : {A : Type 0} → Option (List A) → List A
or_nothing None = []
or_nothing (Some list) = list

-- an identifier with the subscripts behind it, if any
abbrev pub part_of : Lexeme × Option (List (Option Expr)) → PartOf Expr
part_of (t, subs) = record { name = t.text; place = t.place; subs = or_nothing subs }

abbrev pub reference_of : Bool × List (PartOf Expr) → ReferenceOf Expr
reference_of (top, parts) = record { top = top; parts = parts }

abbrev pub name_reference : Bool × List Lexeme → ReferenceOf Expr
name_reference (top, names) = record { top = top; parts = map plain_part names }

-- a reference, or a call of what it names
abbrev pub reference_node : ReferenceOf Expr → Option Args → Node
reference_node r None = Ref r
reference_node r (Some args) = Call (Named r) args

abbrev pub reference_tree : Place × (ReferenceOf Expr × Option Args) → Expr
reference_tree (place, x) = expr_at place (reference_node x.0 x.1)

abbrev pub callee_of : Lexeme → CalleeOf Expr
callee_of t = if code_of t == der_word then Der else (if code_of t == initial_word then Initial else Pure)

abbrev pub call_tree : Lexeme × Args → Expr
call_tree (t, args) = expr_at t.place (Call (callee_of t) args)

-- ---- arguments

abbrev pub index_of : Lexeme × Option Expr → IndexOf Expr
index_of (t, range) = record { name = t.text; range = range }

abbrev pub args_of : List Arg → List (List ℕ × Arg) → List (IndexOf Expr) → Args
args_of plain named iters = roll-Args (record { plain = plain; named = named; iters = iters })

abbrev pub args_or_none : Option Args → Args
args_or_none None = args_of [] [] []
args_or_none (Some args) = args

abbrev pub named_argument : Lexeme × Arg → List ℕ × Arg
named_argument (t, arg) = (t.text, arg)

-- an argument's name, what it gives, and the named arguments that follow
abbrev pub named_arguments : Lexeme × (Arg × List (List ℕ × Arg)) → List (List ℕ × Arg)
named_arguments (t, x) = (t.text, x.0) ∷ x.1

-- plain arguments, and named ones behind them
abbrev pub Given : Type 0
Given = List Arg × List (List ℕ × Arg)

abbrev pub given_named : List (List ℕ × Arg) → Given
given_named named = ([], named)

abbrev pub given_or_none : Option Given → Given
given_or_none None = ([], [])
given_or_none (Some given) = given

abbrev pub given_more : Arg × Option Given → Given
given_more (arg, more) = (arg ∷ (given_or_none more).0, (given_or_none more).1)

abbrev pub args_given : Given → Args
args_given given = args_of given.0 given.1 []

abbrev pub args_iterated : Expr × List (IndexOf Expr) → Args
args_iterated (e, iters) = args_of (Value e ∷ []) [] iters

-- what follows the first expression of a call's arguments: iterators, or more arguments
abbrev pub Following : Type 0
Following = List (IndexOf Expr) × Given

abbrev pub following_iters : List (IndexOf Expr) → Following
following_iters iters = (iters, ([], []))

abbrev pub following_more : Option Given → Following
following_more more = ([], given_or_none more)

abbrev pub args_from : Expr × Following → Args
args_from (e, x) = args_of (Value e ∷ x.1.0) x.1.1 x.0

abbrev pub partial_argument : ReferenceOf Expr × Option (List (List ℕ × Arg)) → Arg
partial_argument (r, named) = Partial r (or_nothing named)

-- ---- expressions

abbrev pub branch_of : Expr × Expr → BranchOf Expr
branch_of (condition, value) = record { condition = condition; value = value }

-- an if-expression from its first condition, its first value, its other branches and the value of `else`
abbrev pub if_tree : Place × (Expr × (Expr × (List (BranchOf Expr) × Expr))) → Expr
if_tree (place, x) = expr_at place (If (branch_of (x.0, x.1.0) ∷ x.1.1.0) x.1.1.1)

-- a range from its first value and one or two more
abbrev pub range_node : Expr → Expr → Option Expr → Node
range_node a b None = Range a None b
range_node a b (Some c) = Range a (Some b) c

abbrev pub range_tree : Place × (Expr × Option (Expr × Option Expr)) → Expr
range_tree (place, (a, None)) = a
range_tree (place, (a, Some x)) = expr_at place (range_node a x.0 x.1)

-- a chain of operands is one node with a list; an operand alone stands for itself
abbrev pub any_tree : Place × (Expr × List Expr) → Expr
any_tree (place, (a, [])) = a
any_tree (place, (a, b ∷ more)) = expr_at place (Any (a ∷ b ∷ more))

abbrev pub all_tree : Place × (Expr × List Expr) → Expr
all_tree (place, (a, [])) = a
all_tree (place, (a, b ∷ more)) = expr_at place (All (a ∷ b ∷ more))

abbrev pub not_tree : Place × (Bool × Expr) → Expr
not_tree (place, (true, a)) = expr_at place (Not a)
not_tree (place, (false, a)) = a

abbrev pub relation_of : Lexeme → RelOp
relation_of t =
    if code_of t == less then Less else (if code_of t == less_equal then LessEqual else (if code_of t == greater then Greater
    else (if code_of t == greater_equal then GreaterEqual else (if code_of t == equal_equal then Equal else NotEqual))))

abbrev pub relation_tree : Place × (Expr × Option (Lexeme × Expr)) → Expr
relation_tree (place, (a, None)) = a
relation_tree (place, (a, Some x)) = expr_at place (Relation (relation_of x.0) a x.1)

abbrev pub is_minus : Lexeme → Bool
is_minus t = code_of t == minus || code_of t == dot_minus

abbrev pub term_of : Lexeme × Expr → TermOf Expr
term_of (t, a) = record { minus = is_minus t; dotted = code_of t == dot_plus || code_of t == dot_minus; value = a }

abbrev pub first_term : Expr → TermOf Expr
first_term a = record { minus = false; dotted = false; value = a }

abbrev pub terms_tree : Place → Expr → List (TermOf Expr) → Expr
terms_tree place a [] = a
terms_tree place a (b ∷ more) = expr_at place (Sum (first_term a ∷ b ∷ more))

-- a leading plus leaves no trace, a leading minus makes a first term that is subtracted
abbrev pub sum_tree : Option Lexeme × (Place × (Expr × List (TermOf Expr))) → Expr
sum_tree (None, x) = terms_tree x.0 x.1.0 x.1.1
sum_tree (Some t, x) = if is_minus t then expr_at t.place (Sum (term_of (t, x.1.0) ∷ x.1.1)) else terms_tree x.0 x.1.0 x.1.1

abbrev pub factor_of : Lexeme × Expr → FactorOf Expr
factor_of (t, a) = record { divide = code_of t == divides || code_of t == dot_divides; dotted = code_of t == dot_times || code_of t == dot_divides; value = a }

abbrev pub first_factor : Expr → FactorOf Expr
first_factor a = record { divide = false; dotted = false; value = a }

abbrev pub product_tree : Place × (Expr × List (FactorOf Expr)) → Expr
product_tree (place, (a, [])) = a
product_tree (place, (a, b ∷ more)) = expr_at place (Product (first_factor a ∷ b ∷ more))

abbrev pub power_tree : Place × (Expr × Option (Lexeme × Expr)) → Expr
power_tree (place, (a, None)) = a
power_tree (place, (a, Some x)) = expr_at place (Power a (code_of x.0 == dot_power) x.1)

-- parentheses around one expression leave no trace
abbrev pub outputs_tree : Place × List (Option Expr) → Expr
outputs_tree (place, []) = expr_at place (Tuple [])
outputs_tree (place, None ∷ more) = expr_at place (Tuple (None ∷ more))
outputs_tree (place, Some a ∷ []) = a
outputs_tree (place, Some a ∷ b ∷ more) = expr_at place (Tuple (Some a ∷ b ∷ more))

abbrev pub matrix_tree : Place × List (List Expr) → Expr
matrix_tree (place, rows) = expr_at place (Matrix rows)

-- what follows the first expression in braces: iterators, or more elements
abbrev pub InBraces : Type 0
InBraces = Option (List (IndexOf Expr)) × List Expr

abbrev pub braces_iters : List (IndexOf Expr) → InBraces
braces_iters iters = (Some iters, [])

abbrev pub braces_more : List Expr → InBraces
braces_more more = (None, more)

abbrev pub array_node : Expr → Option (List (IndexOf Expr)) → List Expr → Node
array_node a None more = Array (a ∷ more)
array_node a (Some iters) more = ArrayFor a iters

abbrev pub array_tree : Place × (Expr × InBraces) → Expr
array_tree (place, x) = expr_at place (array_node x.0 x.1.0 x.1.1)

-- a subscript `:`
abbrev pub whole_dimension : Lexeme → Option Expr
whole_dimension t = None
