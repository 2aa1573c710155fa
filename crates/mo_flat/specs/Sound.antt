-- When a flat expression or a flat model is sound: what each call that makes one promises of it.
use Rattle.std.specs.Prelude.{ℕ, ◌+◌, ◌≤◌, Bool, true, false, ◌&&◌, ◌||◌, List, [], ◌∷◌, Option, Some, None, IsTrue, IsSome, All, length, map, if◌then◌else◌, nat_eq, nat_lt, nat_le}
use Rattle.std.specs.List.{list_all, list_any}
use Rattle.std.specs.Option.{option_map}
use Rattle.mo_syntax.specs.declared.meaning.Kind.{Kind}
use Rattle.mo_syntax.specs.declared.meaning.Kind.TheVariants.{Real, Whole, Truth, Str, Enumeration}
use Rattle.mo_tables.specs.declared.functions.TheConstants.{ABS, ACOS, ASIN, ATAN, ATAN2, COS, COSH, EXP, LOG, LOG10, MAX, MIN, NO_EVENT, SIN, SINH, SQRT, TAN, TANH}
use Rattle.mo_flat.specs.declared.expr.FlatExpr.{FlatExpr, FlatExpr-F, fold-FlatExpr}
use Rattle.mo_flat.specs.declared.model.FlatVar.{FlatVar}
use Rattle.mo_flat.specs.declared.model.FlatEquation.{FlatEquation}
use Rattle.mo_flat.specs.declared.model.FlatAssert.{FlatAssert}
use Rattle.mo_flat.specs.declared.model.FlatModel.{FlatModel}
use Rattle.mo_flat.specs.Roles.{variable_at, unknown_numbers}

-- The kinds of flat expressions (Modelica Language Specification 3.5, section 4.8). A flat expression does not keep the
-- class of an enumeration literal, so all enumerations are one kind here.
pub data FlatKind : Type 0 where
  real : FlatKind
  whole : FlatKind
  truth : FlatKind
  string : FlatKind
  enumeration : FlatKind

abbrev pub flat_kind : Kind → FlatKind
flat_kind Real = real
flat_kind Whole = whole
flat_kind Truth = truth
flat_kind Str = string
flat_kind (Enumeration class) = enumeration

abbrev pub is_numeric : Option FlatKind → Bool
is_numeric (Some real) = true
is_numeric (Some whole) = true
is_numeric _ = false

abbrev pub is_whole : Option FlatKind → Bool
is_whole (Some whole) = true
is_whole _ = false

abbrev pub is_truth : Option FlatKind → Bool
is_truth (Some truth) = true
is_truth _ = false

abbrev pub is_string : Option FlatKind → Bool
is_string (Some string) = true
is_string _ = false

abbrev pub is_enumeration : Option FlatKind → Bool
is_enumeration (Some enumeration) = true
is_enumeration _ = false

-- a kind where a test holds
abbrev pub where_holds : Bool → FlatKind → Option FlatKind
where_holds b kind = if b then Some kind else None

-- Integer where all are Integers, Real where all are numbers
abbrev pub number_kind : List (Option FlatKind) → Option FlatKind
number_kind kinds = if list_all is_whole kinds then Some whole else where_holds (list_all is_numeric kinds) real

-- the one kind of several values, an Integer being accepted where a Real is wanted
abbrev pub common_kind : List (Option FlatKind) → Option FlatKind
common_kind kinds =
    if list_all is_numeric kinds then number_kind kinds
    else (if list_all is_truth kinds then Some truth
    else (if list_all is_string kinds then Some string else where_holds (list_all is_enumeration kinds) enumeration))

abbrev pub one_argument : List ℕ
one_argument = ABS ∷ ACOS ∷ ASIN ∷ ATAN ∷ COS ∷ COSH ∷ EXP ∷ LOG ∷ LOG10 ∷ NO_EVENT ∷ SIN ∷ SINH ∷ SQRT ∷ TAN ∷ TANH ∷ []

abbrev pub two_arguments : List ℕ
two_arguments = ATAN2 ∷ MAX ∷ MIN ∷ []

abbrev pub is_among : List ℕ → ℕ → Bool
is_among codes code = list_any (nat_eq code) codes

-- a function of flat expressions with its number of arguments
abbrev pub takes : ℕ → ℕ → Bool
takes function count = (is_among one_argument function && nat_eq count 1) || (is_among two_arguments function && nat_eq count 2)

-- `noEvent` takes a number or a truth value
abbrev pub kept_kind : Option FlatKind → Option FlatKind
kept_kind kind = if is_numeric kind || is_truth kind then kind else None

-- the kind of a call: `abs`, `max` and `min` of Integers are Integers, `noEvent` has its argument's kind
abbrev pub call_kind : ℕ → List (Option FlatKind) → Option FlatKind
call_kind function kinds =
    if nat_eq function NO_EVENT then kept_kind (common_kind kinds)
    else (if is_among (ABS ∷ MAX ∷ MIN ∷ []) function then number_kind kinds else where_holds (list_all is_numeric kinds) real)

-- the kind of a node by the kinds of its parts, none where they do not agree
abbrev pub kind_node : List FlatVar → FlatExpr-F (Option FlatKind) → Option FlatKind
kind_node vars (FlatExpr-F.Whole n) = Some whole
kind_node vars (FlatExpr-F.Decimal text) = Some real
kind_node vars (FlatExpr-F.Str text) = Some string
kind_node vars (FlatExpr-F.Truth b) = Some truth
kind_node vars (FlatExpr-F.Literal text) = Some enumeration
kind_node vars FlatExpr-F.Time = Some real
kind_node vars (FlatExpr-F.Var variable order) = option_map (λ v. flat_kind v.kind) (variable_at vars variable)
kind_node vars (FlatExpr-F.Der inner) = where_holds (is_numeric inner) real
kind_node vars (FlatExpr-F.Sum terms) = number_kind (map (λ term. term.1) terms)
kind_node vars (FlatExpr-F.Product factors) =
    if list_any (λ factor. factor.0) factors then where_holds (list_all (λ factor. is_numeric factor.1) factors) real
    else number_kind (map (λ factor. factor.1) factors)
kind_node vars (FlatExpr-F.Power base exponent) = where_holds (is_numeric base && is_numeric exponent) real
kind_node vars (FlatExpr-F.Call function args) = call_kind function args
kind_node vars (FlatExpr-F.Relation op left right) = option_map (λ _. truth) (common_kind (left ∷ right ∷ []))
kind_node vars (FlatExpr-F.Not inner) = where_holds (is_truth inner) truth
kind_node vars (FlatExpr-F.All parts) = where_holds (list_all is_truth parts) truth
kind_node vars (FlatExpr-F.Any parts) = where_holds (list_all is_truth parts) truth
kind_node vars (FlatExpr-F.If branches other) =
    if list_all (λ branch. is_truth branch.0) branches then common_kind (other ∷ map (λ branch. branch.1) branches) else None

abbrev pub kind_of : List FlatVar → FlatExpr → Option FlatKind
kind_of vars = fold-FlatExpr (Option FlatKind) (kind_node vars)

abbrev pub is_nonempty : {A : Type 0} → List A → Bool
is_nonempty [] = false
is_nonempty (x ∷ xs) = true

-- a product begins with a factor that is multiplied
abbrev pub begins_multiplied : {A : Type 0} → List (Bool × A) → Bool
begins_multiplied [] = false
begins_multiplied (factor ∷ factors) = if factor.0 then false else true

-- variable numbers are in range, functions have their number of arguments, no list is empty, no product begins with a
-- factor to divide by
abbrev pub shape_node : List FlatVar → FlatExpr-F Bool → Bool
shape_node vars (FlatExpr-F.Var variable order) = nat_le 1 variable && nat_le variable (length vars)
shape_node vars (FlatExpr-F.Der inner) = inner
shape_node vars (FlatExpr-F.Sum terms) = is_nonempty terms && list_all (λ term. term.1) terms
shape_node vars (FlatExpr-F.Product factors) = begins_multiplied factors && list_all (λ factor. factor.1) factors
shape_node vars (FlatExpr-F.Power base exponent) = base && exponent
shape_node vars (FlatExpr-F.Call function args) = takes function (length args) && list_all (λ arg. arg) args
shape_node vars (FlatExpr-F.Relation op left right) = left && right
shape_node vars (FlatExpr-F.Not inner) = inner
shape_node vars (FlatExpr-F.All parts) = is_nonempty parts && list_all (λ part. part) parts
shape_node vars (FlatExpr-F.Any parts) = is_nonempty parts && list_all (λ part. part) parts
shape_node vars (FlatExpr-F.If branches other) = is_nonempty branches && list_all (λ branch. branch.0 && branch.1) branches && other
shape_node vars _ = true

abbrev pub is_shaped : List FlatVar → FlatExpr → Bool
is_shaped vars = fold-FlatExpr Bool (shape_node vars)

-- each variable's order, with the number of derivatives around it, is below a limit
abbrev pub orders_node : ℕ → FlatExpr-F (ℕ → Bool) → ℕ → Bool
orders_node limit (FlatExpr-F.Var variable order) around = nat_lt (order + around) limit
orders_node limit (FlatExpr-F.Der inner) around = inner (around + 1)
orders_node limit (FlatExpr-F.Sum terms) around = list_all (λ term. term.1 around) terms
orders_node limit (FlatExpr-F.Product factors) around = list_all (λ factor. factor.1 around) factors
orders_node limit (FlatExpr-F.Power base exponent) around = base around && exponent around
orders_node limit (FlatExpr-F.Call function args) around = list_all (λ arg. arg around) args
orders_node limit (FlatExpr-F.Relation op left right) around = left around && right around
orders_node limit (FlatExpr-F.Not inner) around = inner around
orders_node limit (FlatExpr-F.All parts) around = list_all (λ part. part around) parts
orders_node limit (FlatExpr-F.Any parts) around = list_all (λ part. part around) parts
orders_node limit (FlatExpr-F.If branches other) around = list_all (λ branch. branch.0 around && branch.1 around) branches && other around
orders_node limit _ around = true

abbrev pub orders_fit : ℕ → FlatExpr → Bool
orders_fit limit e = fold-FlatExpr (ℕ → Bool) (orders_node limit) e 0

-- a sound expression, with the limit below which its orders stay
pub record IsSoundBelow (limit : ℕ) (vars : List FlatVar) (e : FlatExpr) : Type 0 where
  pub shaped : IsTrue (is_shaped vars e)
  pub kinds_agree : IsSome (kind_of vars e)
  pub orders : IsTrue (orders_fit limit e)

-- a sound expression
abbrev pub IsSound : List FlatVar → FlatExpr → Type 0
IsSound = IsSoundBelow 4294967295

-- a sound expression of a sound model, which leaves room to differentiate
abbrev pub IsSoundIn : List FlatVar → FlatExpr → Type 0
IsSoundIn = IsSoundBelow 65535

-- a sound expression whose value is a number
pub record IsSoundNumber (limit : ℕ) (vars : List FlatVar) (e : FlatExpr) : Type 0 where
  pub sound : IsSoundBelow limit vars e
  pub numeric : IsTrue (is_numeric (kind_of vars e))

abbrev pub IsSoundOption : List FlatVar → Option FlatExpr → Type 0
IsSoundOption vars None = Unit {0}
IsSoundOption vars (Some e) = IsSoundIn vars e

pub record IsSoundVariable (vars : List FlatVar) (v : FlatVar) : Type 0 where
  pub attributes : All (λ attribute. IsSoundIn vars attribute.1) v.attributes
  pub binding : IsSoundOption vars v.binding

pub record IsSoundEquation (vars : List FlatVar) (q : FlatEquation) : Type 0 where
  pub left : IsSoundNumber 65535 vars q.left
  pub right : IsSoundNumber 65535 vars q.right

pub record IsSoundAssert (vars : List FlatVar) (a : FlatAssert) : Type 0 where
  pub condition : IsSoundIn vars a.condition
  pub message : IsSoundIn vars a.message
  pub level : IsSoundOption vars a.level

-- a sound model: its expressions are sound, both sides of its equations are numbers, and it is no larger than a model
-- may be
pub record IsSoundModel (m : FlatModel) : Type 0 where
  pub variables : All (IsSoundVariable m.vars) m.vars
  pub first : All (IsSoundEquation m.vars) m.first
  pub first_asserts : All (IsSoundAssert m.vars) m.first_asserts
  pub equations : All (IsSoundEquation m.vars) m.equations
  pub asserts : All (IsSoundAssert m.vars) m.asserts
  pub variable_count : length m.vars ≤ 400000
  pub unknown_count : length (unknown_numbers m.vars) ≤ 50000
  pub equation_count : length m.equations ≤ 50000
