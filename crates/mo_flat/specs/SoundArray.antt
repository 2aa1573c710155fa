-- When an array expression is sound: what each call that is handed one may take for granted.
use Rattle.std.specs.Prelude.{ℕ, ◌+◌, ◌*◌, max, Bool, true, false, ◌&&◌, ◌||◌, not, List, [], ◌∷◌, Option, Some, None, IsTrue, length, nat_eq, nat_le}
use Rattle.std.specs.List.{list_all}
use Rattle.std.specs.Option.{option_map}
use Rattle.mo_syntax.specs.declared.meaning.Kind.{Kind}
use Rattle.mo_syntax.specs.declared.meaning.Kind.TheVariants.{Real, Whole, Truth, Str, Enumeration}
use Rattle.mo_tables.specs.declared.functions.TheConstants.{CROSS, FILL, IDENTITY, NDIMS, ONES, PRODUCT, SUM, TRANSPOSE, ZEROS}
use Rattle.mo_flat.specs.declared.array.ArrayExpr.{ArrayExpr, ArrayExpr-F, fold-ArrayExpr}
use Rattle.mo_flat.specs.declared.array.ArrayNode.{ArrayNode, ArrayNode-F, fold-ArrayNode}
use Rattle.mo_flat.specs.declared.array.Subscript.{Subscript}
use Rattle.mo_flat.specs.declared.model.FlatVar.{FlatVar}
use Rattle.mo_flat.specs.Roles.{variable_at}
use Rattle.mo_flat.specs.Sound.{FlatKind, flat_kind, is_among, is_enumeration, is_nonempty, is_numeric, is_string, is_truth, is_whole, one_argument, two_arguments}

-- how many elements dimensions have: their product
abbrev pub element_count : List ℕ → ℕ
element_count [] = 1
element_count (n ∷ dims) = n * element_count dims

-- no subscript, or one for each dimension
abbrev pub are_for_each : List Subscript → List ℕ → Bool
are_for_each [] dims = true
are_for_each (s ∷ subs) dims = nat_eq (length (s ∷ subs)) (length dims)

-- a function of flat expressions or of arrays
abbrev pub is_called : ℕ → Bool
is_called function =
    is_among one_argument function || is_among two_arguments function
    || is_among (CROSS ∷ NDIMS ∷ PRODUCT ∷ SUM ∷ TRANSPOSE ∷ []) function

-- `fill` alone has an expression
abbrev pub fills : {A : Type 0} → ℕ → Option A → Bool
fills function None = is_among (IDENTITY ∷ ONES ∷ ZEROS ∷ []) function
fills function (Some part) = nat_eq function FILL

abbrev pub all_of_option : Option Bool → Bool
all_of_option None = true
all_of_option (Some sound) = sound

-- a product begins with a factor that is multiplied
abbrev pub is_multiplied_first : {A : Type 0} → List (Bool × Bool × A) → Bool
is_multiplied_first [] = false
is_multiplied_first (factor ∷ factors) = not factor.0

-- A node whose parts are sound or not: a variable has as many numbers as its dimensions have elements, each one known to be of
-- its kind, and no subscript or one for each dimension; no list of operands is empty; no product begins with a factor to divide by.
abbrev pub array_node : (Kind → ℕ → Bool) → ArrayNode-F Bool Bool → Bool
array_node is_known (ArrayNode-F.Vars vars kind dims subs) =
    nat_eq (length vars) (element_count dims) && are_for_each subs dims && list_all (is_known kind) vars
array_node is_known (ArrayNode-F.Sum terms) = is_nonempty terms && list_all (λ term. term.2) terms
array_node is_known (ArrayNode-F.Product factors) = is_multiplied_first factors && list_all (λ factor. factor.2) factors
array_node is_known (ArrayNode-F.Power base dotted exponent) = base && exponent
array_node is_known (ArrayNode-F.Relation op left right) = left && right
array_node is_known (ArrayNode-F.Not inner) = inner
array_node is_known (ArrayNode-F.All parts) = is_nonempty parts && list_all (λ part. part) parts
array_node is_known (ArrayNode-F.Any parts) = is_nonempty parts && list_all (λ part. part) parts
array_node is_known (ArrayNode-F.If branches other) = is_nonempty branches && list_all (λ branch. branch.0 && branch.1) branches && other
array_node is_known (ArrayNode-F.Call function args) = is_called function && list_all (λ arg. arg) args
array_node is_known (ArrayNode-F.Der inner) = inner
array_node is_known (ArrayNode-F.Array parts) = is_nonempty parts && list_all (λ part. part) parts
array_node is_known (ArrayNode-F.Size part at) = part
array_node is_known (ArrayNode-F.Sized function part sizes) = fills function part && all_of_option part
array_node is_known _ = true

abbrev pub array_part : ArrayExpr-F Bool Bool → Bool
array_part e = e.node

abbrev pub is_sound_array : (Kind → ℕ → Bool) → ArrayExpr → Bool
is_sound_array is_known = fold-ArrayExpr Bool Bool (array_node is_known) array_part

abbrev pub is_sound_array_node : (Kind → ℕ → Bool) → ArrayNode → Bool
is_sound_array_node is_known = fold-ArrayNode Bool Bool (array_node is_known) array_part

-- a sound array expression, whatever its variables are
abbrev pub IsSoundArray : ArrayExpr → Type 0
IsSoundArray e = IsTrue (is_sound_array (λ kind number. true) e)

-- a flat kind where one kind is wanted: an Integer is accepted for a Real, and every enumeration is one kind
abbrev pub fits_kind : Kind → Option FlatKind → Bool
fits_kind Real = is_numeric
fits_kind Whole = is_whole
fits_kind Truth = is_truth
fits_kind Str = is_string
fits_kind (Enumeration class) = is_enumeration

-- a variable of that number and kind
abbrev pub has_kind : List FlatVar → Kind → ℕ → Bool
has_kind vars kind number =
    nat_le 1 number && nat_le number (length vars) && fits_kind kind (option_map (λ v. flat_kind v.kind) (variable_at vars number))

-- a sound array expression over the variables of a list
abbrev pub IsSoundArrayIn : List FlatVar → ArrayExpr → Type 0
IsSoundArrayIn vars e = IsTrue (is_sound_array (has_kind vars) e)

abbrev pub greatest_by : {A : Type 0} → (A → ℕ) → List A → ℕ
greatest_by f [] = 0
greatest_by f (x ∷ xs) = max (f x) (greatest_by f xs)

abbrev pub nesting_of_option : Option ℕ → ℕ
nesting_of_option None = 0
nesting_of_option (Some nesting) = nesting

-- how many derivatives stand around one another
abbrev pub nesting_node : ArrayNode-F ℕ ℕ → ℕ
nesting_node (ArrayNode-F.Sum terms) = greatest_by (λ term. term.2) terms
nesting_node (ArrayNode-F.Product factors) = greatest_by (λ factor. factor.2) factors
nesting_node (ArrayNode-F.Power base dotted exponent) = max base exponent
nesting_node (ArrayNode-F.Relation op left right) = max left right
nesting_node (ArrayNode-F.Not inner) = inner
nesting_node (ArrayNode-F.All parts) = greatest_by (λ part. part) parts
nesting_node (ArrayNode-F.Any parts) = greatest_by (λ part. part) parts
nesting_node (ArrayNode-F.If branches other) = max (greatest_by (λ branch. max branch.0 branch.1) branches) other
nesting_node (ArrayNode-F.Call function args) = greatest_by (λ arg. arg) args
nesting_node (ArrayNode-F.Der inner) = inner + 1
nesting_node (ArrayNode-F.Array parts) = greatest_by (λ part. part) parts
nesting_node (ArrayNode-F.Size part at) = part
nesting_node (ArrayNode-F.Sized function part sizes) = nesting_of_option part
nesting_node _ = 0

abbrev pub nesting_part : ArrayExpr-F ℕ ℕ → ℕ
nesting_part e = e.node

abbrev pub nesting_of : ArrayExpr → ℕ
nesting_of = fold-ArrayExpr ℕ ℕ nesting_node nesting_part

abbrev pub nesting_of_node : ArrayNode → ℕ
nesting_of_node = fold-ArrayNode ℕ ℕ nesting_node nesting_part
