-- Steps of inheritance by name: what each does for the name of a base, for one extends clause, and for one part of a class.
use Rattle.std.specs.Prelude.{◌≡◌, ℕ, ◌<◌, Bool, List, [], ◌∷◌, Option, Some, Ok, slice_get}
use Rattle.mo_syntax.specs.Outcome.{Outcome, and_then, breaks}
use Rattle.mo_syntax.specs.declared.expr.Expr.{Expr}
use Rattle.mo_syntax.specs.declared.expr.PartOf.{PartOf}
use Rattle.mo_scope.specs.Rows.{Row, Table, Part, Element_of, Base_of, Clause, class_number}
use Rattle.mo_scope.specs.Frames.{Frame, Scope}
use Rattle.mo_scope.specs.Own.{own_declared}
use Rattle.mo_scope.specs.Lookup.{Classed, Walked, Asking, last_place, with_member, with_base}
use Rattle.mo_names.specs.steps.Lookup.{base_at, first_class, next_item, own_inherited}
use Rattle.mo_names.specs.steps.Parts.{parts_of}
use Rattle.mo_syntax.specs.declared.rules.TheConstants.{NAME_NOT_FOUND}

-- the first of the identifiers of a name
abbrev pub first_of_parts : Table → Asking → (bare : Bool) → (top : Bool) → Scope → List (PartOf Expr) → Outcome Classed
first_of_parts table asking bare top scope [] = breaks NAME_NOT_FOUND (record { file = 0; byte = 0 })
first_of_parts table asking bare top scope (part ∷ parts) = first_class table asking bare top scope part

-- an extends clause, its base being found, with the elements of that
abbrev pub base_with_elements : Table → Asking → Frame → Option Row → Clause → Outcome (Frame × Walked)
base_with_elements table asking frame row clause =
    and_then (base_at table asking frame row clause) (λ base.
    and_then (asking.elements (last_place clause.base.parts) base) (λ walked. Ok (base, walked)))

-- the elements of the base of an extends clause behind those before
abbrev pub base_walked : Table → Asking → Frame → Option Row → Clause → Walked → Outcome Walked
base_walked table asking frame row clause so_far =
    and_then (base_with_elements table asking frame row clause) (λ base. with_base clause.hidden base.0 base.1 so_far)

-- one part of a class
abbrev pub part_walked : Table → Asking → Frame → Option Row → (item : ℕ) → Part → Walked → Outcome Walked
part_walked table asking frame row item (Element_of declares) so_far = with_member (own_inherited frame item declares) so_far
part_walked table asking frame row item (Base_of clause) so_far = base_walked table asking frame row clause so_far

-- the parts of a class
abbrev pub parts_walked : Table → Asking → Frame → Option Row → (item : ℕ) → List Part → Walked → Outcome Walked
parts_walked table asking frame row item [] so_far = Ok so_far
parts_walked table asking frame row item (part ∷ parts) so_far =
    and_then (part_walked table asking frame row item part so_far) (parts_walked table asking frame row (next_item part item) parts)

-- an element that the class of a frame declares itself is the one with that number
abbrev pub IsOwnPart : Table → Frame → (item : ℕ) → Part → Type 0
IsOwnPart table frame item (Element_of declares) = slice_get (own_declared table frame) item ≡ Some declares
IsOwnPart table frame item (Base_of clause) = Unit {0}

-- the class that a part declares exists
abbrev pub PartExists : ℕ → Part → Type 0
PartExists classes (Element_of declares) = class_number declares < classes
PartExists classes (Base_of clause) = Unit {0}

-- the part stands there among the parts of the class
abbrev pub StandsAt : Option Row → (at : ℕ) → Part → Type 0
StandsAt row at part = slice_get (parts_of row) at ≡ Some part
