-- Subscripts that lie outside their dimensions (Modelica Language Specification 3.5, section 10.5), and the number of a dimension
-- in `size(A, i)` (section 10.3.1): rule 32 at the first one in the order of the text.
use Rattle.std.specs.Prelude.{ℕ, ℤ, pos, negsuc, Bool, false, ◌&&◌, List, [], ◌∷◌, map, length, Option, Some, None, Ok, if◌then◌else◌, nat_le}
use Rattle.std.specs.List.{list_all}
use Rattle.mo_syntax.specs.Outcome.{Outcome, and_then, breaks}
use Rattle.mo_syntax.specs.declared.place.Place.{Place}
use Rattle.mo_flat.specs.declared.array.ArrayExpr.{ArrayExpr, ArrayExpr-F, para-ArrayExpr}
use Rattle.mo_flat.specs.declared.array.ArrayNode.{ArrayNode, ArrayNode-F, para-ArrayNode}
use Rattle.mo_flat.specs.declared.array.Subscript.{Subscript}
use Rattle.mo_flat.specs.declared.array.Subscript.TheVariants.{All, One, Many}
use Rattle.mo_syntax.specs.declared.rules.TheConstants.{SUBSCRIPT_OUTSIDE}
use Rattle.mo_typing.specs.Outcome.{each}
use Rattle.mo_typing.specs.Dims.{Dims}
use Rattle.mo_typing.specs.Shape.{shape_of}

abbrev pub Checked : Type 0
Checked = Outcome (Unit {0})

abbrev pub fine : Checked
fine = Ok (tt {0})

abbrev pub both : Checked → Checked → Checked
both a b = and_then a (λ _. b)

-- each in turn
abbrev pub every : {A : Type 0} → (A → Checked) → List A → Checked
every check xs = and_then (each (λ c. c) (map check xs)) (λ _. fine)

-- from 1 to the size
abbrev pub is_within : ℕ → ℤ → Bool
is_within size (pos n) = nat_le 1 n && nat_le n size
is_within size (negsuc n) = false

abbrev pub within : Place → Bool → Checked
within place b = if b then fine else breaks SUBSCRIPT_OUTSIDE place

abbrev pub subscript : ℕ → Subscript → Checked
subscript size All = fine
subscript size (One place n) = within place (is_within size n)
subscript size (Many place ns) = within place (list_all (is_within size) ns)

-- each subscript with the dimension that it stands for
abbrev pub subscripts : Dims → List Subscript → Checked
subscripts [] subs = fine
subscripts (n ∷ dims) [] = fine
subscripts (n ∷ dims) (s ∷ subs) = both (subscript n s) (subscripts dims subs)

abbrev pub Part : Type 0
Part = ArrayExpr × Checked

abbrev pub of_part : Part → Checked
of_part part = part.1

abbrev pub of_option : Option Part → Checked
of_option None = fine
of_option (Some part) = part.1

abbrev pub size_number : Dims → Option (Place × ℤ) → Checked
size_number dims None = fine
size_number dims (Some at) = within at.0 (is_within (length dims) at.1)

abbrev pub subscripts_node : ArrayNode-F (ArrayNode × Checked) Part → Checked
subscripts_node (ArrayNode-F.Vars vars kind dims subs) = subscripts dims subs
subscripts_node (ArrayNode-F.Sum terms) = every (λ term. term.2.1) terms
subscripts_node (ArrayNode-F.Product factors) = every (λ factor. factor.2.1) factors
subscripts_node (ArrayNode-F.Power base dotted exponent) = both base.1 exponent.1
subscripts_node (ArrayNode-F.Relation op left right) = both left.1 right.1
subscripts_node (ArrayNode-F.Not inner) = inner.1
subscripts_node (ArrayNode-F.All parts) = every of_part parts
subscripts_node (ArrayNode-F.Any parts) = every of_part parts
subscripts_node (ArrayNode-F.If branches other) = both (every (λ branch. both branch.0.1 branch.1.1) branches) other.1
subscripts_node (ArrayNode-F.Call function args) = every of_part args
subscripts_node (ArrayNode-F.Der inner) = inner.1
subscripts_node (ArrayNode-F.Array parts) = every of_part parts
subscripts_node (ArrayNode-F.Size part at) = both part.1 (size_number (shape_of part.0) at)
subscripts_node (ArrayNode-F.Sized function part sizes) = of_option part
subscripts_node _ = fine

abbrev pub subscripts_part : ArrayExpr-F (ArrayNode × Checked) Part → Checked
subscripts_part e = e.node.1

-- the first subscript of an expression that lies outside
abbrev pub subscripts_of : ArrayExpr → Checked
subscripts_of = para-ArrayExpr Checked Checked subscripts_node subscripts_part

abbrev pub subscripts_of_node : ArrayNode → Checked
subscripts_of_node = para-ArrayNode Checked Checked subscripts_node subscripts_part

abbrev pub part_of : ArrayExpr → Part
part_of e = (e, subscripts_of e)
