-- The scalar equations of an equation between array expressions (Modelica Language Specification 3.5, sections 8.3.1 and 10.6.1):
-- one for each element, the last index fastest. First the kinds of both sides are asked, then their dimensions, then their
-- subscripts, the left side before the right one.
use Rattle.std.specs.Prelude.{Bool, true, false, ◌&&◌, List, map, Ok, if◌then◌else◌, nat_eq}
use Rattle.mo_syntax.specs.Outcome.{Outcome, and_then, breaks}
use Rattle.mo_syntax.specs.declared.place.Place.{Place}
use Rattle.mo_syntax.specs.declared.meaning.Kind.{Kind}
use Rattle.mo_syntax.specs.declared.meaning.Kind.TheVariants.{Truth, Str, Enumeration}
use Rattle.mo_flat.specs.declared.array.ArrayExpr.{ArrayExpr}
use Rattle.mo_flat.specs.declared.model.FlatEquation.{FlatEquation}
use Rattle.mo_syntax.specs.declared.rules.TheConstants.{OUTSIDE_PROFILE, WRONG_TYPE}
use Rattle.mo_typing.specs.Kinds.{kind_of, is_number}
use Rattle.mo_typing.specs.Dims.{Dims, dims_of, matched}
use Rattle.mo_typing.specs.Indices.{Index, indices}
use Rattle.mo_arrays.specs.Elements.{element_of}
use Rattle.mo_typing.specs.Subscripts.{Checked, fine, both, subscripts_of}

-- the same kind other than a number
abbrev pub are_one : Kind → Kind → Bool
are_one Truth Truth = true
are_one Str Str = true
are_one (Enumeration a) (Enumeration b) = nat_eq a.0 b.0
are_one _ _ = false

abbrev pub sides : Place → Kind → Kind → Checked
sides place left right =
    if are_one left right then breaks OUTSIDE_PROFILE place else (if is_number left && is_number right then fine else breaks WRONG_TYPE place)

abbrev pub kinds_of_sides : ArrayExpr → ArrayExpr → Place → Checked
kinds_of_sides left right place = and_then (kind_of left) (λ a. and_then (kind_of right) (sides place a))

abbrev pub dims_of_sides : ArrayExpr → ArrayExpr → Place → Outcome Dims
dims_of_sides left right place = and_then (dims_of left) (λ a. and_then (dims_of right) (matched place a))

abbrev pub equation : ArrayExpr → ArrayExpr → Place → Index → FlatEquation
equation left right place index = record { left = element_of left index; right = element_of right index; place = place }

-- the dimensions of two sides, or the first rule that they break
abbrev pub checked_sides : ArrayExpr → ArrayExpr → Place → Outcome Dims
checked_sides left right place =
    and_then (kinds_of_sides left right place) (λ _.
    and_then (dims_of_sides left right place) (λ dims.
    and_then (both (subscripts_of left) (subscripts_of right)) (λ _. Ok dims)))

-- the equations of two sides, or the first rule that they break
abbrev pub equations_of : ArrayExpr → ArrayExpr → Place → Outcome (List FlatEquation)
equations_of left right place =
    and_then (checked_sides left right place) (λ dims. Ok (map (equation left right place) (indices dims)))
