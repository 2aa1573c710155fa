-- Two operands: words of the contracts inside this crate alone.
use Rattle.std.specs.Prelude.{Bool, true, false, List, [], ◌∷◌}
use Rattle.mo_syntax.specs.Outcome.{and_then}
use Rattle.mo_syntax.specs.declared.place.Place.{Place}
use Rattle.mo_flat.specs.declared.array.ArrayExpr.{ArrayExpr}
use Rattle.mo_typing.specs.Dims.{dims_of, scalars}
use Rattle.mo_typing.specs.Subscripts.{Checked, subscripts_of}

abbrev pub are_two : List ArrayExpr → Bool
are_two (a ∷ b ∷ []) = true
are_two operands = false

-- their dimensions and their subscripts, where both are scalars
abbrev pub checked_two : Place → ArrayExpr → ArrayExpr → Checked
checked_two place a b =
    and_then (dims_of a) (λ m.
    and_then (dims_of b) (λ n.
    and_then (scalars place (m ∷ n ∷ [])) (λ _.
    and_then (subscripts_of a) (λ _. subscripts_of b))))
