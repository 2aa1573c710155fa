-- Expressions that are read for their values: words of the contracts inside this crate alone.
use Rattle.std.specs.Prelude.{[], None, Ok, if◌then◌else◌}
use Rattle.mo_syntax.specs.Outcome.{Outcome, and_then, breaks}
use Rattle.mo_syntax.specs.declared.meaning.Kind.{Kind}
use Rattle.mo_syntax.specs.declared.place.Place.{Place}
use Rattle.mo_syntax.specs.declared.rules.TheConstants.{WRONG_TYPE, NO_VALUE}
use Rattle.mo_typing.specs.Kinds.{accepts, kind_of}
use Rattle.mo_typing.specs.Indices.{Index}
use Rattle.mo_typing.specs.Subscripts.{Checked}
use Rattle.mo_values.specs.declared.layers.Layered.{Layered}
use Rattle.mo_values.specs.declared.value.Value.{Value}
use Rattle.mo_values.specs.Scalars.{Known, if_it_has, value_with}
use Rattle.mo_eval.specs.Virtuals.{Element, Resolved, known_at}
use Rattle.mo_values.specs.Asked.{any_kind, layered, only_whole, only_scalar, fitted}
use Rattle.mo_eval.specs.References.{is_replaced}

-- what a scalar Integer has, decided or not
abbrev pub end_in : (Element → Outcome Known) → Place → Resolved → Outcome Known
end_in read place resolved =
    and_then (layered (only_whole place) (only_scalar WRONG_TYPE place) resolved.expression) (λ _. known_at read resolved [])

-- what a binding has at its pending indices
abbrev pub bound_in : (Element → Outcome Known) → Kind → Place → Index → Resolved → Outcome Known
bound_in read want place pending resolved =
    and_then (layered (λ got. accepts want got place) (fitted place pending) resolved.expression) (λ _. known_at read resolved pending)

-- whether a binding with these layers is of the wanted kind and fits its pending indices
abbrev pub fits_layers : Kind → Place → Index → Layered → Checked
fits_layers want place pending layers = and_then (accepts want layers.kind place) (λ _. fitted place pending layers.dims)

-- what an element without a binding has: a constant that is replaced breaks rule 28 at the reference
abbrev pub unbound : Element → Outcome Known
unbound element = if is_replaced element then breaks NO_VALUE element.place else Ok None

-- the value of a resolved expression at its pending indices
abbrev pub value_in : (Element → Outcome Known) → Place → Index → Resolved → Outcome Value
value_in read place pending resolved =
    and_then (layered any_kind (fitted place pending) resolved.expression) (λ _.
    and_then (kind_of resolved.expression) (λ kind.
    and_then (known_at read resolved pending) (λ known. Ok (value_with kind (if_it_has kind known)))))
