-- What is asked of an expression by its layers.
use Rattle.std.proofs.Common.{◌≡◌, Ok, Err, refl}
use Rattle.mo_syntax.specs.Outcome.{Outcome, and_then}
use Rattle.mo_syntax.specs.declared.meaning.Kind.{Kind}
use Rattle.mo_syntax.specs.declared.place.Place.{Place}
use Rattle.mo_flat.specs.declared.array.ArrayExpr.{ArrayExpr}
use Rattle.mo_typing.specs.Dims.{Dims, dims_of}
use Rattle.mo_typing.specs.Indices.{Index}
use Rattle.mo_typing.specs.Kinds.{accepts, kind_of}
use Rattle.mo_typing.specs.Subscripts.{Checked, fine, subscripts_of}
use Rattle.mo_values.specs.Asked.{IsLayered, fitted, layered}
use Rattle.mo_values.specs.declared.layers.Layered.{Layered}
use Rattle.mo_values.specs.Scalars.{Known}
use Rattle.mo_eval.specs.Virtuals.{Element, Resolved, known_at}
use Rattle.mo_eval.specs.steps.Asking.{bound_in, fits_layers}

as_it_is : (told : Checked) → and_then told (λ u. Ok u) ≡ told
as_it_is (Ok u) = refl
as_it_is (Err broken) = refl

behind_kinds : (a b : Checked) → and_then a (λ _. and_then b (λ u. Ok u)) ≡ and_then a (λ _. b)
behind_kinds (Ok u) b = as_it_is b
behind_kinds (Err broken) b = refl

-- what is asked of an expression whose layers are known
pub asked_by_layers : (e : ArrayExpr) (kind : Kind) (dims : Dims) (wanted : Kind → Checked) (fit : Dims → Checked) → kind_of e ≡ Ok kind → dims_of e ≡ Ok dims → subscripts_of e ≡ fine →
    layered wanted fit e ≡ and_then (wanted kind) (λ _. fit dims)
asked_by_layers e kind dims wanted fit k d s = rw (k, d, s) (behind_kinds (wanted kind) (fit dims))

-- by its layers an expression is of a kind and fits as it does by what is asked of it
pub fits_by_layers : (e : ArrayExpr) (layers : Layered) (want : Kind) (place : Place) (pending : Index) → IsLayered e layers → layered (λ got. accepts want got place) (fitted place pending) e ≡ fits_layers want place pending layers
fits_by_layers e layers want place pending are = asked_by_layers e layers.kind layers.dims (λ got. accepts want got place) (fitted place pending) are.kind are.dims are.subscripts

-- what a binding that fits has
pub by_fit : (read : Element → Outcome Known) (want : Kind) (place : Place) (pending : Index) (resolved : Resolved) → layered (λ got. accepts want got place) (fitted place pending) resolved.expression ≡ Ok tt →
    bound_in read want place pending resolved ≡ known_at read resolved pending
by_fit read want place pending resolved fits = rw fits refl
