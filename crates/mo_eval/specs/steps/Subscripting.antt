-- Subscripts one by one: words of the contracts inside this crate alone.
use Rattle.std.specs.Prelude.{ℕ, List, [], ◌∷◌, Option, Ok}
use Rattle.mo_syntax.specs.Outcome.{Outcome, and_then}
use Rattle.mo_syntax.specs.declared.place.Place.{Place}
use Rattle.mo_flat.specs.declared.array.Subscript.{Subscript}
use Rattle.mo_flat.specs.declared.array.Subscript.TheVariants.{All, One, Many}
use Rattle.mo_typing.specs.Dims.{Dims}
use Rattle.mo_typing.specs.Indices.{Index}
use Rattle.mo_values.specs.Scalars.{Known}
use Rattle.mo_eval.specs.Virtuals.{Element, Resolved, known_at}
use Rattle.mo_eval.specs.Contexts.{Part}
use Rattle.mo_values.specs.Asked.{layered, must_be_whole, only_whole, scalar_or_vector}
use Rattle.mo_eval.specs.References.{numbers_of, read_subscript}

-- a subscript by the dimensions of its expression
abbrev pub numbers_by : (Index → Outcome Known) → Place → Dims → Outcome Subscript
numbers_by known place (n ∷ dims) = and_then (numbers_of known place n) (λ ns. Ok (Many place ns))
numbers_by known place [] = and_then (known []) (λ one. and_then (must_be_whole place one) (λ n. Ok (One place n)))

-- what a resolved subscript selects
abbrev pub subscript_in : (Element → Outcome Known) → Place → Resolved → Outcome Subscript
subscript_in read place resolved =
    and_then (layered (only_whole place) (scalar_or_vector place) resolved.expression) (numbers_by (known_at read resolved) place)

-- the first of some subscripts; `:` where there is none
abbrev pub subscript_at : (Element → Outcome Known) → ℕ → List (Option Part) → Outcome Subscript
subscript_at read size [] = Ok All
subscript_at read size (sub ∷ subs) = read_subscript read size sub
