-- The numbers that an iteration variable goes through, and what is known of an expression that is read for its value.
use Rattle.std.specs.Prelude.{ℤ, List, [], ◌∷◌, map, Result}
use Rattle.mo_syntax.specs.Outcome.{Outcome, and_then}
use Rattle.mo_syntax.specs.declared.expr.Expr.{Expr}
use Rattle.mo_syntax.specs.declared.meaning.Kind.{Kind}
use Rattle.mo_syntax.specs.declared.place.Stop.{Stop}
use Rattle.mo_scope.specs.Outcome.{Gives}
use Rattle.mo_scope.specs.Rows.{Table}
use Rattle.mo_scope.specs.Frames.{Scope}
use Rattle.mo_typing.specs.Dims.{Dims}
use Rattle.mo_typing.specs.Indices.{Index, numbers_to, range_element}
use Rattle.mo_typing.specs.Subscripts.{Checked}
use Rattle.mo_values.specs.Scalars.{Known}
use Rattle.mo_values.specs.Asked.{layered}
use Rattle.mo_eval.specs.Values.{known_of, most_references, resolved_for_value}
use Rattle.mo_equations.specs.declared.values.Numbers.{Numbers}
use Rattle.mo_equations.specs.declared.values.Numbers.TheVariants.{Listed, Range}

abbrev pub known_so : Table → (Kind → Checked) → (Dims → Checked) → Scope → Expr → Index → Outcome Known
known_so table wanted fit scope e index =
    and_then (resolved_for_value table most_references scope e) (λ resolved.
    and_then (layered wanted fit resolved.expression) (λ _. known_of table most_references resolved index))

-- ---- numbers

abbrev pub numbers_seen : Numbers → List ℤ
numbers_seen (Range first step count) = map (λ k. range_element first step (k ∷ [])) (numbers_to count)
numbers_seen (Listed numbers) = numbers

abbrev pub GivesNumbers : Result Numbers Stop → Outcome (List ℤ) → Type 0
GivesNumbers result told = Gives numbers_seen result told
