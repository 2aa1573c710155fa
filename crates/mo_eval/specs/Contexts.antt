-- How the parts of an expression are resolved, and the layers behind resolving (Modelica Language Specification 3.5, sections 3.7,
-- 4.4.4, 10.4 and 10.5).
--
-- All that resolving an expression asks comes first, then its kinds, its dimensions and its subscripts.
use Rattle.std.specs.Prelude.{ℕ, ℤ, Bool, [], None, Ok, if◌then◌else◌}
use Rattle.mo_syntax.specs.Outcome.{Outcome, and_then}
use Rattle.mo_syntax.specs.declared.expr.Expr.{Expr, out-Expr}
use Rattle.mo_syntax.specs.declared.place.Place.{Place}
use Rattle.mo_flat.specs.declared.array.ArrayExpr.{ArrayExpr}
use Rattle.mo_syntax.specs.declared.rules.TheConstants.{WRONG_TYPE}
use Rattle.mo_values.specs.declared.context.Context.{Context}
use Rattle.mo_values.specs.Scalars.{Known, has_values}
use Rattle.mo_eval.specs.Virtuals.{Element, Ask, Making, Resolved, resolved_by, known_at}
use Rattle.mo_values.specs.Asked.{layered, only_whole, only_truth, only_scalar, must_be_whole}

-- ---- contexts

-- an expression, and how it is resolved
abbrev pub Part : Type 0
Part = Expr × (Context → Making ArrayExpr)

abbrev pub place_of : Part → Place
place_of part = (out-Expr part.0).place

-- resolved by itself
abbrev pub alone : Part → Context → Outcome Resolved
alone part context = resolved_by (part.1 context [])

-- ---- values that are asked while an expression is resolved

-- An element whose kind has no values is not read, but for a constant that is replaced: one of no instance, declared constant.
abbrev pub read_element : Ask → (Element → Bool) → Element → Outcome Known
read_element ask is_replaced element =
    if has_values element.kind then read else (if is_replaced element then read else Ok None)
  where
    read : Outcome Known
    read = and_then (ask element.place) (λ reading. reading.value element)

-- a scalar Integer that has a value: a size, or the number of a dimension
abbrev pub whole_of : (Element → Outcome Known) → Place → Resolved → Outcome ℤ
whole_of read place resolved =
    and_then (layered (only_whole place) (only_scalar WRONG_TYPE place) resolved.expression) (λ _.
    and_then (known_at read resolved []) (must_be_whole place))

-- a scalar Boolean, decided or not
abbrev pub truth_of : (Element → Outcome Known) → ℕ → Place → Resolved → Outcome Known
truth_of read rule place resolved =
    and_then (layered (only_truth rule place) (only_scalar rule place) resolved.expression) (λ _. known_at read resolved [])
