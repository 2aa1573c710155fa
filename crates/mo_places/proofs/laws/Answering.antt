-- Every place that the definitions of values, sizes, conditions, dimensions and resolved expressions answer stands in the trees of the files,
-- where the scope that is asked in stands there, and the expression.
use Rattle.std.proofs.Common.{ℕ}
use Rattle.mo_syntax.specs.declared.expr.Expr.{Expr}
use Rattle.mo_scope.specs.Frames.{Scope, Member}
use Rattle.mo_scope.specs.Rows.{Table}
use Rattle.mo_typing.specs.Indices.{Index}
use Rattle.mo_typing.specs.Kinds.{kind_of}
use Rattle.mo_values.specs.Asked.{fitted, any_kind, for_flat, for_value, layered}
use Rattle.mo_eval.specs.Components.{place_of, reader}
use Rattle.mo_eval.specs.Values.{component_dims, known_of, reading, resolved, resolved_for_value, sizes_of, there_of, value_of, value_of_element}
use Rattle.mo_eval.specs.Virtuals.{Ask, Element, Resolved}
use Rattle.mo_places.specs.InFiles.{Descends}
use Rattle.mo_places.specs.Resolved.{AskStands, ElementStands, ResolvedStands}
use Rattle.mo_places.specs.Stands.{Answers, Anything, FrameStands, MemberStands, TableStands}
use Rattle.mo_places.specs.Written.{Written, Valued}
use Rattle.mo_places.proofs.laws.Layers.{LayersStand, layered_answers, sizes_answer}
use Rattle.mo_places.proofs.laws.Measuring.{TypeSizesStand, dims_answer, is_there_answers}
use Rattle.mo_places.proofs.laws.Reading.{Deepens, ResolvesIn, element_value_answers, fitted_answers, reading_stands, value_place}
use Rattle.mo_places.proofs.laws.Resolving.{reads_stand}
use Rattle.mo_places.proofs.laws.Standing.{then_answers}

module _ (P : Written → Type 0) (descends : Descends P) (layers : LayersStand P) (table : Table) (stands : TableStands P table) (types : TypeSizesStand P table)
    (resolves : (ask : Ask) → AskStands P ask → ResolvesIn P table ask) where
  deepens : Deepens P table
  deepens = λ ask asks. record {
    is_there = is_there_answers P descends layers table stands types ask asks (resolves ask asks);
    dims = dims_answer P descends layers table stands types ask asks (resolves ask asks);
    value = element_value_answers P descends layers table stands ask asks (resolves ask asks);
  }

  pub asks : (left : ℕ) → AskStands P (reading table left)
  asks left = reading_stands P table deepens left

  pub there_of_answers : (left : ℕ) (member : Member) → MemberStands P member → Answers P Anything (there_of table left member)
  there_of_answers left member h = is_there_answers P descends layers table stands types (reading table left) (asks left) (resolves (reading table left) (asks left)) member h

  pub component_dims_answer : (left : ℕ) (member : Member) → MemberStands P member → Answers P Anything (component_dims table left member)
  component_dims_answer left member h = dims_answer P descends layers table stands types (reading table left) (asks left) (resolves (reading table left) (asks left)) member h

  pub value_of_element_answers : (left : ℕ) (element : Element) → ElementStands P element → Answers P Anything (value_of_element table left element)
  value_of_element_answers left element h = element_value_answers P descends layers table stands (reading table left) (asks left) (resolves (reading table left) (asks left)) element h

  pub resolved_answers : (left : ℕ) (scope : Scope) (e : Expr) → FrameStands P scope.frame → P (Valued e) → Answers P (ResolvedStands P) (resolved table left scope e)
  resolved_answers left scope e hf he = resolves (reading table left) (asks left) scope hf for_flat e he

  pub resolved_for_value_answers : (left : ℕ) (scope : Scope) (e : Expr) → FrameStands P scope.frame → P (Valued e) → Answers P (ResolvedStands P) (resolved_for_value table left scope e)
  resolved_for_value_answers left scope e hf he = resolves (reading table left) (asks left) scope hf for_value e he

  pub known_of_answers : (left : ℕ) (it : Resolved) (index : Index) → ResolvedStands P it → Answers P Anything (known_of table left it index)
  known_of_answers left it index h = layers.known (reader (reading table left)) (reads_stand P (reading table left) (asks left)) it h index

  pub sizes_of_answers : (left : ℕ) (scope : Scope) (e : Expr) → FrameStands P scope.frame → P (Valued e) → Answers P Anything (sizes_of table left scope e)
  sizes_of_answers left scope e hf he =
      then_answers P (ResolvedStands P) Anything (resolved_for_value table left scope e) _ (resolved_for_value_answers left scope e hf he) (λ it hr. sizes_answer P layers it.expression hr.expression)

  pub value_of_answers : (left : ℕ) (scope : Scope) (e : Expr) (index : Index) → FrameStands P scope.frame → P (Valued e) → Answers P Anything (value_of table left scope e index)
  value_of_answers left scope e index hf he =
      then_answers P (ResolvedStands P) Anything (resolved_for_value table left scope e) _ (resolved_for_value_answers left scope e hf he) (λ it hr.
      then_answers P Anything Anything (layered any_kind (fitted (place_of e) index) it.expression) _
      (layered_answers P layers Anything any_kind (fitted (place_of e) index) it.expression hr.expression (λ kind. record { holds = tt })
      (fitted_answers P (place_of e) (value_place P descends e he) index)) (λ _ _.
      then_answers P Anything Anything (kind_of it.expression) _ (layers.kind it.expression hr.expression) (λ kind _.
      then_answers P Anything Anything (known_of table left it index) _ (known_of_answers left it index hr) (λ known _. record { holds = tt }))))
