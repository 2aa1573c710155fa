-- Every place that the definitions of values, sizes, conditions, dimensions and resolved expressions answer stands where the classes of the files
-- do, and the frame, the component or the expression that is asked about.
use Rattle.std.proofs.Common.{ℕ, List, []}
use Rattle.mo_syntax.specs.declared.expr.Expr.{Expr}
use Rattle.mo_flat.specs.declared.array.ArrayExpr.{ArrayExpr}
use Rattle.mo_scope.specs.Frames.{Member, Scope}
use Rattle.mo_scope.specs.Rows.{Table}
use Rattle.mo_typing.specs.Indices.{Index}
use Rattle.mo_eval.specs.Resolving.{made}
use Rattle.mo_values.specs.Asked.{for_flat}
use Rattle.mo_eval.specs.Values.{component_dims, known_of, most_references, reading, resolved, resolved_for_value, sides_of, sizes_of, there_of, value_of, value_of_element}
use Rattle.mo_eval.specs.Virtuals.{Ask, Element, Resolved, Virtual}
use Rattle.mo_places.specs.InFiles.{Descends}
use Rattle.mo_places.specs.Resolved.{ArrayStands, AskStands, ElementStands, PartStands, ResolvedStands, VirtualsStand}
use Rattle.mo_places.specs.Stands.{Answers, Anything, FrameStands, MemberStands, TableStands}
use Rattle.mo_places.specs.Written.{Written, Valued}
use Rattle.mo_places.proofs.laws.Answering.{asks, component_dims_answer, known_of_answers, resolved_answers, resolved_for_value_answers, sizes_of_answers, there_of_answers, value_of_answers, value_of_element_answers}
use Rattle.mo_places.proofs.laws.Making.{makes, then_makes}
use Rattle.mo_places.proofs.laws.Reading.{ResolvesIn}
use Rattle.mo_places.proofs.laws.values.Layered.{layers_stand}
use Rattle.mo_places.proofs.laws.values.Resolves.{resolves, resolving_stands}
use Rattle.mo_places.proofs.laws.values.TypeSizes.{type_sizes_stand}

module _ (P : Written → Type 0) (descends : Descends P) (table : Table) (stands : TableStands P table) where
  resolving : (ask : Ask) → AskStands P ask → ResolvesIn P table ask
  resolving = resolves P descends (layers_stand P) table stands

  -- what may be read, with so many references left
  pub reading_answers : (left : ℕ) → AskStands P (reading table left)
  reading_answers left = asks P descends (layers_stand P) table stands (type_sizes_stand P table stands) resolving left

  -- whether a component is there
  pub there_stands : (left : ℕ) (member : Member) → MemberStands P member → Answers P Anything (there_of table left member)
  there_stands left member h = there_of_answers P descends (layers_stand P) table stands (type_sizes_stand P table stands) resolving left member h

  -- its dimensions
  pub component_dims_stand : (left : ℕ) (member : Member) → MemberStands P member → Answers P Anything (component_dims table left member)
  component_dims_stand left member h = component_dims_answer P descends (layers_stand P) table stands (type_sizes_stand P table stands) resolving left member h

  -- the value of an element
  pub element_value_stands : (left : ℕ) (element : Element) → ElementStands P element → Answers P Anything (value_of_element table left element)
  element_value_stands left element h = value_of_element_answers P descends (layers_stand P) table stands (type_sizes_stand P table stands) resolving left element h

  -- an expression of the flat model, and one that is read for its value, resolved
  pub resolved_stands : (left : ℕ) (scope : Scope) (e : Expr) → FrameStands P scope.frame → P (Valued e) → Answers P (ResolvedStands P) (resolved table left scope e)
  resolved_stands left scope e hf he = resolved_answers P descends (layers_stand P) table stands (type_sizes_stand P table stands) resolving left scope e hf he

  pub resolved_for_value_stands : (left : ℕ) (scope : Scope) (e : Expr) → FrameStands P scope.frame → P (Valued e) → Answers P (ResolvedStands P) (resolved_for_value table left scope e)
  resolved_for_value_stands left scope e hf he = resolved_for_value_answers P descends (layers_stand P) table stands (type_sizes_stand P table stands) resolving left scope e hf he

  -- what is known of a resolved expression
  pub known_stands : (left : ℕ) (it : Resolved) (index : Index) → ResolvedStands P it → Answers P Anything (known_of table left it index)
  known_stands left it index h = known_of_answers P descends (layers_stand P) table stands (type_sizes_stand P table stands) resolving left it index h

  -- the dimensions of an expression, and its value
  pub sizes_stand : (left : ℕ) (scope : Scope) (e : Expr) → FrameStands P scope.frame → P (Valued e) → Answers P Anything (sizes_of table left scope e)
  sizes_stand left scope e hf he = sizes_of_answers P descends (layers_stand P) table stands (type_sizes_stand P table stands) resolving left scope e hf he

  pub value_stands : (left : ℕ) (scope : Scope) (e : Expr) (index : Index) → FrameStands P scope.frame → P (Valued e) → Answers P Anything (value_of table left scope e index)
  value_stands left scope e index hf he = value_of_answers P descends (layers_stand P) table stands (type_sizes_stand P table stands) resolving left scope e index hf he

  -- how an expression is resolved in any context
  pub part_stands : (left : ℕ) (scope : Scope) (e : Expr) → FrameStands P scope.frame → P (Valued e) → PartStands P (e, made table (reading table left) scope e)
  part_stands left scope e hf he = resolving_stands P descends (layers_stand P) table stands (reading table left) (reading_answers left) scope hf e he

  -- ---- two sides

  abbrev pub SidesStand : ArrayExpr × ArrayExpr → Type 0
  SidesStand sides = ArrayStands P sides.0 × ArrayStands P sides.1

  -- the two sides of an equation over one list of variables
  pub sides_stand : (scope : Scope) (left right : Expr) → FrameStands P scope.frame → P (Valued left) → P (Valued right) →
      Answers P (λ (made : (ArrayExpr × ArrayExpr) × List Virtual). SidesStand made.0 × VirtualsStand P made.1) (sides_of table scope left right)
  sides_stand scope left right hf hl hr =
      then_makes P (ArrayStands P) SidesStand (made table (reading table most_references) scope left for_flat) _ ((part_stands most_references scope left hf hl).1 for_flat) (λ first h1.
      then_makes P (ArrayStands P) SidesStand (made table (reading table most_references) scope right for_flat) _ ((part_stands most_references scope right hf hr).1 for_flat) (λ second h2.
      makes P SidesStand (first, second) (h1, h2))) [] tt
